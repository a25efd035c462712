-- `file_input::met_mark` meets its contract, from the contract of `gave_back`. Assumes nothing.
use Rattle.file_input.specs.Delivers.{met_mark}
use Rattle.file_input.proofs.delivers.met_mark.Goals as goal

pub returns : goal.returns
unfolding met_mark
returns c = simp c.gave_back.ensures
