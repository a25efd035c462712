-- `file_output::is_complete` meets its contract, from the contract of `part_length`. Assumes nothing.
use Rattle.file_output.specs.Parts.{is_complete}
use Rattle.file_output.proofs.parts.is_complete.Goals as goal

pub returns : goal.returns
unfolding is_complete
returns c = simp c.part_length.ensures
