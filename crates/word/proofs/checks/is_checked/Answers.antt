-- `word::checks::is_checked` meets its contract, by the error of its fields. Assumes nothing.
use Rattle.word.specs.Checks.{is_checked}
use Rattle.word.proofs.checks.is_checked.Goals as goal

pub returns : goal.returns
unfolding is_checked
returns c = rw c.error_of-error.ensures
