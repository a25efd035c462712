-- `word::checks::is_exact` meets its contract, by the error of its fields. Assumes nothing.

use Rattle.word.proofs.checks.is_exact.Goals as goal

pub returns : goal.returns
returns c = rw c.error_of.ensures
