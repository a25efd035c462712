-- `word::checks::error_of` meets its contract, by that of each field. Assumes nothing.
use Rattle.std.proofs.Common.{◌+◌, ap₂}
use Rattle.word.specs.Checks.{error_of}
use Rattle.word.proofs.checks.error_of.Goals as goal

pub returns : goal.returns
unfolding error_of
returns c = ap₂ ◌+◌ c.mismatch-a.ensures.0 c.mismatch-b.ensures.0
