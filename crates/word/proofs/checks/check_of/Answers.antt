-- `word::checks::check_of` meets its contract, by those of the fold, of the two fields and of their error. Assumes nothing.
use Rattle.word.specs.Checks.{check_of}
use Rattle.word.proofs.checks.check_of.Goals as goal

pub returns : goal.returns
unfolding check_of
returns c = rw (c.error_of.ensures, c.folded-due.ensures.0, c.sum_field-sumread.ensures.0, c.number_field-numberread.ensures.0)
