-- `word::fields::number_field` meets its contract: a mask of 15 ones leaves the low 15 bits. Assumes nothing.
use lib.Bits.{and_mask, mask_lt}
use Rattle.word.specs.CheckWords.{address}
use Rattle.word.proofs.fields.number_field.Goals as goal

pub returns : goal.returns
unfolding address
returns c = (and_mask c.args.w 15, mask_lt c.args.w 15)
