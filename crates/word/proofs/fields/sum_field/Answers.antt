-- `word::fields::sum_field` meets its contract: after a shift by 18 a mask of 18 ones leaves the first half. Assumes nothing.
use Rattle.std.proofs.Common.{◌/◌, ◌^◌}
use lib.Bits.{and_mask, mask_lt}
use Rattle.word.specs.Sums.{first_half}
use Rattle.word.proofs.fields.sum_field.Goals as goal

pub returns : goal.returns
unfolding first_half
returns c = (and_mask (c.args.w / 2 ^ 18) 18, mask_lt (c.args.w / 2 ^ 18) 18)
