-- `word::sums::folded` meets its contract: the carry_back addition at 18 bits of the two halves. Assumes nothing.
use Rattle.std.proofs.Common.{◌/◌, ◌^◌, ◌∙◌, ap₂, rules}
use lib.Bits.{and_mask, mask_lt}
use Rattle.word.specs.Sums.{carry_back, first_half, last_half, folded}
use Rattle.word.proofs.sums.folded.Goals as goal

pub carry_back-requires : goal.carry_back-requires
carry_back-requires c = (search rules, mask_lt (c.args.sum / 2 ^ 18) 18, mask_lt c.args.sum 18)

pub returns : goal.returns
unfolding folded first_half last_half
returns c = let s = c.args.sum in
    (c.carry_back.ensures.0 ∙ ap₂ (carry_back 18) (and_mask (s / 2 ^ 18) 18) (and_mask s 18), c.carry_back.ensures.1)
