-- `pool::masks::held_bits` meets its contract, branch by branch, from the contract of `bit_of`. Assumes nothing.
use borrow.Author.Tests.{not-true, not-false}
use Rattle.pool.proofs.FreeMasks.{none_held, one_held_lem, two_held}
use Rattle.pool.proofs.masks.held_bits.Goals as goal

pub returns-then-not-f : goal.returns-then-not-f
returns-then-not-f c = none_held c.args.f (not-true _ c.if-not-f.true)

pub returns-then-not-f-2 : goal.returns-then-not-f-2
returns-then-not-f-2 c = one_held_lem c.args.f _ (not-false _ c.if-not-f.false) (not-true _ c.if-not-f-2.true) c.bit_of-low.ensures

pub returns : goal.returns
returns c = two_held c.args.f _ _ (not-false _ c.if-not-f.false) (not-false _ c.if-not-f-2.false) c.bit_of-low.ensures c.bit_of.ensures
