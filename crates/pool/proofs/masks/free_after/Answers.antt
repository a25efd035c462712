-- `pool::masks::free_after` meets its contract, case by case, from the contract of `held_bits`. Assumes nothing.
use mathlib.Core.Path.{sym, ◌∙◌}
use native.Mathlib.Omega.{arith}
use Rattle.pool.proofs.FreeMasks.{after_same, after_open, after_close}
use Rattle.pool.proofs.masks.free_after.Goals as goal

pub returns-in-true-false : goal.returns-in-true-false
returns-in-true-false c = after_close c.args.mask _ c.args.f c.args.g (omega arith) c.in-true-false.is-0 c.in-true-false.is-1 c.held_bits.ensures

pub returns-in-false-true : goal.returns-in-false-true
returns-in-false-true c = after_open c.args.mask _ c.args.f c.args.g (omega arith) c.in-false-true.is-0 c.in-false-true.is-1 c.held_bits-in-false-true.ensures

pub returns-in_default : goal.returns-in_default
returns-in_default c = after_same c.args.mask c.args.f c.args.g (c.in_default.is-0 ∙ sym c.in_default.is-1)

pub returns-in_default-2 : goal.returns-in_default-2
returns-in_default-2 c = after_same c.args.mask c.args.f c.args.g (c.in_default.is-0 ∙ sym c.in_default.is-1)
