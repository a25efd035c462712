-- `pool::masks::all_held` meets its contract, from the contract of `held_bits`. Assumes nothing.
use mathlib.Core.Path.{sym, subst}
use Prim.Native.Nat.{ℕ, ◌^◌, ◌<◌}
use native.Mathlib.Omega.{arith}
use lib.Bits.{or_lt}
use Rattle.area.proofs.Masks.{mask_lt}
use Rattle.pool.specs.Free.{buffer_limit}
use Rattle.pool.proofs.FreeMasks.{held_more, held_all, held_none}
use Rattle.pool.proofs.masks.all_held.Goals as goal

pub loop-file-init : goal.loop-file-init
loop-file-init c = (omega arith, λ b l. held_none _ b)

pub loop-file-preserved : goal.loop-file-preserved
loop-file-preserved c = (or_lt buffer_limit _ _ c.loop-file.invariant.0 (subst (λ (x : ℕ). x < 2 ^ buffer_limit) (sym c.held_bits-held.ensures) (mask_lt _ buffer_limit 0)), held_more _ _ _ _ (omega arith) c.held_bits-held.ensures c.loop-file.invariant.1)

pub returns : goal.returns
returns c = held_all c.args.files c.loop-file.file-index _ c.loop-file.invariant.0 (omega arith) c.loop-file.invariant.1
