-- `desk_of` meets its contract: of the units that were passed each mask has the bits of those that stand so. Assumes nothing.
use mathlib.Core.Path.{sym, subst}
use Prim.Native.Nat.{◌+◌}
use native.Mathlib.Omega.{arith}
use Rattle.channel_turns.specs.Scans.{ordinary, priority, working, stands}
use Rattle.channel_turns.proofs.Laws.Masks.{Passed, passed_more}
use Rattle.channel_turns.proofs.Laws.Desks.{desk_passed}
use Rattle.channel_turns.proofs.desks.desk_of.Goals as goal

pub loop-i-preserved : goal.loop-i-preserved
loop-i-preserved c = (
  c.loop-i.invariant.0,
  subst (Passed (stands c.args.c working) (c.loop-i.i + 1)) (sym c.with_also-working.ensures) (passed_more _ _ _ _ c.stands.ensures (omega arith) c.loop-i.invariant.1),
  subst (Passed (stands c.args.c priority) (c.loop-i.i + 1)) (sym c.with_also-priority.ensures) (passed_more _ _ _ _ c.stands-in-loop-i.ensures (omega arith) c.loop-i.invariant.2),
  subst (Passed (stands c.args.c ordinary) (c.loop-i.i + 1)) (sym c.with_also-ordinary.ensures) (passed_more _ _ _ _ c.stands-in-loop-i-2.ensures (omega arith) c.loop-i.invariant.3),
)

pub returns : goal.returns
returns c = desk_passed _ c.loop-i.i _ _ _ (omega arith) c.loop-i.invariant.1 c.loop-i.invariant.2 c.loop-i.invariant.3
