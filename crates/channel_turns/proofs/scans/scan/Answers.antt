-- `scan` meets its contract: what is left of the scan gives the answer of the whole. Assumes nothing.
use mathlib.Core.Path.{sym, ◌∙◌, ap}
use Prim.Native.Nat.{ℕ, ◌-◌}
use native.Mathlib.Omega.{arith}
use borrow.Author.Tests.{eq-eqb, ne_eqb}
use Rattle.area.specs.Lists.{first_along}
use Rattle.area.specs.Masks.{bit_at}
use Rattle.area.proofs.Firsts.{first_stop, first_go, first_none}
use Rattle.channel.specs.Units.{unit_count}
use Rattle.channel_turns.specs.Scans.{next_unit}
use Rattle.channel_turns.specs.Desks.{scan_of}
use Rattle.channel_turns.proofs.Laws.Scans.{next_below, begin_below}
use Rattle.channel_turns.proofs.Laws.Masks.{scan_none, scan_starts}
use Rattle.channel_turns.proofs.scans.scan.Goals as goal

pub returns-then-mask-eq0 : goal.returns-then-mask-eq0
returns-then-mask-eq0 c = (sym (ap (λ (m : ℕ). scan_of unit_count m c.args.mark) c.if-mask-eq0.true ∙ scan_none unit_count c.args.mark), omega arith)

pub loop-left-init : goal.loop-left-init
loop-left-init c = (omega (arith, c.begin-at.ensures, begin_below unit_count c.args.mark (omega arith)), omega arith, scan_starts unit_count c.args.mask c.args.mark _ c.begin-at.ensures)

pub overflow_shr-mask : goal.overflow_shr-mask
overflow_shr-mask c = omega arith

pub overflow_sub-left : goal.overflow_sub-left
overflow_sub-left c = omega arith

pub loop-left-smaller : goal.loop-left-smaller
loop-left-smaller c = omega arith

pub loop-left-preserved : goal.loop-left-preserved
loop-left-preserved c = (omega (arith, c.next_unit-at.ensures, next_below unit_count c.loop-left.at (omega arith)), omega arith, c.loop-left.invariant.2 ∙ first_go (next_unit unit_count) (bit_at c.args.mask) c.loop-left.left c.loop-left.at (omega arith) (ne_eqb _ _ c.if-mask-at-eq1.false) ∙ ap (first_along (next_unit unit_count) (bit_at c.args.mask) (c.loop-left.left - 1)) (sym c.next_unit-at.ensures))

pub returns-then-left-eq0 : goal.returns-then-left-eq0
returns-then-left-eq0 c = (sym (c.loop-left.invariant.2 ∙ ap (λ (n : ℕ). first_along (next_unit unit_count) (bit_at c.args.mask) n c.loop-left.at) c.if-left-eq0.true ∙ first_none _ _ _), omega arith)

pub returns-then-mask-at-eq1 : goal.returns-then-mask-at-eq1
returns-then-mask-at-eq1 c = (sym (c.loop-left.invariant.2 ∙ first_stop (next_unit unit_count) (bit_at c.args.mask) c.loop-left.left c.loop-left.at (omega arith) (eq-eqb _ _ c.if-mask-at-eq1.true)), c.loop-left.invariant.0)
