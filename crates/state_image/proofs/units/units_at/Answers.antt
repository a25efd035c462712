-- `state_image::units::units_at` meets its contract. After i turns the first i units are read (`HasRead`). Assumes nothing.
use mathlib.Core.Path.{refl, ap, ◌∙◌}
use native.Mathlib.Omega.{arith}
use lib.ListN.{drop}
use Rattle.codec.proofs.Loops.{read_none, read_room, read_one, read_all, drop_blanks}
use mathlib.Core.Bool.{false}
use Rattle.channel.specs.Units.{unit_count, idle_unit}
use Rattle.state_image.specs.Units.{unit_codec}
use Rattle.state_image.proofs.units.units_at.Goals as goal

pub loop-i-init : goal.loop-i-init
loop-i-init c = (refl, read_none unit_codec unit_count c.args.n c.args.start c.args.b.now _ c.requires.0 c.requires.1 refl)

pub unit_at-u-requires : goal.unit_at-u-requires
unit_at-u-requires c = omega (arith, read_room unit_codec unit_count c.args.n c.args.start c.args.b.now _ c.loop-i.i c.loop-i.at c.loop-i.units c.loop-i.invariant.1 (omega arith))

pub bounds-units-i : goal.bounds-units-i
bounds-units-i c = omega (arith, c.loop-i.invariant.1.fits)

pub overflow_add-at : goal.overflow_add-at
overflow_add-at c = omega (arith, read_room unit_codec unit_count c.args.n c.args.start c.args.b.now _ c.loop-i.i c.loop-i.at c.loop-i.units c.loop-i.invariant.1 (omega arith), c.well_formed)

pub loop-i-preserved : goal.loop-i-preserved
loop-i-preserved c = (c.loop-i.invariant.0, rw c.unit_at-u.ensures (read_one unit_codec unit_count c.args.n c.args.start c.args.b.now _ c.loop-i.i c.loop-i.at c.loop-i.units c.loop-i.invariant.1 (omega arith)))

pub returns : goal.returns
returns c = read_all unit_codec unit_count c.args.n c.args.start c.args.b.now _ (idle_unit false) c.loop-i.i c.loop-i.at c.loop-i.units c.loop-i.invariant.1 (omega arith) (ap (drop c.args.n) c.loop-i.invariant.0 ∙ drop_blanks (idle_unit false) c.args.n unit_count)
