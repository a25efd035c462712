-- `state_image::units::put_units` meets its contract. After i turns the first i units are put (`HasWritten`). Assumes nothing.
use native.Mathlib.Omega.{arith}
use Rattle.codec.proofs.Loops.{written_none, written_room, written_length, written_one, written_all}
use Rattle.state_image.proofs.Keeps.{unit_keeps}
use mathlib.Core.Bool.{false}
use Rattle.channel.specs.Units.{unit_count, idle_unit}
use Rattle.state_image.specs.Units.{unit_codec}
use Rattle.state_image.proofs.units.put_units.Goals as goal

pub loop-i-init : goal.loop-i-init
loop-i-init c = written_none unit_codec unit_keeps.sized c.args.n c.args.at c.args.units c.args.out.now (omega (arith, c.well_formed, c.requires)) c.requires.1

pub bounds-units-i : goal.bounds-units-i
bounds-units-i c = omega (arith, c.loop-i.invariant.within, c.requires)

pub put_unit-requires : goal.put_unit-requires
put_unit-requires c = written_room unit_codec unit_keeps.sized c.args.n c.args.at c.args.units c.args.out.now c.loop-i.i c.loop-i.to c.loop-i.out c.loop-i.invariant (omega arith)

pub overflow_add-to : goal.overflow_add-to
overflow_add-to c = omega (arith, written_room unit_codec unit_keeps.sized c.args.n c.args.at c.args.units c.args.out.now c.loop-i.i c.loop-i.to c.loop-i.out c.loop-i.invariant (omega arith), written_length unit_codec unit_keeps.sized c.args.n c.args.at c.args.units c.args.out.now c.loop-i.i c.loop-i.to c.loop-i.out c.loop-i.invariant, c.well_formed)

pub loop-i-preserved : goal.loop-i-preserved
loop-i-preserved c = rw c.put_unit.ensures (written_one unit_codec unit_keeps.sized c.args.n c.args.at c.args.units c.args.out.now (idle_unit false) c.loop-i.i c.loop-i.to c.loop-i.out c.loop-i.invariant (omega arith))

pub shape_of-out : goal.shape_of-out
shape_of-out c = written_length unit_codec unit_keeps.sized c.args.n c.args.at c.args.units c.args.out.now c.loop-i.i c.loop-i.to c.loop-i.out c.loop-i.invariant

pub returns : goal.returns
returns c = written_all unit_codec unit_keeps.sized c.args.n c.args.at c.args.units c.args.out.now (idle_unit false) unit_count c.loop-i.i c.loop-i.to c.loop-i.out c.loop-i.invariant (omega arith)
