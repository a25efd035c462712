-- `state_image::units::put_unit` meets its contract. Its row fits, so it is put whole. Assumes nothing.
use native.Mathlib.Omega.{arith}
use Rattle.area.proofs.Pastes.{paste_fitting}
use Rattle.state_image.specs.Units.{unit_bytes}
use Rattle.state_image.proofs.units.put_unit.Goals as goal

pub returns : goal.returns
returns c = rw (c.put_bytes.ensures, c.unit_row-bytes.ensures, c.op_byte-op.ensures, c.turn_byte-kind.ensures, c.request_in-q.ensures) (paste_fitting c.args.at (unit_bytes c.args.u) c.args.out.now (omega (arith, c.requires)))
