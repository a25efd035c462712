use Rattle.codec.proofs.Loops.{HasWritten}
use Rattle.state_image.proofs.Keeps.{unit_keeps}
use Rattle.state_image.specs.Units.{unit_codec}
use Rattle.state_image.proofs.units.put_units.Given as goal

abbrev pub invariant-loop-i : goal.invariant-loop-i
invariant-loop-i l = HasWritten unit_codec unit_keeps.sized l.n l.at l.units l.initial.out l.i l.to l.out
