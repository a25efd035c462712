use Rattle.codec.proofs.Loops.{HasRead}
use Rattle.routines.specs.Ranks.{depth, main_program}
use Rattle.state_image.specs.Routines.{program_codec}
use lib.ListN.{replicate}
use mathlib.Core.Path.{◌≡◌}
use Rattle.state_image.proofs.programs.pushed_at.Given as goal

abbrev pub invariant-loop-program : goal.invariant-loop-program
invariant-loop-program l = (l.initial.program-items ≡ replicate depth main_program) × HasRead program_codec depth depth l.start l.b l.initial.program-items l.program-index l.at l.program-items
