use Rattle.codec.proofs.Loops.{HasWritten}
use Rattle.routines.specs.Ranks.{depth}
use Rattle.state_image.proofs.Posts.{program_keeps}
use Rattle.state_image.specs.Routines.{program_codec}
use Rattle.state_image.proofs.programs.put_pushed.Given as goal

abbrev pub invariant-loop-program : goal.invariant-loop-program
invariant-loop-program l = HasWritten program_codec program_keeps.sized depth l.at l.fn.pushed l.initial.out l.program-index l.to l.out
