use Rattle.codec.proofs.Loops.{HasWritten}
use Rattle.state_image.proofs.Posts.{post_keeps}
use Rattle.state_image.specs.Routines.{post_codec}
use Rattle.state_image.proofs.programs.put_unit_posts.Given as goal

abbrev pub invariant-loop-i : goal.invariant-loop-i
invariant-loop-i l = HasWritten post_codec post_keeps.sized l.n l.at l.units l.initial.out l.i l.to l.out
