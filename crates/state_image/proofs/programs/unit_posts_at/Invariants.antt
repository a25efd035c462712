use Rattle.channel.specs.Units.{unit_count}
use Rattle.codec.proofs.Loops.{HasRead}
use Rattle.routines.specs.Posts.{empty_post}
use Rattle.state_image.specs.Routines.{post_codec}
use lib.ListN.{replicate}
use mathlib.Core.Path.{◌≡◌}
use Rattle.state_image.proofs.programs.unit_posts_at.Given as goal

abbrev pub invariant-loop-i : goal.invariant-loop-i
invariant-loop-i l = (l.initial.units ≡ replicate unit_count empty_post) × HasRead post_codec unit_count l.n l.start l.b l.initial.units l.i l.at l.units
