use Prim.Native.Nat.{◌*◌}
use Rattle.channel.specs.Units.{channel_count}
use Rattle.codec.proofs.Loops.{HasWritten}
use Rattle.state_image.proofs.Posts.{posts_sized}
use Rattle.state_image.specs.Routines.{post_size, posts_codec}
use mathlib.Core.Path.{◌≡◌}
use Rattle.state_image.proofs.programs.put_posts.Given as goal

abbrev pub invariant-loop-channel : goal.invariant-loop-channel
invariant-loop-channel l = (l.size ≡ l.n * post_size) × HasWritten (posts_codec l.n) (posts_sized l.n) channel_count l.at l.fn.posts l.initial.out l.channel-index l.to l.out
