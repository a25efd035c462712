use Prim.Native.Nat.{◌*◌}
use Rattle.channel.specs.Units.{channel_count}
use Rattle.codec.proofs.Loops.{HasRead}
use Rattle.state_image.specs.Routines.{post_size, posts_codec, empty_posts}
use lib.ListN.{replicate}
use mathlib.Core.Path.{◌≡◌}
use Rattle.state_image.proofs.programs.posts_at.Given as goal

abbrev pub invariant-loop-channel : goal.invariant-loop-channel
invariant-loop-channel l = (l.size ≡ l.n * post_size) × (l.initial.channel-items ≡ replicate channel_count empty_posts) × HasRead (posts_codec l.n) channel_count channel_count l.start l.b l.initial.channel-items l.channel-index l.at l.channel-items
