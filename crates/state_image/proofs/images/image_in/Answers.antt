-- `state_image::images::image_in` meets its contract. By its size, its soundness and its bytes (`image_other`, `image_same`). Assumes nothing.
use native.Mathlib.Omega.{arith}
use mathlib.Core.Path.{sym}
use lib.Seq.{length-take-le}
use Rattle.channel.specs.Units.{unit_count}
use Rattle.state_image.specs.Images.{state_size}
use Rattle.state_image.proofs.Joined.{image_other, image_same}
use Rattle.state_image.proofs.images.image_in.Goals as goal

pub returns-then-b-ne-IMAGE : goal.returns-then-b-ne-IMAGE
returns-then-b-ne-IMAGE c = image_other c.args.b.now _ c.before_start.ensures (λ e. omega (arith, e, c.if-b-ne-IMAGE))

pub slice_bounds-has_bytes-end : goal.slice_bounds-has_bytes-end
slice_bounds-has_bytes-end c = sym (length-take-le (state_size unit_count) c.args.b.now (omega (arith, c.if-b-ne-IMAGE)))

pub returns : goal.returns
returns c = image_same c.args.b.now _ _ _ (omega (arith, c.if-b-ne-IMAGE)) c.state_at-s.ensures c.is_sound-sound.ensures c.has_bytes-same.ensures
