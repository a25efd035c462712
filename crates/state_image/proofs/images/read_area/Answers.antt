-- `state_image::images::read_area` meets its contract. By the sizes of both (`other_bytes`, `other_area`, `both_fit`). Assumes nothing.
use native.Mathlib.Omega.{arith}
use Rattle.state_image.specs.Images.{area_in}
use Rattle.state_image.proofs.Joined.{other_bytes, other_area, both_fit}
use Rattle.state_image.proofs.images.read_area.Goals as goal

pub returns-then-b-ne-IMAGE : goal.returns-then-b-ne-IMAGE
returns-then-b-ne-IMAGE c = other_bytes c.args.b.now c.args.area.now _ _ (λ e. omega (arith, e, c.if-b-ne-IMAGE))

pub returns-then-area-ne-WORDS : goal.returns-then-area-ne-WORDS
returns-then-area-ne-WORDS c = other_area c.args.b.now c.args.area.now _ _ (λ e. omega (arith, e, c.if-area-ne-WORDS))

pub returns : goal.returns
unfolding area_in
returns c = both_fit c.args.b.now c.args.area.now _ _ (omega (arith, c.if-b-ne-IMAGE)) (omega (arith, c.if-area-ne-WORDS)) _ c.read_words.ensures
