-- `state_image::images::put_image` meets its contract. By the sizes of both; the words are put after the state (`image_put`). Assumes nothing.
use native.Mathlib.Omega.{arith}
use Rattle.channel.specs.Units.{unit_count}
use Rattle.state_image.proofs.Joined.{image_put, other_bytes, other_area, both_fit}
use Rattle.state_image.proofs.Keeps.{words_sized}
use Rattle.state_image.proofs.images.put_image.Goals as goal

pub returns-then-out-ne-IMAGE : goal.returns-then-out-ne-IMAGE
returns-then-out-ne-IMAGE c = other_bytes c.args.out.now c.args.area.now _ _ (λ e. omega (arith, e, c.if-out-ne-IMAGE))

pub returns-then-area-ne-WORDS : goal.returns-then-area-ne-WORDS
returns-then-area-ne-WORDS c = other_area c.args.out.now c.args.area.now _ _ (λ e. omega (arith, e, c.if-area-ne-WORDS))

pub returns : goal.returns
returns c = both_fit c.args.out.now c.args.area.now _ _ (omega (arith, c.if-out-ne-IMAGE)) (omega (arith, c.if-area-ne-WORDS)) _ (image_put unit_count c.args.s c.args.area.now c.args.out.now _ _ (words_sized c.args.area.now) (omega (arith, c.if-out-ne-IMAGE)) c.put_state.ensures c.put_words.ensures)
