-- `state_image::words::read_words` meets its contract. After i turns the first i words are read (`HasRead`). Assumes nothing.
use mathlib.Core.Path.{sym, ◌∙◌}
use Prim.Native.Nat.{◌≤◌}
use native.Mathlib.Omega.{arith}
use lib.ListN.{length}
use Rattle.codec.proofs.Loops.{read_none, read_room, read_one, read_all}
use lib.ListN.{drop_of_length-le}
use Rattle.codec.specs.Rows.{word_codec}
use Rattle.state_image.specs.Images.{image_words}
use Rattle.state_image.proofs.words.read_words.Goals as goal

pub loop-word-init : goal.loop-word-init
loop-word-init c = read_none word_codec image_words image_words c.args.start c.args.b.now _ (omega (arith, c.requires)) (omega (arith, c.requires)) c.requires.1

pub word_at-x-requires : goal.word_at-x-requires
word_at-x-requires c = omega (arith, read_room word_codec image_words image_words c.args.start c.args.b.now _ c.loop-word.word-index c.loop-word.at c.loop-word.area c.loop-word.invariant (omega (arith, c.requires)))

pub overflow_add-at : goal.overflow_add-at
overflow_add-at c = omega (arith, read_room word_codec image_words image_words c.args.start c.args.b.now _ c.loop-word.word-index c.loop-word.at c.loop-word.area c.loop-word.invariant (omega (arith, c.requires)), c.well_formed)

pub loop-word-preserved : goal.loop-word-preserved
loop-word-preserved c = rw c.word_at-x.ensures (read_one word_codec image_words image_words c.args.start c.args.b.now _ c.loop-word.word-index c.loop-word.at c.loop-word.area c.loop-word.invariant (omega (arith, c.requires)))

pub shape_of-area : goal.shape_of-area
shape_of-area c = c.loop-word.invariant.long ∙ sym c.requires.1

pub returns : goal.returns
returns c = read_all word_codec image_words image_words c.args.start c.args.b.now _ 0 c.loop-word.word-index c.loop-word.at c.loop-word.area c.loop-word.invariant (omega (arith, c.requires)) (let far : length c.args.area.now ≤ image_words = omega (arith, c.requires) in drop_of_length-le c.args.area.now far)
