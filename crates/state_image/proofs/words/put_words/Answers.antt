-- `state_image::words::put_words` meets its contract. After i turns the first i words are put (`HasWritten`). Assumes nothing.
use native.Mathlib.Omega.{arith}
use Rattle.codec.proofs.Loops.{written_none, written_room, written_length, written_one, written_all}
use Rattle.codec.specs.Rows.{word_codec}
use Rattle.codec.proofs.Numbers.{word_keeps}
use Rattle.state_image.specs.Images.{image_words}
use Rattle.state_image.proofs.words.put_words.Goals as goal

pub loop-word-init : goal.loop-word-init
loop-word-init c = written_none word_codec word_keeps.sized image_words c.args.at c.args.area.now c.args.out.now (omega (arith, c.requires)) c.requires.0

pub put_word-requires : goal.put_word-requires
put_word-requires c = written_room word_codec word_keeps.sized image_words c.args.at c.args.area.now c.args.out.now c.loop-word.word-index c.loop-word.to c.loop-word.out c.loop-word.invariant (omega (arith, c.requires))

pub overflow_add-to : goal.overflow_add-to
overflow_add-to c = omega (arith, written_room word_codec word_keeps.sized image_words c.args.at c.args.area.now c.args.out.now c.loop-word.word-index c.loop-word.to c.loop-word.out c.loop-word.invariant (omega (arith, c.requires)), written_length word_codec word_keeps.sized image_words c.args.at c.args.area.now c.args.out.now c.loop-word.word-index c.loop-word.to c.loop-word.out c.loop-word.invariant, c.well_formed)

pub loop-word-preserved : goal.loop-word-preserved
loop-word-preserved c = rw c.put_word.ensures (written_one word_codec word_keeps.sized image_words c.args.at c.args.area.now c.args.out.now 0 c.loop-word.word-index c.loop-word.to c.loop-word.out c.loop-word.invariant (omega (arith, c.requires)))

pub shape_of-out : goal.shape_of-out
shape_of-out c = written_length word_codec word_keeps.sized image_words c.args.at c.args.area.now c.args.out.now c.loop-word.word-index c.loop-word.to c.loop-word.out c.loop-word.invariant

pub returns : goal.returns
returns c = written_all word_codec word_keeps.sized image_words c.args.at c.args.area.now c.args.out.now 0 image_words c.loop-word.word-index c.loop-word.to c.loop-word.out c.loop-word.invariant (omega (arith, c.requires))
