use Rattle.codec.proofs.Loops.{HasWritten}
use Rattle.codec.specs.Rows.{word_codec}
use Rattle.codec.proofs.Numbers.{word_keeps}
use Rattle.state_image.specs.Images.{image_words}
use Rattle.state_image.proofs.words.put_words.Given as goal

abbrev pub invariant-loop-word : goal.invariant-loop-word
invariant-loop-word l = HasWritten word_codec word_keeps.sized image_words l.at l.area l.initial.out l.word-index l.to l.out
