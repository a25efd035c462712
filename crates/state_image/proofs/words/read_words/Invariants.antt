use Rattle.codec.proofs.Loops.{HasRead}
use Rattle.codec.specs.Rows.{word_codec}
use Rattle.state_image.specs.Images.{image_words}
use Rattle.state_image.proofs.words.read_words.Given as goal

abbrev pub invariant-loop-word : goal.invariant-loop-word
invariant-loop-word l = HasRead word_codec image_words image_words l.start l.b l.initial.area l.word-index l.at l.area
