-- `session::play::answer_line` meets its contract, because the state is judged for all of the line, and a line feed ends it. Assumes nothing.
use mathlib.Core.Bool.{not, false}
use borrow.Author.Tests.{ltb-false}
use lib.Dec.{ltb}
use lib.ListN.{length}
use Rattle.area.proofs.Walks.{or_left, or_right}
use Rattle.session.specs.Rooms.{most_words, most_text}
use Rattle.session.proofs.Turning.{IsPlayer}
use Rattle.session.proofs.Ending.{IsFed, fed, fed_same, alone, alone_none}
use Rattle.session.proofs.play.answer_line.Goals as goal

pub returns-then-words-out : goal.returns-then-words-out
unfolding IsFed
returns-then-words-out c = let both = alone_none c.args.s c.args.area.now c.args.line.now c.args.words.now c.args.out.now c.if-words-out.true in record { state_value = both.0; length_value = both.1.0; area_after = both.1.1.0; words_after = both.1.1.1.0; out_after = both.1.1.1.1.0; line_unchanged = both.1.1.1.1.1 }

pub play_part-p-requires : goal.play_part-p-requires
play_part-p-requires c = ltb-false (length c.args.words.now) most_words (or_left _ _ c.if-words-out.false)

pub returns : goal.returns
unfolding IsFed IsPlayer
returns c = let both = fed_same _ _ (alone c.args.s c.args.area.now c.args.line.now c.args.words.now c.args.out.now c.is_sound-good.result c.is_sound-good.ensures) c.args.line.now _ _ _ _ _ _ (fed (not c.is_sound-good.result) c.args.s c.args.area.now (record { filled = length c.args.line.now; overlong = false }) c.args.line.now c.args.words.now c.args.out.now (ltb-false (length c.args.out.now) most_text (or_right (ltb (length c.args.words.now) most_words) (ltb (length c.args.out.now) most_text) c.if-words-out.false)) c.play_part-p.result _ _ _ _ (c.play_part-p.ensures.value, (c.play_part-p.ensures.area_after, (c.play_part-p.ensures.room_after, (c.play_part-p.ensures.words_after, c.play_part-p.ensures.out_after))))) in record { state_value = both.0; length_value = both.1.0; area_after = both.1.1.0; words_after = both.1.1.1.0; out_after = both.1.1.1.1.0; line_unchanged = both.1.1.1.1.1 }
