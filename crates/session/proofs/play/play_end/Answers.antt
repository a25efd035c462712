-- `session::play::play_end` meets its contract, because a line feed ends the line that has begun. Assumes nothing.
use mathlib.Core.Bool.{false}
use Rattle.session.proofs.Turning.{IsPlayer}
use Rattle.session.proofs.Ending.{IsFed, fed, end_some, end_none}
use Rattle.session.proofs.play.play_end.Goals as goal

pub play_part-p-requires : goal.play_part-p-requires
play_part-p-requires c = c.requires.0

pub returns-then-has_begun : goal.returns-then-has_begun
unfolding IsFed IsPlayer
returns-then-has_begun c = let both = end_some c.args.s c.args.area.now c.args.line c.args.room.now c.args.words.now c.args.out.now _ c.has_begun.ensures c.if-has_begun.true _ _ _ _ _ _ (fed false c.args.s c.args.area.now c.args.line c.args.room.now c.args.words.now c.args.out.now c.requires.1 c.play_part-p.result _ _ _ _ (c.play_part-p.ensures.value, (c.play_part-p.ensures.area_after, (c.play_part-p.ensures.room_after, (c.play_part-p.ensures.words_after, c.play_part-p.ensures.out_after))))) in record { state_value = both.0; length_value = both.1.0; area_after = both.1.1.0; words_after = both.1.1.1.0; out_after = both.1.1.1.1.0; room_unchanged = both.1.1.1.1.1 }

pub returns : goal.returns
unfolding IsFed
returns c = let both = end_none c.args.s c.args.area.now c.args.line c.args.room.now c.args.words.now c.args.out.now _ c.has_begun.ensures c.if-has_begun.false in record { state_value = both.0; length_value = both.1.0; area_after = both.1.1.0; words_after = both.1.1.1.0; out_after = both.1.1.1.1.0; room_unchanged = both.1.1.1.1.1 }
