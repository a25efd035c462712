-- `session::slow::talk_end` meets its contract, by whether the input has ended and a room is too short. Assumes nothing.
use mathlib.Core.Path.{sym, ◌∙◌}
use Rattle.session.specs.Talks.{desk_with}
use Rattle.session.proofs.Ending.{IsFed}
use Rattle.session.proofs.Calling.{IsCall, end_refused, end_short, end_played, words_there, out_there}
use Rattle.session.proofs.slow.talk_end.Goals as goal

pub returns-then-again : goal.returns-then-again
unfolding IsCall
returns-then-again c = let both = end_refused (desk_with c.args.t c.args.area.now c.args.room.now c.args.words.now) c.if-again.true c.args.out.now _ c.refused.ensures in record { value = both.0; area_after = both.1.0; room_after = both.1.1.0; words_after = both.1.1.1.0; out_after = both.1.1.1.1 }

pub returns-then-lacks_room : goal.returns-then-lacks_room
unfolding IsCall
returns-then-lacks_room c = let both = end_short (desk_with c.args.t c.args.area.now c.args.room.now c.args.words.now) c.if-again.false c.args.out.now (sym c.lacks_room.ensures ∙ c.if-lacks_room.true) _ c.refused-then-lacks_room.ensures in record { value = both.0; area_after = both.1.0; room_after = both.1.1.0; words_after = both.1.1.1.0; out_after = both.1.1.1.1 }

pub play_end-x-requires : goal.play_end-x-requires
play_end-x-requires c = (words_there (desk_with c.args.t c.args.area.now c.args.room.now c.args.words.now) c.if-again.false c.args.out.now (sym c.lacks_room.ensures ∙ c.if-lacks_room.false), out_there (desk_with c.args.t c.args.area.now c.args.room.now c.args.words.now) c.if-again.false c.args.out.now (sym c.lacks_room.ensures ∙ c.if-lacks_room.false))

pub returns : goal.returns
unfolding IsCall IsFed
returns c = let both = end_played (desk_with c.args.t c.args.area.now c.args.room.now c.args.words.now) c.if-again.false c.args.out.now (sym c.lacks_room.ensures ∙ c.if-lacks_room.false) _ _ _ _ _ _ _ c.no_line.ensures (c.play_end-x.ensures.state_value, (c.play_end-x.ensures.length_value, (c.play_end-x.ensures.area_after, (c.play_end-x.ensures.words_after, (c.play_end-x.ensures.out_after, c.play_end-x.ensures.room_unchanged))))) in record { value = both.0; area_after = both.1.0; room_after = both.1.1.0; words_after = both.1.1.1.0; out_after = both.1.1.1.1 }
