-- `session::slow::talk_part` meets its contract, by whether the input has ended and a room is too short. Assumes nothing.
use Rattle.session.proofs.Calling.{words_there}
use mathlib.Core.Path.{sym, ◌∙◌}
use Rattle.session.specs.Talks.{desk_with}
use Rattle.session.proofs.Turning.{IsPlayer}
use Rattle.session.proofs.Calling.{IsCall, part_refused, part_short, part_played}
use Rattle.session.proofs.slow.talk_part.Goals as goal

pub returns-then-over : goal.returns-then-over
unfolding IsCall
returns-then-over c = let both = (let a = c.args in
    part_refused (desk_with a.t a.area.now a.room.now a.words.now) c.if-over.true a.bytes.now a.at a.out.now _ c.refused.ensures) in record { value = both.0; area_after = both.1.0; room_after = both.1.1.0; words_after = both.1.1.1.0; out_after = both.1.1.1.1 }

pub returns-then-lacks_room : goal.returns-then-lacks_room
unfolding IsCall
returns-then-lacks_room c = let both = (let a = c.args in
    part_short (desk_with a.t a.area.now a.room.now a.words.now) c.if-over.false a.out.now (sym c.lacks_room.ensures ∙ c.if-lacks_room.true) a.bytes.now a.at _ c.refused-then-lacks_room.ensures) in record { value = both.0; area_after = both.1.0; room_after = both.1.1.0; words_after = both.1.1.1.0; out_after = both.1.1.1.1 }

pub play_part-p-requires : goal.play_part-p-requires
play_part-p-requires c = words_there (desk_with c.args.t c.args.area.now c.args.room.now c.args.words.now) c.if-over.false c.args.out.now (sym c.lacks_room.ensures ∙ c.if-lacks_room.false)

pub returns : goal.returns
unfolding IsCall IsPlayer
returns c = let both = (let a = c.args in
    part_played (desk_with a.t a.area.now a.room.now a.words.now) c.if-over.false a.out.now (sym c.lacks_room.ensures ∙ c.if-lacks_room.false) a.bytes.now a.at c.play_part-p.result _ _ _ _ (c.play_part-p.ensures.value, (c.play_part-p.ensures.area_after, (c.play_part-p.ensures.room_after, (c.play_part-p.ensures.words_after, c.play_part-p.ensures.out_after))))) in record { value = both.0; area_after = both.1.0; room_after = both.1.1.0; words_after = both.1.1.1.0; out_after = both.1.1.1.1 }
