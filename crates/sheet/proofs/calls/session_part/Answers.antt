-- `sheet::calls::session_part` meets its contract, branch by branch. Assumes nothing.
use mathlib.Core.Path.{sym}
use lib.Seq.{length-take-le}
use Rattle.sheet.proofs.Steps.{session_shut, session_ended, session_open}
use Rattle.sheet.proofs.calls.session_part.Goals as goal

pub returns-then-asks_no_line : goal.returns-then-asks_no_line
returns-then-asks_no_line c = let both = session_shut c.args.d c.args.area.now c.args.room.now c.args.words.now c.args.bytes.now c.args.at c.args.out.now _ c.asks_no_line.ensures c.if-asks_no_line.true in record { value = both.0; area_after = both.1.0; room_after = both.1.1.0; words_after = both.1.1.1.0; out_after = both.1.1.1.1 }

pub slice_bounds-played-end-then-step : goal.slice_bounds-played-end-then-step
slice_bounds-played-end-then-step c = sym (length-take-le _ _ c.held_length-n.ensures.1)

pub returns-then-step : goal.returns-then-step
returns-then-step c = let both = session_ended c.args.d c.args.area.now c.args.room.now c.args.words.now c.args.bytes.now c.args.at c.args.out.now _ c.asks_no_line.ensures c.if-asks_no_line.false c.next_line-step.result c.next_line-step.ensures.value _ c.next_line-step.ensures.room_after c.if-step.true c.held_length-n.result c.held_length-n.ensures.0 _ _ _ _ _ (c.played-desk.ensures.value, (c.played-desk.ensures.area_after, (c.played-desk.ensures.words_after, (c.played-desk.ensures.out_after, c.played-desk.ensures.line_unchanged)))) in record { value = both.0; area_after = both.1.0; room_after = both.1.1.0; words_after = both.1.1.1.0; out_after = both.1.1.1.1 }

pub returns : goal.returns
returns c = let both = session_open c.args.d c.args.area.now c.args.room.now c.args.words.now c.args.bytes.now c.args.at c.args.out.now _ c.asks_no_line.ensures c.if-asks_no_line.false c.next_line-step.result c.next_line-step.ensures.value _ c.next_line-step.ensures.room_after c.if-step.false _ c.with_session-desk.ensures in record { value = both.0; area_after = both.1.0; room_after = both.1.1.0; words_after = both.1.1.1.0; out_after = both.1.1.1.1 }
