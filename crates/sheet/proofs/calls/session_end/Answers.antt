-- `sheet::calls::session_end` meets its contract, branch by branch. Assumes nothing.
use mathlib.Core.Path.{sym}
use lib.Seq.{length-take-le}
use Rattle.sheet.proofs.Steps.{end_shut, end_begun, end_none}
use Rattle.sheet.proofs.calls.session_end.Goals as goal

pub returns-then-asks_no_line : goal.returns-then-asks_no_line
returns-then-asks_no_line c = let both = end_shut c.args.d c.args.area.now c.args.room.now c.args.words.now c.args.out.now _ c.asks_no_line.ensures c.if-asks_no_line.true in record { value = both.0; area_after = both.1.0; words_after = both.1.1.0; out_after = both.1.1.1.0; room_unchanged = both.1.1.1.1 }

pub slice_bounds-played-end-then-has_begun : goal.slice_bounds-played-end-then-has_begun
slice_bounds-played-end-then-has_begun c = sym (length-take-le _ _ c.held_length-n.ensures.1)

pub returns-then-has_begun : goal.returns-then-has_begun
returns-then-has_begun c = let both = end_begun c.args.d c.args.area.now c.args.room.now c.args.words.now c.args.out.now _ c.asks_no_line.ensures c.if-asks_no_line.false _ c.has_begun.ensures c.if-has_begun.true c.held_length-n.result c.held_length-n.ensures.0 _ _ _ _ _ (c.played.ensures.value, (c.played.ensures.area_after, (c.played.ensures.words_after, (c.played.ensures.out_after, c.played.ensures.line_unchanged)))) _ c.with_over.ensures in record { value = both.0; area_after = both.1.0; words_after = both.1.1.0; out_after = both.1.1.1.0; room_unchanged = both.1.1.1.1 }

pub returns : goal.returns
returns c = let both = end_none c.args.d c.args.area.now c.args.room.now c.args.words.now c.args.out.now _ c.asks_no_line.ensures c.if-asks_no_line.false _ c.has_begun.ensures c.if-has_begun.false _ c.with_over-2.ensures in record { value = both.0; area_after = both.1.0; words_after = both.1.1.0; out_after = both.1.1.1.0; room_unchanged = both.1.1.1.1 }
