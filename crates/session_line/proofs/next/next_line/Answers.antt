-- `session_line::next::next_line` meets its contract, by whether a line feed was found. Assumes nothing.
use Rattle.session_line.proofs.Laws.Grows.{step_ends, step_stops}
use Rattle.session_line.proofs.next.next_line.Goals as goal

pub returns-then-end-bytes : goal.returns-then-end-bytes
returns-then-end-bytes c = let both = (let a = c.args in
    let feed-from = c.feed_from-end in
    let piece_of = c.piece_of-piece in
    let grown = c.grown-more in
    step_ends a.line grown.result a.bytes.now piece_of.result.now a.room.now _ a.at feed-from.result feed-from.ensures.0 piece_of.ensures grown.ensures.value grown.ensures.room_after c.if-end-bytes.true) in record { value = both.0; room_after = both.1 }

pub returns : goal.returns
returns c = let both = (let a = c.args in
    let feed-from = c.feed_from-end in
    let piece_of = c.piece_of-piece in
    let grown = c.grown-more in
    step_stops a.line grown.result a.bytes.now piece_of.result.now a.room.now _ a.at feed-from.result feed-from.ensures.0 piece_of.ensures grown.ensures.value grown.ensures.room_after c.if-end-bytes.false) in record { value = both.0; room_after = both.1 }
