-- `tape::write::write_mark` meets its contract, by whether it has room. Assumes nothing.
use borrow.Author.Tests.{leb-true}
use mathlib.Core.Path.{sym, ◌∙◌}
use Rattle.tape.proofs.Laws.Writes.{mark_left, mark_put}
use Rattle.tape.proofs.write.write_mark.Goals as goal

pub returns-then-not-has_room : goal.returns-then-not-has_room
returns-then-not-has_room c = let both = (let a = c.args in
    mark_left a.area.now a.at _ c.has_room.ensures (c.if-not-has_room.true)) in record { value = both.0; area_after = both.1 }

pub write_length-requires : goal.write_length-requires
write_length-requires c = leb-true _ _ (sym c.has_room.ensures ∙ c.if-not-has_room.false)

pub returns : goal.returns
returns c = let both = (let a = c.args in
    mark_put a.area.now a.at _ c.has_room.ensures (c.if-not-has_room.false) _ c.write_length.ensures) in record { value = both.0; area_after = both.1 }
