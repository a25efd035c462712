-- `session_frame::frames::words_into` meets its contract. The words that are left fill the rest of the room (`Fills`). Assumes nothing.
use mathlib.Core.Path.{◌≡◌, refl, sym, ◌∙◌}
use Prim.Native.Nat.{◌+◌, ◌/◌, ◌≤◌, ◌<◌}
use native.Mathlib.Omega.{arith}
use lib.ListN.{length, length-set}
use Rattle.session_frame.proofs.Laws.Words.{fills_none, fills_one, filled_line, filled_room}
use Rattle.session_frame.proofs.frames.words_into.Goals as goal

pub loop-i-init : goal.loop-i-init
loop-i-init c = let a = c.args in
    (refl, refl, fills_none a.line.now a.room.now a.start (length a.room.now))

pub returns-then-saturating_sub-lt5 : goal.returns-then-saturating_sub-lt5
returns-then-saturating_sub-lt5 c = let both = (let a = c.args in
    let t = c.loop-i in
    filled_line a.line.now t.room _ t.at t.i (length a.room.now) _ (omega arith) t.invariant.2) in record { value = both.0; room_after = both.1 }

pub loop-i-preserved : goal.loop-i-preserved
loop-i-preserved c = let t = c.loop-i in
    let a = c.args in
    let below : t.i < length a.room.now = omega arith in
    let left : t.at + 5 ≤ length a.line.now / 2 = omega arith in
    (t.invariant.0, simp length-set t.invariant.1, rw c.word_at.ensures (fills_one a.line.now t.room _ t.at t.i (length a.room.now) _ t.invariant.1 below left t.invariant.2))

pub returns : goal.returns
returns c = let a = c.args in
    let all : c.loop-i.i ≡ length c.loop-i.room = omega arith in
    let f = filled_room a.line.now c.loop-i.room _ c.loop-i.at c.loop-i.i (length a.room.now) _ (omega arith) c.loop-i.invariant.2 in
    record { value = sym all ∙ f.0; room_after = f.1 }
