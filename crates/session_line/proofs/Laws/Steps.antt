-- One step of the machine: what a loop over `next_line` goes by. Assumes nothing.
use mathlib.Core.Path.{◌≡◌, sym, ap, ◌∙◌}
use mathlib.Core.Bool.{true, false}
use mathlib.Core.List.{List, [], ◌∷◌, ◌++◌}
use Prim.Native.Nat.{ℕ, ◌+◌, ◌≤◌, ◌<◌}
use native.Mathlib.Omega.{arith}
use borrow.Author.Tests.{ltb-true, ltb-false}
use lib.ListN.{length, take, drop}
use lib.Seq.{take_all}
use Rattle.area.proofs.Marks.{cond_true, cond_false}
use Rattle.session_line.specs.declared.Line.{Line}
use Rattle.session_line.specs.Lines.{feed_at, ended_lines, begun_line}
use Rattle.session_line.specs.Machine.{Holds, step_of, room_of}
use Rattle.session_line.proofs.Laws.Feeds.{feed_within, ended_next, ended_none}
use Rattle.session_line.proofs.Laws.Holding.{grown_length, grown_holds}

module _ (line : Line) (room l xs : List ℕ) (at : ℕ) (h : Holds line room l) where
  -- the room keeps its length, and the line has the bytes before the line feed
  pub step_length : length (room_of line xs room) ≡ length room
  unfolding room_of
  step_length = grown_length line room l (take (feed_at xs) xs) h

  pub step_holds : Holds (step_of line xs at room).line (room_of line xs room) (l ++ take (feed_at xs) xs)
  unfolding room_of step_of
  step_holds = grown_holds line room l (take (feed_at xs) xs) h

  -- it has ended: it is the next line, and the part goes on after the line feed
  pub record Ended : Type 0 where
    pub place : (step_of line xs at room).at ≡ at + (feed_at xs + 1)
    pub some : feed_at xs < length xs
    pub lines : ended_lines l xs ≡ (l ++ take (feed_at xs) xs) ∷ ended_lines [] (drop (feed_at xs + 1) xs)
    pub begun : begun_line l xs ≡ begun_line [] (drop (feed_at xs + 1) xs)

  pub step_ended : (step_of line xs at room).ended ≡ true → Ended
  unfolding step_of
  step_ended e =
      let some : feed_at xs < length xs = ltb-true (feed_at xs) (length xs) e in
      let next = ended_next l xs some in
      record { place = cond_true _ _ e ∙ omega arith; some = some; lines = next.0; begun = next.1 }

  -- it has not: all bytes are used, and no line has ended
  pub record Stopped : Type 0 where
    pub place : (step_of line xs at room).at ≡ at + length xs
    pub lines : ended_lines l xs ≡ []
    pub begun : begun_line l xs ≡ l ++ take (feed_at xs) xs

  pub step_stopped : (step_of line xs at room).ended ≡ false → Stopped
  unfolding step_of
  step_stopped e =
      let all : length xs ≤ feed_at xs = ltb-false (feed_at xs) (length xs) e in
      let same : feed_at xs ≡ length xs = omega (arith, feed_within xs) in
      let none = ended_none l xs all in
      record {
        place = cond_false _ _ e ∙ ap (λ (n : ℕ). at + n) same;
        lines = none.0;
        begun = none.1 ∙ ap (λ (x : List ℕ). l ++ x) (sym (take_all (feed_at xs) xs all));
      }
