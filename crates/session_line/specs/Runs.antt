-- The machine called until a part is used up, part after part, and at the end of the session. Assumes nothing.
use Rattle.std.specs.Prelude.{cond, List, [], ◌∷◌, ◌++◌, ℕ, zero, suc, length, drop}
use Rattle.session_line.specs.declared.Line.{Line}
use Rattle.session_line.specs.Lines.{Held}
use Rattle.session_line.specs.Machine.{no_line, has_begun, held_of, step_of, room_of}

-- the lines that have ended, as they were held, and the machine afterwards
pub record Run : Type 0 where
  pub lines : List Held
  pub line : Line
  pub room : List ℕ

unfoldable pub after : List Held → Run → Run
after ls r = record { lines = ls ++ r.lines; line = r.line; room = r.room }

-- at most `turns` calls of the machine on a part, from place `at` on: a line that ends is told, and the next begins
unfoldable pub run_part : ℕ → Line → List ℕ → List ℕ → ℕ → Run
run_part zero line room part at = record { lines = []; line = line; room = room }
run_part (suc turns) line room part at =
    let s = step_of line (drop at part) at room in
    let r = room_of line (drop at part) room in
    cond s.ended (after (held_of s.line r ∷ []) (run_part turns no_line r part s.at)) (record { lines = []; line = s.line; room = r })

-- part after part: one call more than a part has bytes is always enough
unfoldable pub run_parts : Line → List ℕ → List (List ℕ) → Run
run_parts line room [] = record { lines = []; line = line; room = room }
run_parts line room (part ∷ parts) =
    let r = run_part (suc (length part)) line room part 0 in
    after r.lines (run_parts r.line r.room parts)

-- a session given in parts: the lines that have ended, and the last one if one has begun
unfoldable pub run_session : List ℕ → List (List ℕ) → List Held
run_session room parts =
    let r = run_parts no_line room parts in
    r.lines ++ cond (has_begun r.line) (held_of r.line r.room ∷ []) []

-- the parts of a session in one
unfoldable pub joined : List (List ℕ) → List ℕ
joined [] = []
joined (part ∷ parts) = part ++ joined parts
