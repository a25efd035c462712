-- How a caller goes: any calls in any order, each given what is next of the session or of the recorded answers, cut anywhere. Assumes nothing.
use Rattle.std.specs.Prelude.{ℕ, ◌≡◌, Bool, not, ◌&&◌, ◌||◌, List, [], ◌++◌, eqb, drop, replicate}
use Rattle.session.specs.Session.{area_words}
use Rattle.sheet.specs.declared.Desk.{Desk}
use Rattle.sheet.specs.declared.Taken.{Taken}
use Rattle.sheet.specs.Rows.{rows_of}
use Rattle.sheet.specs.Sheet.{Sheet}
use Rattle.sheet.specs.Desks.{new_desk, Sat, session_part, session_end, answers_part, answers_room, answers_end}

-- the desk, what its caller keeps for it, and the bytes of both inputs that are to come
pub record Table : Type 0 where
  pub desk : Desk
  pub area : List ℕ
  pub room : List ℕ
  pub words : List ℕ
  pub out : List ℕ
  pub other : List ℕ
  pub session : List ℕ
  pub answers : List ℕ

abbrev pub table_after : Sat → List ℕ → List ℕ → List ℕ → Table
table_after x other session answers =
    record { desk = x.desk; area = x.area; room = x.room; words = x.words; out = x.out; other = other; session = session; answers = answers }

-- the table with another desk, another room for a recorded line and other recorded bytes to come
abbrev pub table_with : Table → Desk → List ℕ → List ℕ → Table
table_with t d other answers =
    record { desk = d; area = t.area; room = t.room; words = t.words; out = t.out; other = other; session = t.session; answers = answers }

abbrev pub after_session : Table → List ℕ → ℕ → List ℕ → Table
after_session t bytes at later =
    let x = session_part t.desk t.area t.room t.words bytes at t.out in
    table_after x t.other (drop x.at bytes ++ later) t.answers

abbrev pub after_answers : Table → List ℕ → ℕ → List ℕ → Table
after_answers t bytes at later =
    let x = answers_part t.desk t.other bytes at t.out in
    table_with t x.desk (answers_room t.desk t.other bytes at) (drop x.at bytes ++ later)

-- one call: a part, from place `at` on, is the front of what is to come; an end is called when nothing is
pub data Step (t : Table) : Table → Type 0 where
  takes_line : (bytes : List ℕ) (at : ℕ) (later : List ℕ) → t.session ≡ drop at bytes ++ later → Step t (after_session t bytes at later)
  ends_session : t.session ≡ [] → Step t (table_after (session_end t.desk t.area t.room t.words t.out) t.other [] t.answers)
  takes_answer : (bytes : List ℕ) (at : ℕ) (later : List ℕ) → t.answers ≡ drop at bytes ++ later → Step t (after_answers t bytes at later)
  ends_answers : t.answers ≡ [] → Step t (table_with t (answers_end t.desk t.other t.out) t.other [])

pub data Run : Table → Table → Type 0 where
  stop : {t : Table} → Run t t
  then : {t v : Table} (u : Table) → Step t u → Run u v → Run t v

-- from nothing, with an area of zeros
abbrev pub start_table : List ℕ → List ℕ → List ℕ → List ℕ → List ℕ → List ℕ → Table
start_table room words out other session answers =
    record { desk = new_desk; area = replicate {A = ℕ} area_words 0; room = room; words = words; out = out; other = other; session = session; answers = answers }

-- the session is over, no answer waits, and a difference is found or the recorded answers are done
abbrev pub is_finished : Desk → Bool
is_finished d = (d.over && not d.waits) && (not (eqb d.differs 0) || d.done)

-- the sheet that a desk shows
abbrev pub shown_by : Desk → Sheet
shown_by d = record { differs = d.differs; rows = rows_of d.listed; more = d.listed.more }
