-- What each function of the sheet does in each of its branches, as its definition says it. Assumes nothing.
use mathlib.Core.Path.{◌≡◌, refl, sym, ap, ap₂, ◌∙◌}
use mathlib.Core.Bool.{Bool, true, false, not, cond, ◌&&◌}
use mathlib.Core.List.{List, [], ◌∷◌, ◌++◌, map}
use Prim.Native.Nat.{ℕ, suc, ◌+◌, ◌-◌, ◌≤◌, ◌<◌}
use borrow.Author.Tests.{le-leb, lt-leb, lt-ltb, le-ltb}
use lib.Dec.{eqb}
use lib.ListN.{length, take, drop, take-append-drop}
use Rattle.area.proofs.Marks.{cond_true, cond_false}
use Rattle.area.proofs.Walks.{by_test, or_first, or_second, or_neither}
use Rattle.session_frame.specs.declared.Frame.{Frame}
use Rattle.session_frame.specs.Frames.{frame_of}
use Rattle.session_line.specs.declared.Line.{Line}
use Rattle.session_line.specs.declared.Step.{Step}
use Rattle.session_line.specs.Machine.{no_line, has_begun, step_of, room_of}
use Rattle.state.specs.declared.State.{State}
use Rattle.session.specs.Rooms.{After}
use Rattle.sheet.specs.declared.Event.{Event}
use Rattle.sheet.specs.declared.Row.{Row}
use Rattle.sheet.specs.declared.Listed.{Listed}
use Rattle.sheet.specs.declared.Desk.{Desk}
use Rattle.sheet.specs.declared.Taken.{Taken}
use Rattle.sheet.specs.Events.{event_of}
use Rattle.sheet.specs.Rows.{most_listed, most_count, next, new_row, row_after, listed_with, row_in, listed_after}
use Rattle.sheet.specs.Sheet.{same_bytes}
use Rattle.sheet.specs.Desks.{held_text, line_after, followed_desk, played_desk, with_session, with_recorded, with_over, with_done, compared_desk, missing_desk, extra_desk, asks_no_line, asks_no_answer, Sat, taken_of, sat_with, played_sat, stepped_sat, session_part, over_sat, session_end, taken_with, answers_step, answers_part, answers_room, answers_end}

-- ---- two texts side by side

pub same_long : (a b : List ℕ) → (length a ≡ length b → ⊥) → same_bytes a b ≡ false
unfolding same_bytes
same_long [] [] ne = absurd (ne refl)
same_long [] (y ∷ ys) ne = refl
same_long (x ∷ xs) [] ne = refl
same_long (x ∷ xs) (y ∷ ys) ne =
    by_test (λ t. (t && same_bytes xs ys) ≡ false) (eqb x y)
    (λ _. same_long xs ys (λ z. ne (ap suc z)))
    (λ _. refl)

-- ---- one more

pub next_below : (n : ℕ) → n < most_count → n + 1 ≡ next n
unfolding next
next_below n h = sym (cond_true _ _ (lt-ltb n most_count h))

pub next_stops : (n : ℕ) → most_count ≤ n → n ≡ next n
unfolding next
next_stops n h = sym (cond_false _ _ (le-ltb n most_count h))

-- ---- the rows

pub in_beyond : (rows : List Row) (i : ℕ) (row : Row) → most_listed ≤ i → rows ≡ row_in rows i row
unfolding row_in
in_beyond rows i row h = sym (cond_true _ _ (le-leb most_listed i h))

module _ (e : Event) (k : ℕ) (l : Listed) (rows : List Row) (all : rows ≡ map (row_after e k) l.rows) where
  pub listed_same : not e.asked ≡ true → listed_with rows l.count l.more ≡ listed_after e k l
  unfolding listed_after
  listed_same h = ap (λ (rs : List Row). listed_with rs l.count l.more) all ∙ sym (cond_true _ _ h)

  pub listed_full : not e.asked ≡ false → most_listed ≤ l.count → listed_with rows l.count true ≡ listed_after e k l
  unfolding listed_after
  listed_full h g =
      ap (λ (rs : List Row). listed_with rs l.count true) all ∙ sym (cond_false _ _ h ∙ cond_true _ _ (le-leb most_listed l.count g))

  pub listed_more : not e.asked ≡ false → l.count < most_listed → (row : Row) → row ≡ new_row e k → (longer : List Row)
      → longer ≡ row_in rows l.count row → listed_with longer (l.count + 1) l.more ≡ listed_after e k l
  unfolding listed_after
  listed_more h g row new longer made =
      ap (λ (rs : List Row). listed_with rs (l.count + 1) l.more) (made ∙ ap₂ (λ (rs : List Row) (r : Row). row_in rs l.count r) all new)
      ∙ sym (cond_false _ _ h ∙ cond_false _ _ (lt-leb most_listed l.count g))

-- ---- a line of the session

-- the desk d with what a line changes
abbrev pub played_with : Desk → State → ℕ → ℕ → ℕ → Listed → Line → Desk
played_with d s k differs n listed line =
    record {
      state = s;
      session = line;
      recorded = d.recorded;
      frames = k;
      differs = differs;
      waits = eqb d.differs 0 && not d.done;
      length = n;
      over = d.over;
      done = d.done;
      listed = listed;
    }

pub followed_is : (d : Desk) (s : State) (e : Event) (n k : ℕ) → k ≡ next d.frames → (listed : Listed) → listed ≡ listed_after e k d.listed
    → (differs : ℕ) → differs ≡ cond (eqb d.differs 0 && d.done) k d.differs → (m : ℕ) → m ≡ n - 1 → (none : Line) → none ≡ no_line
    → played_with d s k differs m listed none ≡ followed_desk d s e n
unfolding followed_desk
followed_is d s e n k ek listed el differs ed m em none ez = rw (el, ed, em, ez, ek)

pub played_is : (d : Desk) (x : After) (line : List ℕ) (f : Frame) → f ≡ frame_of line
    → (s : State) (n : ℕ) (area words out : List ℕ) → s ≡ x.state → n ≡ x.length → area ≡ x.area → words ≡ x.words → out ≡ x.out
    → (line' : List ℕ) → line' ≡ line → (text : List ℕ) → text ≡ take n out → (e : Event) → e ≡ event_of d.state f text → (t : Desk) → t ≡ followed_desk d s e n
    → (t ≡ played_desk d (frame_of line) x) × ((area ≡ x.area) × ((words ≡ x.words) × ((out ≡ x.out) × (line' ≡ line))))
unfolding played_desk
played_is d x line f ef s n area words out es en ea ew eo line' el text et e ee t ed = (rw (ed, es, ee, et, en, eo, ef), (ea, (ew, (eo, el))))

-- ---- what becomes of the answer that waits

abbrev pub judged_with : Desk → ℕ → Line → Desk
judged_with d n line =
    record { state = d.state; session = d.session; recorded = line; frames = d.frames; differs = n; waits = false; length = d.length; over = d.over; done = d.done; listed = d.listed }

pub compared_is : (d : Desk) (out text part : List ℕ) → part ≡ take d.length out → (alike : Bool) → alike ≡ same_bytes part text
    → (n : ℕ) → n ≡ cond alike d.differs d.frames → (none : Line) → none ≡ no_line → judged_with d n none ≡ compared_desk d out text
unfolding compared_desk
compared_is d out text part ep alike ea n en none ez = rw (en, ez, ea, ep)

-- ---- the calls on the session

-- the six parts of what is after a call
abbrev pub IsSat : Sat → Taken → List ℕ → List ℕ → List ℕ → List ℕ → Type 0
IsSat x t area room words out = (t ≡ taken_of x) × ((area ≡ x.area) × ((room ≡ x.room) × ((words ≡ x.words) × (out ≡ x.out))))

sat_is : (x y : Sat) → y ≡ x → IsSat x (taken_of y) y.area y.room y.words y.out
sat_is x y e = (
  ap (λ (z : Sat). taken_of z) e,
  (ap (λ (z : Sat). z.area) e, (ap (λ (z : Sat). z.room) e, (ap (λ (z : Sat). z.words) e, ap (λ (z : Sat). z.out) e))),
)

played_sat_lem : (d : Desk) (line : List ℕ) (at : ℕ) (area room words out : List ℕ) (t : Desk) (area' words' out' : List ℕ)
    → t ≡ played_desk d (frame_of line) (line_after d area line words out) → area' ≡ (line_after d area line words out).area
    → words' ≡ (line_after d area line words out).words → out' ≡ (line_after d area line words out).out
    → sat_with t at area' room words' out' ≡ played_sat d line at area room words out
unfolding played_sat
played_sat_lem d line at area room words out t area' words' out' et ea ew eo = rw (et, ea, ew, eo)

-- the room in which a line stood that stayed
back : (n : ℕ) (room line : List ℕ) → line ≡ take n room → line ++ drop n room ≡ room
back n room line e = ap (λ (xs : List ℕ). xs ++ drop n room) e ∙ take-append-drop n room

module _ (d : Desk) (area room words bytes : List ℕ) (at : ℕ) (out : List ℕ) (shut : Bool)
    (asks : shut ≡ asks_no_line d (length room) (length words) (length out)) where
  pub session_shut : shut ≡ true → IsSat (session_part d area room words bytes at out) (taken_with d at) area room words out
  unfolding session_part
  session_shut h = sat_is (session_part d area room words bytes at out) (sat_with d at area room words out) (sym (cond_true _ _ (sym asks ∙ h)))

  module _ (h : shut ≡ false) (step : Step) (stepped : step ≡ step_of d.session (drop at bytes) at room) (filled : List ℕ)
      (fills : filled ≡ room_of d.session (drop at bytes) room) where
    goes : stepped_sat d area filled words out step ≡ session_part d area room words bytes at out
    unfolding session_part
    goes = ap₂ (λ (r : List ℕ) (s : Step). stepped_sat d area r words out s) fills stepped ∙ sym (cond_false _ _ (sym asks ∙ h))

    pub session_ended : step.ended ≡ true → (n : ℕ) → take n filled ≡ held_text step.line filled → (t : Desk) (area' line' words' out' : List ℕ)
        → (t ≡ played_desk d (frame_of (take n filled)) (line_after d area (take n filled) words out)) × ((area' ≡ (line_after d area (take n filled) words out).area)
        × ((words' ≡ (line_after d area (take n filled) words out).words) × ((out' ≡ (line_after d area (take n filled) words out).out) × (line' ≡ take n filled))))
        → IsSat (session_part d area room words bytes at out) (taken_with t step.at) area' (line' ++ drop n filled) words' out'
    unfolding stepped_sat
    session_ended e n et t area' line' words' out' w =
        sat_is (session_part d area room words bytes at out) (sat_with t step.at area' (line' ++ drop n filled) words' out')
        (ap (λ (r : List ℕ). sat_with t step.at area' r words' out') (back n filled line' w.1.1.1.1)
        ∙ played_sat_lem d (take n filled) step.at area filled words out t area' words' out' w.0 w.1.0 w.1.1.0 w.1.1.1.0
        ∙ ap (λ (l : List ℕ). played_sat d l step.at area filled words out) et
        ∙ sym (cond_true _ _ e)
        ∙ goes)

    pub session_open : step.ended ≡ false → (t : Desk) → t ≡ with_session d step.line
        → IsSat (session_part d area room words bytes at out) (taken_with t step.at) area filled words out
    unfolding stepped_sat
    session_open e t et =
        sat_is (session_part d area room words bytes at out) (sat_with t step.at area filled words out)
        (ap (λ (z : Desk). sat_with z step.at area filled words out) et ∙ sym (cond_false _ _ e) ∙ goes)

module _ (d : Desk) (area room words out : List ℕ) (shut : Bool) (asks : shut ≡ asks_no_line d (length room) (length words) (length out)) where
  abbrev IsEnd : Desk → List ℕ → List ℕ → List ℕ → List ℕ → Type 0
  IsEnd t area' room' words' out' =
      (t ≡ (session_end d area room words out).desk) × ((area' ≡ (session_end d area room words out).area)
      × ((words' ≡ (session_end d area room words out).words) × ((out' ≡ (session_end d area room words out).out) × (room' ≡ room))))

  end_is : (y : Sat) → y ≡ session_end d area room words out → (room' : List ℕ) → room' ≡ room → IsEnd y.desk y.area room' y.words y.out
  end_is y e room' er = (
    ap (λ (z : Sat). z.desk) e,
    (ap (λ (z : Sat). z.area) e, (ap (λ (z : Sat). z.words) e, (ap (λ (z : Sat). z.out) e, er))),
  )

  pub end_shut : shut ≡ true → IsEnd d area room words out
  unfolding session_end
  end_shut h = end_is (sat_with d 0 area room words out) (sym (cond_true _ _ (sym asks ∙ h))) room refl

  module _ (h : shut ≡ false) (begun : Bool) (begins : begun ≡ has_begun d.session) where
    pub end_begun : begun ≡ true → (n : ℕ) → take n room ≡ held_text d.session room → (t : Desk) (area' line' words' out' : List ℕ)
        → (t ≡ played_desk d (frame_of (take n room)) (line_after d area (take n room) words out)) × ((area' ≡ (line_after d area (take n room) words out).area)
        × ((words' ≡ (line_after d area (take n room) words out).words) × ((out' ≡ (line_after d area (take n room) words out).out) × (line' ≡ take n room))))
        → (u : Desk) → u ≡ with_over t → IsEnd u area' (line' ++ drop n room) words' out'
    unfolding session_end
    end_begun g n et t area' line' words' out' w u eu =
        end_is (sat_with u 0 area' room words' out')
        (ap (λ (z : Desk). sat_with z 0 area' room words' out') eu
        ∙ ap (λ (z : Sat). over_sat z)
        (played_sat_lem d (take n room) 0 area room words out t area' words' out' w.0 w.1.0 w.1.1.0 w.1.1.1.0
        ∙ ap (λ (l : List ℕ). played_sat d l 0 area room words out) et
        ∙ sym (cond_true _ _ (sym begins ∙ g)))
        ∙ sym (cond_false _ _ (sym asks ∙ h)))
        (line' ++ drop n room) (back n room line' w.1.1.1.1)

    pub end_none : begun ≡ false → (u : Desk) → u ≡ with_over d → IsEnd u area room words out
    unfolding session_end
    end_none g u eu =
        end_is (sat_with u 0 area room words out)
        (ap (λ (z : Desk). sat_with z 0 area room words out) eu
        ∙ ap (λ (z : Sat). over_sat z) (sym (cond_false _ (sat_with d 0 area room words out) (sym begins ∙ g)))
        ∙ sym (cond_false _ _ (sym asks ∙ h)))
        room refl

-- ---- the calls on the recorded answers

module _ (d : Desk) (other bytes : List ℕ) (at : ℕ) (out : List ℕ) (shut : Bool) (asks : shut ≡ asks_no_answer d (length other)) where
  abbrev IsPart : Taken → List ℕ → Type 0
  IsPart t other' = (t ≡ answers_part d other bytes at out) × (other' ≡ answers_room d other bytes at)

  pub answers_shut : shut ≡ true → IsPart (taken_with d at) other
  unfolding answers_part answers_room
  answers_shut h = (sym (cond_true _ _ (sym asks ∙ h)), sym (cond_true _ _ (or_first _ (not d.waits) (sym asks ∙ h))))

  module _ (h : shut ≡ false) where
    module _ (idle : not d.waits ≡ true) where
      stays : other ≡ answers_room d other bytes at
      unfolding answers_room
      stays = sym (cond_true _ _ (or_second (asks_no_answer d (length other)) (not d.waits) idle))

      pub answers_extra : at < length bytes → (t : Desk) → t ≡ extra_desk d → IsPart (taken_with t at) other
      unfolding answers_part
      answers_extra g t et = (
        ap (λ (z : Desk). taken_with z at) et
            ∙ sym (cond_false _ _ (sym asks ∙ h) ∙ (cond_true _ _ idle ∙ cond_true _ _ (lt-ltb at (length bytes) g))),
        stays,
      )

      pub answers_none : length bytes ≤ at → IsPart (taken_with d at) other
      unfolding answers_part
      answers_none g = (sym (cond_false _ _ (sym asks ∙ h) ∙ (cond_true _ _ idle ∙ cond_false _ _ (le-ltb at (length bytes) g))), stays)

    module _ (waits : not d.waits ≡ false) (step : Step) (stepped : step ≡ step_of d.recorded (drop at bytes) at other) (filled : List ℕ)
        (fills : filled ≡ room_of d.recorded (drop at bytes) other) where
      goes_on_lem : answers_step d filled out step ≡ answers_part d other bytes at out
      unfolding answers_part
      goes_on_lem =
          ap₂ (λ (r : List ℕ) (s : Step). answers_step d r out s) fills stepped
          ∙ sym (cond_false _ _ (sym asks ∙ h) ∙ cond_false _ _ waits)

      room_is : filled ≡ answers_room d other bytes at
      unfolding answers_room
      room_is = fills ∙ sym (cond_false _ _ (or_neither _ _ (sym asks ∙ h) waits))

      pub answers_ended : step.ended ≡ true → (text : List ℕ) → text ≡ held_text step.line filled → (t : Desk) → t ≡ compared_desk d out text
          → IsPart (taken_with t step.at) filled
      unfolding answers_step
      answers_ended e text et t ed = (
        ap (λ (z : Desk). taken_with z step.at) (ed ∙ ap (λ (l : List ℕ). compared_desk d out l) et) ∙ sym (cond_true _ _ e) ∙ goes_on_lem,
        room_is,
      )

      pub answers_open : step.ended ≡ false → (t : Desk) → t ≡ with_recorded d step.line → IsPart (taken_with t step.at) filled
      unfolding answers_step
      answers_open e t ed = (ap (λ (z : Desk). taken_with z step.at) ed ∙ sym (cond_false _ _ e) ∙ goes_on_lem, room_is)

module _ (d : Desk) (other out : List ℕ) where
  pub ends_done : d.done ≡ true → d ≡ answers_end d other out
  unfolding answers_end
  ends_done h = sym (cond_true _ _ h)

  module _ (h : d.done ≡ false) where
    pub ends_idle : not d.waits ≡ true → (t : Desk) → t ≡ with_done d → t ≡ answers_end d other out
    unfolding answers_end
    ends_idle g t e = e ∙ sym (cond_false _ _ h ∙ cond_true _ _ g)

    module _ (g : not d.waits ≡ false) (begun : Bool) (begins : begun ≡ has_begun d.recorded) where
      pub ends_begun : begun ≡ true → (text : List ℕ) → text ≡ held_text d.recorded other → (t : Desk) → t ≡ compared_desk d out text
          → (u : Desk) → u ≡ with_done t → u ≡ answers_end d other out
      unfolding answers_end
      ends_begun b text et t ed u eu =
          eu
          ∙ ap (λ (z : Desk). with_done z) (ed ∙ ap (λ (l : List ℕ). compared_desk d out l) et ∙ sym (cond_true _ (missing_desk d) (sym begins ∙ b)))
          ∙ sym (cond_false _ _ h ∙ cond_false _ _ g)

      pub ends_missing : begun ≡ false → (t : Desk) → t ≡ missing_desk d → (u : Desk) → u ≡ with_done t → u ≡ answers_end d other out
      unfolding answers_end
      ends_missing b t ed u eu =
          eu
          ∙ ap (λ (z : Desk). with_done z) (ed ∙ sym (cond_false (compared_desk d out (held_text d.recorded other)) _ (sym begins ∙ b)))
          ∙ sym (cond_false _ _ h ∙ cond_false _ _ g)
