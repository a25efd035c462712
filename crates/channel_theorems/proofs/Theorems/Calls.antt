-- What a call does to a channel, as cases. Assumes nothing.
use mathlib.Core.Path.{◌≡◌, refl, ◌∙◌}
use mathlib.Core.Bool.{Bool, true, false, cond, ◌&&◌, and-true, and-false}
use Prim.Native.Nat.{ℕ}
use lib.Dec.{eqb}
use borrow.Author.Tests.{eq-eqb, ne_eqb}
use Rattle.area.proofs.Walks.{true_not_false}
use mathlib.Core.Option.{some}
use Rattle.channel.specs.declared.Op.{Op}
use Rattle.channel.specs.declared.Position.{Position}
use Rattle.channel.specs.declared.Request.{Request}
use Rattle.channel.specs.declared.Turn.{Turn}
use Rattle.channel.specs.declared.Turn.TheVariants.{Idle, Waiting, Displaced, Working}
use Rattle.channel.specs.declared.Channel.{Channel}
use Rattle.channel_outcomes.specs.declared.Ending.{Ending}
use Rattle.channel_outcomes.specs.declared.Verdict.{Verdict}
use Rattle.channel_outcomes.specs.declared.Verdict.TheVariants.{Refused, Repeats, Ends}
use Rattle.channel_outcomes.specs.Positions.{position_after, noted_by}
use Rattle.channel_outcomes.specs.Rules.{verdict_of}
use Rattle.channel.specs.Units.{size, declared_at, turn_at, position_at, operation_at, with_unit, with_turn, with_marks, is_idle, accepts_at}
use Rattle.channel_turns.specs.Turns.{judge_turn, judge_of, goes_on, incomplete_turn, repeat_of, mark_moved, mark_after, urgent_after, end_of, book_of, report_of}
use Rattle.channel_turns.specs.Starts.{start_of, thaw_of, new_request, ask_of}
use Rattle.channel_theorems.specs.History.{Station, station, Event, ask, report, freeze, thaw, refused, accepted, repeated, answered, Step, step_to, ask_step, report_answer, step, a_report_of, a_request_of, an_answer_to}
use Rattle.channel_theorems.proofs.Theorems.Turning.{held_as, held, mark_as}

-- the turn of a unit whose operation is to be repeated: it goes on at once, or is set aside
pub data Incomplete (c : Channel) (frozen : Bool) (q : Request) : Turn → Type 0 where
  onward : goes_on c q.priority frozen ≡ true → Incomplete c frozen q (Working q)
  aside : goes_on c q.priority frozen ≡ false → Incomplete c frozen q (Displaced q)

-- the channel with unit u's operation ended, before a start; its reel stands there
abbrev pub ended_at : Channel → ℕ → Position → Channel
ended_at c u stood = with_marks (with_unit c u Idle stood) (mark_after c u) (urgent_after c u)

-- each end moves the mark of its own kind, and no other
pub ended_mark : (k : Bool) (c : Channel) (u : ℕ) (stood : Position) → mark_as k (ended_at c u stood) ≡ mark_moved (held_as k (turn_at c u)) (size c) u (mark_as k c)
unfolding mark_after urgent_after with_unit
ended_mark true c u stood = refl
ended_mark false c u stood = refl

pub data Took (s : Station) : Event → Step → Type 0 where
  refuses : {e : Event} → Took s e (step_to refused s)
  asks : (u : ℕ) (op : Op) (p : Bool) → declared_at s.channel u ≡ true → turn_at s.channel u ≡ Idle
      → Took s (ask u op p) (step_to accepted (station (start_of (with_turn s.channel u (Waiting (new_request op p))) s.frozen) s.frozen))
  repeats : (u o l : ℕ) (r q : Request) (t : Turn) (stood : Position) → turn_at s.channel u ≡ Working r → verdict_of r o l ≡ Repeats q
      → Incomplete s.channel s.frozen q t → stood ≡ noted_by (position_at s.channel u) q
      → Took s (report u o l) (step_to repeated (station (start_of (with_unit s.channel u t stood) s.frozen) s.frozen))
  ends : (u o l : ℕ) (r : Request) (e : Ending) (stood : Position) → turn_at s.channel u ≡ Working r → verdict_of r o l ≡ Ends e
      → stood ≡ position_after (operation_at s.channel u) e (position_at s.channel u)
      → Took s (report u o l) (step_to answered (station (start_of (ended_at s.channel u stood) s.frozen) s.frozen))
  freezes : Took s freeze (step_to accepted (station s.channel true))
  thaws : Took s thaw (step_to accepted (station (start_of s.channel false) false))

pub took : (s : Station) (e : Event) → Took s e (step s e)
unfolding step ask_of accepts_at report_of judge_of book_of repeat_of end_of thaw_of
took s (ask u op p) = go (declared_at c u) (turn_at c u) refl refl
  where
    c : Channel
    c = s.channel

    go : (d : Bool) (t : Turn) → declared_at c u ≡ d → turn_at c u ≡ t
        → Took s (ask u op p)
        (ask_step s.frozen
        (cond (d && is_idle t)
        (record { accepted = true; channel = start_of (with_turn c u (Waiting (new_request op p))) s.frozen })
        (record { accepted = false; channel = c })))
    go false t i j = refuses
    go true Idle i j = asks u op p i j
    go true (Waiting q) i j = refuses
    go true (Displaced q) i j = refuses
    go true (Working q) i j = refuses
took s (report u o l) = go (turn_at c u) refl
  where
    c : Channel
    c = s.channel

    on : (q : Request) (b : Bool) → goes_on c q.priority s.frozen ≡ b → Incomplete c s.frozen q (incomplete_turn b q)
    on q true i = onward i
    on q false i = aside i

    booked : (r : Request) (v : Verdict) → turn_at c u ≡ Working r → verdict_of r o l ≡ v
        → Took s (report u o l) (step_to (report_answer v) (station (book_of c u v s.frozen) s.frozen))
    booked r (Refused n) i j = refuses
    booked r (Repeats q) i j = repeats u o l r q _ _ i j (on q (goes_on c q.priority s.frozen) refl) refl
    booked r (Ends e) i j = ends u o l r e _ i j refl

    go : (t : Turn) → turn_at c u ≡ t
        → Took s (report u o l) (step_to (report_answer (judge_turn t o l)) (station (book_of c u (judge_turn t o l) s.frozen) s.frozen))
    go Idle i = refuses
    go (Waiting q) i = refuses
    go (Displaced q) i = refuses
    go (Working r) i = booked r (verdict_of r o l) i refl
took s freeze = freezes
took s thaw = thaws

pub incomplete_held : {c : Channel} {frozen : Bool} (q : Request) (t : Turn) → Incomplete c frozen q t → held t ≡ some q
incomplete_held q t (onward g) = refl
incomplete_held q t (aside g) = refl

-- ---- whom a call concerns: a refused call is none of them

pub no_report : (u : ℕ) (e : Event) → a_report_of u e refused ≡ false
no_report u (ask x op p) = refl
no_report u (report x o l) = and-false (eqb x u)
no_report u freeze = refl
no_report u thaw = refl

pub no_answer_lem : (u : ℕ) (e : Event) → an_answer_to u e refused ≡ false
no_answer_lem u (ask x op p) = refl
no_answer_lem u (report x o l) = and-false (eqb x u)
no_answer_lem u freeze = refl
no_answer_lem u thaw = refl

pub no_request_lem : (u : ℕ) (e : Event) → a_request_of u e refused ≡ false
no_request_lem u (ask x op p) = and-false (eqb x u)
no_request_lem u (report x o l) = refl
no_request_lem u freeze = refl
no_request_lem u thaw = refl

-- it concerns u or not
pub of_unit : {x u : ℕ} → x ≡ u → (eqb x u && true) ≡ true
of_unit {x} {u} e = and-true (eqb x u) ∙ eq-eqb x u e

pub of_other : {x u : ℕ} → (x ≡ u → ⊥) → (eqb x u && true) ≡ false
of_other {x} {u} n = and-true (eqb x u) ∙ ne_eqb x u n

pub not_here : {x u : ℕ} → (eqb x u && true) ≡ false → x ≡ u → ⊥
not_here e q = true_not_false (of_unit q) e
