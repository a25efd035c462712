-- What each unit of a channel holds, where its scans begin and whether the pack is frozen are what the channel's book says, after every
-- call. Assumes nothing.
use mathlib.Core.Path.{◌≡◌, refl, sym, ap, subst, ◌∙◌}
use mathlib.Core.Bool.{Bool, true, false, not, cond, ◌&&◌, ◌||◌, and-false}
use mathlib.Core.Option.{Option, none, some}
use mathlib.Core.List.{List, [], ◌∷◌}
use Prim.Native.Nat.{ℕ, zero, suc, ◌+◌, ◌<◌}
use native.Mathlib.Decide.{ℕ_discrete}
use native.Mathlib.Omega.{arith}
use lib.Dec.{ltb, eqb}
use lib.ListN.{length}
use borrow.Author.Tests.{eq-eqb, ne_eqb, eqb-true, lt-ltb, le-ltb}
use Rattle.area.proofs.Walks.{true_not_false, and_right, or_either}
use Rattle.channel.specs.declared.Op.{Op}
use Rattle.channel.specs.declared.Op.TheVariants.{Read, Write, Mark}
use Rattle.channel.specs.declared.Position.{Position}
use Rattle.channel.specs.declared.Request.{Request}
use Rattle.channel.specs.declared.Turn.{Turn}
use Rattle.channel.specs.declared.Turn.TheVariants.{Working}
use Rattle.channel.specs.declared.Unit.{Unit}
use Rattle.channel.specs.declared.Channel.{Channel}
use Rattle.channel.specs.Units.{unit_count, size, unit_at, turn_at, position_at, work_of, operation_at, is_idle, fresh_with, bits_from}
use Rattle.channel_outcomes.specs.declared.Ending.{Ending}
use Rattle.channel_outcomes.specs.declared.Ending.TheVariants.{Good, Opposite, MarkRead, MediumEnd, LostRedundancy, LostIncomplete}
use Rattle.channel_outcomes.specs.declared.Verdict.{Verdict}
use Rattle.channel_outcomes.specs.declared.Verdict.TheVariants.{Repeats, Ends}
use Rattle.channel_outcomes.specs.Positions.{record_passed, mark_passed, position_after, noted_by}
use Rattle.channel_outcomes.specs.Rules.{row_of, is_noise, past_noise, next_attempt, repeated_number, result_number, ending_number}
use Rattle.channel_turns.specs.Scans.{next_unit}
use Rattle.channel_turns.specs.Starts.{start_of, thaw_of}
use Rattle.channel_turns.specs.Turns.{judge_turn, judge_of, mark_moved, book_of, report_of}
use Rattle.channel_theorems.specs.History as history
use Rattle.channel_theorems.specs.History.{Station, Step, step_to, report_answer, step}
use Rattle.channel_theorems.specs.Lifted.{Agrees}
use Rattle.channel_theorems.proofs.Theorems.Turning.{held_as, held, mark_as, busy_inside}
use Rattle.channel_theorems.proofs.Theorems.Calls.{Took, took}
use Rattle.channel_theorems.proofs.Theorems.Sound.{verdict_next}
use Rattle.channel_theorems.proofs.Theorems.Fresh.{fresh_unit, fresh_size, units_step}
use Rattle.channel_theorems.proofs.Theorems.Positions.{ask_stands, thaw_stands, repeat_stands, end_stands}
use Rattle.channel_theorems.proofs.Theorems.Bookings.{held_start, mark_start, ask_held, ask_mark, repeat_held, repeat_mark, end_held, end_mark}
use Rattle.routines.specs.declared.Naming.{Naming}
use Rattle.state.specs.declared.State.{State}
use Rattle.state.specs.Places.{file_at, channel_at}
use Rattle.state_sound.specs.Soundness.{position_in_range, noise_right, position_right}
use Rattle.state_sound.proofs.Facts.{sound_facts}
use Rattle.pack_start.specs.declared.Masks.{Masks}
use Rattle.pack_start.specs.Fresh.{fresh_state}
use Rattle.pack_start.proofs.FreshTheorems.{fresh_accepted}
use Rattle.call_request.specs.Ask.{op_of, is_priority}
use Rattle.call_request.specs.Report.{report_refusal}
use Rattle.pack_request.proofs.ReportTheorems.{Booked, again, ended, report_exactly, view}
use Rattle.pack.specs.Calls.{Call, fresh, opening, close, ask, report, get, put, seal, skip, freeze, thaw, return, running, Answer, answer_of}
use Rattle.pack.specs.Histories.{Lent, answer_to, after, is_accepted, is_repeat}
use Rattle.pack.specs.Tables.{rows_of}
use Rattle.pack.specs.Books.{told_result, Pending, Book, blank_book, is_urgent, is_ordinary, new_pending, is_read, passes_over, failed_once, failed, Reel, reel_moved, reel_answered, reel_noted, with_request, with_failure, with_answer, with_freeze, booked, booked_at, book_after}
use Rattle.pack.proofs.Refused.{call_alone_lem}
use Rattle.pack.proofs.Kept as kept
use Rattle.pack.proofs.Kept.{call_kept}
use Rattle.pack.proofs.Seen.{station_at, event_if, call_agrees}
use Rattle.pack.proofs.Counted.{repeats_told, result_is}
use Rattle.pack.proofs.Turns.{bits_of, fresh_station}
use Rattle.std.specs.declared.option.Option.TheVariants.{Some}

-- a request as the channel holds it: the attempt that is at work, or due, is one above the failures
abbrev pub as_request : Pending → Request
as_request p = record { op = p.op; priority = p.priority; attempts = p.failures + 1; incomplete = p.incomplete; noise = p.noise }

abbrev pub as_held : Option Pending → Option Request
as_held none = none
as_held (some p) = some (as_request p)

-- where a reel stands, as the unit holds it
abbrev pub as_position : Reel → Position
as_position x = record { marks = x.marks; records = x.records; noisy = x.noise }

-- the request r is held for the one that is pending
pub data Held (r : Request) : Option Pending → Type 0 where
  holding : (p : Pending) → r ≡ as_request p → Held r (some p)

pub held_by_lem : (r : Request) (h : Option Pending) → some r ≡ as_held h → Held r h
held_by_lem r none e = absurd (let z : ◌≡◌ {A = ℕ} 0 1 = cc in omega arith)
held_by_lem r (some p) e = holding p (let same : r ≡ as_request p = cc in same)

-- the last answer of a kind: to priority requests, or to ordinary ones
abbrev pub last_as : Bool → Book → Option ℕ
last_as true b = b.last_urgent
last_as false b = b.last

abbrev pending_as : Bool → Option Pending → Bool
pending_as true = is_urgent
pending_as false = is_ordinary

-- a scan's mark is the unit above that of the last answer of its kind, and 0 if there was none
abbrev pub MarkIs : Option ℕ → ℕ → Type 0
MarkIs none m = m ≡ 0
MarkIs (some u) m = (m ≡ next_unit unit_count u) × (u < unit_count)

pub record Shows (k : Station) (b : Book) : Type 0 where
  pub holds : (u : ℕ) → held (turn_at k.channel u) ≡ as_held (b.requests u)
  pub mark : (j : Bool) → MarkIs (last_as j b) (mark_as j k.channel)
  pub stands : (u : ℕ) → position_at k.channel u ≡ as_position (b.reels u)
  pub frozen : k.frozen ≡ b.frozen
  pub long : size k.channel ≡ unit_count

-- ---- what a report makes of the pending request and of the reel, as the channel makes it

module _ (outcome len : ℕ) where
  -- noise records are a read's
  row_noise : (op : Op) (n : ℕ) → (eqb outcome 1 && (ltb len 3 && ltb n (row_of op).noise)) ≡ (is_read op && (eqb outcome 1 && (ltb len 3 && ltb n 100)))
  unfolding row_of
  row_noise Read n = refl
  row_noise Write n = rw (le-ltb n 0 (omega arith), and-false (ltb len 3), and-false (eqb outcome 1))
  row_noise Mark n = rw (le-ltb n 0 (omega arith), and-false (ltb len 3), and-false (eqb outcome 1))

  pub noise_as : (p : Pending) → is_noise (as_request p) outcome len ≡ passes_over outcome len p
  unfolding is_noise
  noise_as p = row_noise p.op p.noise

  again_as : (p : Pending) → cond (is_noise (as_request p) outcome len) (past_noise (as_request p)) (next_attempt (as_request p) outcome) ≡ as_request (failed_once outcome len p)
  unfolding past_noise next_attempt
  again_as p = ap (λ (t : Bool). cond t (past_noise (as_request p)) (next_attempt (as_request p) outcome)) (noise_as p) ∙ go (passes_over outcome len p)
    where
      go : (t : Bool) → cond t (past_noise (as_request p)) (next_attempt (as_request p) outcome)
          ≡ as_request
          (cond t
          (record { op = p.op; priority = p.priority; failures = p.failures; incomplete = p.incomplete; noise = p.noise + 1 })
          (record {
            op = p.op;
            priority = p.priority;
            failures = p.failures + 1;
            incomplete = cond (eqb outcome 2) (p.incomplete + 1) p.incomplete;
            noise = p.noise;
          }))
      go true = refl
      go false = refl

  still_quiet : (n : ℕ) (x : Bool) → (eqb n 0 || x) ≡ true → (x || ltb 0 n) ≡ (x || false)
  still_quiet n true h = refl
  still_quiet n false h = or_either (eqb n 0) false h (λ e. let z = eqb-true n 0 e in le-ltb 0 n (omega arith)) (λ e. true_not_false e refl)

  noted_as : (x : Reel) (p : Pending) → (eqb p.noise 0 || x.noise) ≡ true
      → noted_by (as_position x) (as_request (failed_once outcome len p)) ≡ as_position (reel_noted outcome len (some p) x)
  unfolding noted_by
  noted_as x p h = go (passes_over outcome len p)
    where
      with_noise : Bool → Position
      with_noise b = record { marks = x.marks; records = x.records; noisy = b }

      go : (t : Bool) → noted_by (as_position x)
          (as_request
          (cond t
          (record { op = p.op; priority = p.priority; failures = p.failures; incomplete = p.incomplete; noise = p.noise + 1 })
          (record {
            op = p.op;
            priority = p.priority;
            failures = p.failures + 1;
            incomplete = cond (eqb outcome 2) (p.incomplete + 1) p.incomplete;
            noise = p.noise;
          })))
          ≡ with_noise (x.noise || t)
      go true = ap (λ (b : Bool). with_noise (x.noise || b)) (lt-ltb 0 (p.noise + 1) (omega arith))
      go false = ap with_noise (still_quiet p.noise x.noise h)

moved_as : (op : Op) (e : Ending) (x : Reel) → position_after (Some op) e (as_position x) ≡ as_position (reel_moved op (ending_number e) x)
unfolding record_passed mark_passed
moved_as Read Good x = refl
moved_as Read Opposite x = refl
moved_as Read MarkRead x = refl
moved_as Read MediumEnd x = refl
moved_as Read LostRedundancy x = refl
moved_as Read LostIncomplete x = refl
moved_as Write Good x = refl
moved_as Write Opposite x = refl
moved_as Write MarkRead x = refl
moved_as Write MediumEnd x = refl
moved_as Write LostRedundancy x = refl
moved_as Write LostIncomplete x = refl
moved_as Mark Good x = refl
moved_as Mark Opposite x = refl
moved_as Mark MarkRead x = refl
moved_as Mark MediumEnd x = refl
moved_as Mark LostRedundancy x = refl
moved_as Mark LostIncomplete x = refl

-- ---- a fresh start

bits_long : (mask u n : ℕ) → length (bits_from mask u n) ≡ n
unfolding bits_from
bits_long mask u zero = refl
bits_long mask u (suc n) = ap suc (bits_long mask (u + 1) n)

pub shows_fresh : (c m w : ℕ) (masks : Masks) → Shows (station_at c (fresh_state m w masks)) blank_book
unfolding history.fresh fresh_with
shows_fresh c m w masks =
    subst (λ (k : Station). Shows k blank_book) (sym (fresh_station m w masks c))
    (record {
      holds = λ u. ap (λ (x : Unit). held x.turn) (fresh_unit (bits_of masks c) u);
      mark = first;
      stands = λ u. ap (λ (x : Unit). x.position) (fresh_unit (bits_of masks c) u);
      frozen = refl;
      long = fresh_size (bits_of masks c) ∙ bits_long _ 0 unit_count;
    })
  where
    first : (j : Bool) → MarkIs (last_as j blank_book) (mark_as j (fresh_with (bits_of masks c)))
    first true = refl
    first false = refl

-- an accepted one
pub shows_start : (c : ℕ) (s : State) (area : List ℕ) (m w : ℕ) (masks : Masks) → (answer_of s area (fresh m w masks)).refusal ≡ 0
    → Shows (station_at c (answer_of s area (fresh m w masks)).state) blank_book
unfolding answer_of
shows_start c s area m w masks z =
    subst (λ (t : State). Shows (station_at c t) blank_book) (sym (fresh_accepted s (length area) m w masks z)) (shows_fresh c m w masks)

-- ---- one event

held_cond : (t : Bool) (x y : Option Pending) → cond t (as_held x) (as_held y) ≡ as_held (cond t x y)
held_cond true x y = refl
held_cond false x y = refl

module _ (k d : Station) (b : Book) (S : Shows k b) (u : ℕ) where
  -- every unit but u holds what it held
  others : (h : Option Pending) (y : ℕ) → cond (eqb y u) (as_held h) (held (turn_at k.channel y)) ≡ as_held (cond (eqb y u) h (b.requests y))
  others h y = ap (λ (o : Option Request). cond (eqb y u) (as_held h) o) (S.holds y) ∙ held_cond (eqb y u) h (b.requests y)

  -- the reels of the other units are where they were
  reels : (x : Reel) (y : ℕ) → cond (eqb y u) (as_position x) (position_at k.channel y) ≡ as_position (cond (eqb y u) x (b.reels y))
  reels x y = go (eqb y u)
    where
      go : (t : Bool) → cond t (as_position x) (position_at k.channel y) ≡ as_position (cond t x (b.reels y))
      go true = refl
      go false = S.stands y

  shows_ask : (op priority : ℕ)
      → Agrees k (some (record { event = history.ask u (op_of op) (is_priority priority); answer = history.accepted })) d
      → Shows d (with_request u (some (new_pending op priority)) b)
  unfolding step op_of
  shows_ask op priority A = record {
    holds = λ y. ask_held k u (op_of op) (is_priority priority) (step_to history.accepted d) T refl y ∙ others (some (new_pending op priority)) y;
    mark = marks;
    stands = λ y. ask_stands k u (op_of op) (is_priority priority) (step_to history.accepted d) T y ∙ S.stands y;
    frozen = sym (ap (λ (r : Step). r.after.frozen) A) ∙ S.frozen;
    long = (units_step k (history.ask u (op_of op) (is_priority priority)) (step_to history.accepted d) T).long ∙ S.long;
  }
    where
      T : Took k (history.ask u (op_of op) (is_priority priority)) (step_to history.accepted d)
      T = subst (Took k (history.ask u (op_of op) (is_priority priority))) A (took k (history.ask u (op_of op) (is_priority priority)))

      stays : (j : Bool) → MarkIs (last_as j b) (mark_as j d.channel)
      stays j = subst (MarkIs (last_as j b)) (sym (ask_mark j k u (op_of op) (is_priority priority) (step_to history.accepted d) T)) (S.mark j)

      marks : (j : Bool) → MarkIs (last_as j (with_request u (some (new_pending op priority)) b)) (mark_as j d.channel)
      marks true = stays true
      marks false = stays false

  module _ (outcome len : ℕ) (r : Request) (turn : turn_at k.channel u ≡ Working r)
      (A : Agrees k (some (record { event = history.report u outcome len; answer = report_answer (judge_of k.channel u outcome len) })) d) where
    -- the request that the report is for
    for : Held r (b.requests u)
    for = held_by_lem r (b.requests u) (sym (ap held turn) ∙ S.holds u)

    inside : u < size k.channel
    inside = busy_inside k.channel u (ap is_idle turn)

    became : (v : Verdict) → judge_of k.channel u outcome len ≡ v → d.channel ≡ book_of k.channel u v k.frozen
    unfolding step report_of
    became v j = sym (ap (λ (x : Step). x.after.channel) A) ∙ ap (λ (x : Verdict). book_of k.channel u x k.frozen) j

    frozen_same : d.frozen ≡ b.frozen
    unfolding step
    frozen_same = sym (ap (λ (x : Step). x.after.frozen) A) ∙ S.frozen

    long_same : size d.channel ≡ unit_count
    long_same =
        (units_step k (history.report u outcome len) _
        (subst (Took k (history.report u outcome len)) A (took k (history.report u outcome len)))).long ∙ S.long

    shows_again : (q : Request) → judge_of k.channel u outcome len ≡ Repeats q → (eqb r.noise 0 || (position_at k.channel u).noisy) ≡ true
        → Shows d (with_failure u outcome len b)
    unfolding book_of judge_of
    shows_again q j known = record {
      holds = λ y.
          ap (λ (x : Channel). held (turn_at x y)) (became (Repeats q) j) ∙ repeat_held k.channel u inside k.frozen q y
          ∙ ap (λ (h : Option Request). cond (eqb y u) h (held (turn_at k.channel y))) same ∙ others (failed outcome len (b.requests u)) y;
      stands = λ y.
          ap (λ (x : Channel). position_at x y) (became (Repeats q) j) ∙ repeat_stands k.channel u inside k.frozen y q
          ∙ ap (λ (p : Position). cond (eqb y u) p (position_at k.channel y)) noted ∙ reels (reel_noted outcome len (b.requests u) (b.reels u)) y;
      mark = marks;
      frozen = frozen_same;
      long = long_same;
    }
      where
        next : cond (is_noise r outcome len) (past_noise r) (next_attempt r outcome) ≡ q
        next = verdict_next r outcome len q (sym (ap (λ (t : Turn). judge_turn t outcome len) turn) ∙ j)

        -- the pending request after it
        is : (p : Pending) → r ≡ as_request p → q ≡ as_request (failed_once outcome len p)
        is p e = sym next ∙ ap (λ (x : Request). cond (is_noise x outcome len) (past_noise x) (next_attempt x outcome)) e ∙ again_as outcome len p

        same : some q ≡ as_held (failed outcome len (b.requests u))
        same = go (b.requests u) for
          where
            go : (h : Option Pending) → Held r h → some q ≡ as_held (failed outcome len h)
            go h (holding p e) = ap some (is p e)

        noted : noted_by (position_at k.channel u) q ≡ as_position (reel_noted outcome len (b.requests u) (b.reels u))
        noted = go (b.requests u) for
          where
            go : (h : Option Pending) → Held r h → noted_by (position_at k.channel u) q ≡ as_position (reel_noted outcome len h (b.reels u))
            go h (holding p e) =
                ap (λ (x : Position). noted_by x q) (S.stands u) ∙ ap (noted_by (as_position (b.reels u))) (is p e)
                ∙ noted_as outcome len (b.reels u) p (sym (ap (λ (x : Request). eqb x.noise 0 || (position_at k.channel u).noisy) e ∙ ap (λ (x : Position). eqb p.noise 0 || x.noisy) (S.stands u)) ∙ known)

        stays : (i : Bool) → MarkIs (last_as i b) (mark_as i d.channel)
        stays i = subst (MarkIs (last_as i b)) (sym (ap (mark_as i) (became (Repeats q) j) ∙ repeat_mark k.channel u inside k.frozen i q)) (S.mark i)

        marks : (i : Bool) → MarkIs (last_as i (with_failure u outcome len b)) (mark_as i d.channel)
        marks true = stays true
        marks false = stays false

    shows_ended : (e : Ending) (result : ℕ) → result ≡ ending_number e → judge_of k.channel u outcome len ≡ Ends e → Shows d (with_answer u result b)
    unfolding book_of operation_at
    shows_ended e result told j = record {
      holds = λ y. ap (λ (x : Channel). held (turn_at x y)) (became (Ends e) j) ∙ end_held k.channel u inside k.frozen e y ∙ others none y;
      stands = λ y.
          ap (λ (x : Channel). position_at x y) (became (Ends e) j) ∙ end_stands k.channel u inside k.frozen y e
          ∙ ap (λ (p : Position). cond (eqb y u) p (position_at k.channel y)) moved_on_lem ∙ reels (reel_answered (b.requests u) result (b.reels u)) y;
      mark = marks;
      frozen = frozen_same;
      long = long_same;
    }
      where
        -- the reel
        moved_on_lem : position_after (operation_at k.channel u) e (position_at k.channel u) ≡ as_position (reel_answered (b.requests u) result (b.reels u))
        moved_on_lem =
            ap (λ (t : Turn). position_after (work_of t) e (position_at k.channel u)) turn ∙ ap (position_after (Some r.op) e) (S.stands u)
            ∙ go (b.requests u) for
          where
            go : (h : Option Pending) → Held r h → position_after (Some r.op) e (as_position (b.reels u)) ≡ as_position (reel_answered h result (b.reels u))
            go h (holding p i) =
                ap (λ (x : Request). position_after (Some x.op) e (as_position (b.reels u))) i ∙ moved_as p.op e (b.reels u)
                ∙ ap (λ (n : ℕ). as_position (reel_moved p.op n (b.reels u))) (sym told)

        -- the request that has ended is of the book's kind
        kind : (i : Bool) → held_as i (turn_at k.channel u) ≡ pending_as i (b.requests u)
        kind i = ap (held_as i) turn ∙ go i (b.requests u) for
          where
            go : (i : Bool) (h : Option Pending) → Held r h → held_as i (Working r) ≡ pending_as i h
            go true h (holding p e) = ap (λ (x : Request). x.priority) e
            go false h (holding p e) = ap (λ (x : Request). not x.priority) e

        moved : (i t : Bool) → MarkIs (cond t (some u) (last_as i b)) (mark_moved t unit_count u (mark_as i k.channel))
        moved i true = (refl, subst (λ (n : ℕ). u < n) S.long inside)
        moved i false = S.mark i

        ended_as : (i : Bool) → MarkIs (cond (pending_as i (b.requests u)) (some u) (last_as i b)) (mark_as i d.channel)
        ended_as i =
            subst (MarkIs (cond (pending_as i (b.requests u)) (some u) (last_as i b)))
            (sym (ap (mark_as i) (became (Ends e) j) ∙ end_mark k.channel u inside k.frozen i e
            ∙ ap (λ (t : Bool). mark_moved t (size k.channel) u (mark_as i k.channel)) (kind i)
            ∙ ap (λ (n : ℕ). mark_moved (pending_as i (b.requests u)) n u (mark_as i k.channel)) S.long))
            (moved i (pending_as i (b.requests u)))

        marks : (i : Bool) → MarkIs (last_as i (with_answer u result b)) (mark_as i d.channel)
        marks true = ended_as true
        marks false = ended_as false

-- ---- one call

ends_some : (x : Ending) → is_repeat (ending_number x) ≡ false
ends_some Good = refl
ends_some Opposite = refl
ends_some MarkRead = refl
ends_some MediumEnd = refl
ends_some LostRedundancy = refl
ends_some LostIncomplete = refl

module _ (c : ℕ) (s : State) (area : List ℕ) (g : kept.Good s) (b : Book) (S : Shows (station_at c s) b) where
  -- a call that is nothing to the channel
  unseen : (d : Station) → d ≡ station_at c s → Shows d b
  unseen d e = subst (λ (x : Station). Shows x b) (sym e) S

  ask_shows : (file op priority : ℕ) (naming : Naming) → (answer_of s area (ask file op priority naming)).refusal ≡ 0
      → Shows (station_at c (answer_of s area (ask file op priority naming)).state) (booked c s (ask file op priority naming) (answer_of s area (ask file op priority naming)) b)
  ask_shows file op priority naming z = go (eqb (file_at s file).channel c) refl
    where
      d : Station
      d = station_at c (answer_of s area (ask file op priority naming)).state

      seen_as : (t : Bool) → (is_accepted (answer_of s area (ask file op priority naming)) && eqb (file_at s file).channel c) ≡ t
          → Agrees (station_at c s) (event_if t (history.ask (file_at s file).unit (op_of op) (is_priority priority)) history.accepted) d
      seen_as t e =
          subst (λ (f : Bool). Agrees (station_at c s) (event_if f (history.ask (file_at s file).unit (op_of op) (is_priority priority)) history.accepted) d) e
          (call_agrees c s area g (ask file op priority naming))

      flag : (t : Bool) → eqb (file_at s file).channel c ≡ t → (is_accepted (answer_of s area (ask file op priority naming)) && eqb (file_at s file).channel c) ≡ t
      flag t e = rw (eq-eqb (answer_of s area (ask file op priority naming)).refusal 0 z, e)

      go : (t : Bool) → eqb (file_at s file).channel c ≡ t → Shows d (cond t (with_request (file_at s file).unit (some (new_pending op priority)) b) b)
      go true e = shows_ask (station_at c s) d b S (file_at s file).unit op priority (seen_as true (flag true e))
      go false e = unseen d (seen_as false (flag false e))

  report_shows : (channel unit outcome len : ℕ) (words : List ℕ) → (answer_of s area (report channel unit outcome len words)).refusal ≡ 0
      → Shows (station_at c (answer_of s area (report channel unit outcome len words)).state)
      (booked c s (report channel unit outcome len words) (answer_of s area (report channel unit outcome len words)) b)
  unfolding answer_of report_refusal rows_of position_right
  report_shows channel unit outcome len words z = go (eqb channel c) refl
    where
      d : Station
      d = station_at c (answer_of s area (report channel unit outcome len words)).state

      seen_as : (t : Bool) → (is_accepted (answer_of s area (report channel unit outcome len words)) && eqb channel c) ≡ t
          → Agrees (station_at c s) (event_if t (history.report unit outcome len) (report_answer (judge_of (channel_at s channel) unit outcome len))) d
      seen_as t e =
          subst (λ (f : Bool). Agrees (station_at c s) (event_if f (history.report unit outcome len) (report_answer (judge_of (channel_at s channel) unit outcome len))) d) e
          (call_agrees c s area g (report channel unit outcome len words))

      flag : (t : Bool) → eqb channel c ≡ t → (is_accepted (answer_of s area (report channel unit outcome len words)) && eqb channel c) ≡ t
      flag t e = rw (eq-eqb (answer_of s area (report channel unit outcome len words)).refusal 0 z, e)

      result : ℕ
      result = told_result (answer_of s area (report channel unit outcome len words)).added

      -- a request that has passed over noise is of a unit that has met some
      known : (r : Request) → turn_at (channel_at s c) unit ≡ Working r → (eqb r.noise 0 || (position_at (channel_at s c) unit).noisy) ≡ true
      known r i =
          let x = unit_at (channel_at s c) unit in
          sym (ap (λ (t : Turn). noise_right t x.position) i)
          ∙ and_right (position_in_range x.declared x.position) _ (((sound_facts s g.right).channels c).stands unit)

      booking : Agrees (station_at c s) (some (record { event = history.report unit outcome len; answer = report_answer (judge_of (channel_at s c) unit outcome len) })) d
          → result ≡ result_number (position_at (channel_at s c) unit) (judge_of (channel_at s c) unit outcome len) → Booked (channel_at s c) unit outcome len
          → Shows d (cond (is_repeat result) (with_failure unit outcome len b) (with_answer unit result b))
      booking A e (again r q i j) =
          subst (λ (t : Bool). Shows d (cond t (with_failure unit outcome len b) (with_answer unit result b)))
          (sym (ap is_repeat (e ∙ ap (result_number (position_at (channel_at s c) unit)) j) ∙ repeats_told (position_at (channel_at s c) unit) q))
          (shows_again (station_at c s) d b S unit outcome len r i A q j (known r i))
      booking A e (ended r x i j) =
          let told = e ∙ ap (result_number (position_at (channel_at s c) unit)) j in
          subst (λ (t : Bool). Shows d (cond t (with_failure unit outcome len b) (with_answer unit result b)))
          (sym (ap is_repeat told ∙ ends_some x))
          (shows_ended (station_at c s) d b S unit outcome len r i A x result told j)

      go : (t : Bool) → eqb channel c ≡ t
          → Shows d (cond t (cond (is_repeat result) (with_failure unit outcome len b) (with_answer unit result b)) b)
      go true e =
          let here = eqb-true channel c e in
          booking
          (subst (λ (n : ℕ). Agrees (station_at c s) (some (record { event = history.report unit outcome len; answer = report_answer (judge_of (channel_at s n) unit outcome len) })) d) here
          (seen_as true (flag true e)))
          (subst (λ (n : ℕ). result ≡ result_number (position_at (channel_at s n) unit) (judge_of (channel_at s n) unit outcome len)) here (result_is c s area channel unit outcome len words z))
          (subst (λ (n : ℕ). Booked (channel_at s n) unit outcome len) here
          (view s area channel unit outcome len words g.sixteen (sym (report_exactly s area channel unit outcome len words).number ∙ z)))
      go false e = unseen d (seen_as false (flag false e))

  freeze_shows : (answer_of s area freeze).refusal ≡ 0 → Shows (station_at c (answer_of s area freeze).state) (with_freeze true b)
  unfolding step
  freeze_shows z =
      subst (λ (x : Station). Shows x (with_freeze true b)) (ap (λ (r : Step). r.after) seen_as)
      (record { holds = S.holds; mark = marks; stands = S.stands; frozen = refl; long = S.long })
    where
      marks : (j : Bool) → MarkIs (last_as j (with_freeze true b)) (mark_as j (channel_at s c))
      marks true = S.mark true
      marks false = S.mark false

      seen_as : Agrees (station_at c s) (event_if true history.freeze history.accepted) (station_at c (answer_of s area freeze).state)
      seen_as =
          subst (λ (t : Bool). Agrees (station_at c s) (event_if t history.freeze history.accepted) (station_at c (answer_of s area freeze).state))
          (eq-eqb (answer_of s area freeze).refusal 0 z) (call_agrees c s area g freeze)

  thaw_shows : (answer_of s area thaw).refusal ≡ 0 → Shows (station_at c (answer_of s area thaw).state) (with_freeze false b)
  unfolding step thaw_of
  thaw_shows z =
      subst (λ (x : Station). Shows x (with_freeze false b)) (ap (λ (r : Step). r.after) seen_as)
      (record {
        holds = λ u. held_start (channel_at s c) false u ∙ S.holds u;
        stands = λ u. thaw_stands (channel_at s c) u ∙ S.stands u;
        mark = marks;
        frozen = refl;
        long = (units_step (station_at c s) history.thaw (step (station_at c s) history.thaw) (took (station_at c s) history.thaw)).long ∙ S.long;
      })
    where
      stays : (j : Bool) → MarkIs (last_as j b) (mark_as j (start_of (channel_at s c) false))
      stays j = subst (MarkIs (last_as j b)) (sym (mark_start j (channel_at s c) false)) (S.mark j)

      marks : (j : Bool) → MarkIs (last_as j (with_freeze false b)) (mark_as j (start_of (channel_at s c) false))
      marks true = stays true
      marks false = stays false

      seen_as : Agrees (station_at c s) (event_if true history.thaw history.accepted) (station_at c (answer_of s area thaw).state)
      seen_as =
          subst (λ (t : Bool). Agrees (station_at c s) (event_if t history.thaw history.accepted) (station_at c (answer_of s area thaw).state))
          (eq-eqb (answer_of s area thaw).refusal 0 z) (call_agrees c s area g thaw)

  accepted_shows : (call : Call) → (answer_of s area call).refusal ≡ 0
      → Shows (station_at c (answer_of s area call).state) (booked c s call (answer_of s area call) b)
  accepted_shows (fresh m w masks) z = shows_start c s area m w masks z
  accepted_shows (opening file channel unit flags size rlen) z = unseen _ (call_agrees c s area g (opening file channel unit flags size rlen))
  accepted_shows (close file) z = unseen _ (call_agrees c s area g (close file))
  accepted_shows (ask file op priority naming) z = ask_shows file op priority naming z
  accepted_shows (report channel unit outcome len words) z = report_shows channel unit outcome len words z
  accepted_shows (get file) z = unseen _ (call_agrees c s area g (get file))
  accepted_shows (put file words) z = unseen _ (call_agrees c s area g (put file words))
  accepted_shows (seal file) z = unseen _ (call_agrees c s area g (seal file))
  accepted_shows (skip file) z = unseen _ (call_agrees c s area g (skip file))
  accepted_shows freeze z = freeze_shows z
  accepted_shows thaw z = thaw_shows z
  accepted_shows return z = unseen _ (call_agrees c s area g return)
  accepted_shows running z = unseen _ (call_agrees c s area g running)

  -- a refused call enters no book and changes nothing
  pub call_shows : (call : Call)
      → Shows (station_at c (answer_of s area call).state) (cond (is_accepted (answer_of s area call)) (booked c s call (answer_of s area call) b) b)
  call_shows call = go (ℕ_discrete (answer_of s area call).refusal 0)
    where
      To : Bool → Type 0
      To t = Shows (station_at c (answer_of s area call).state) (cond t (booked c s call (answer_of s area call) b) b)

      go : Dec ((answer_of s area call).refusal ≡ 0) → To (is_accepted (answer_of s area call))
      go (yes z) = subst To (sym (eq-eqb (answer_of s area call).refusal 0 z)) (accepted_shows call z)
      go (no h) =
          subst To (sym (ne_eqb (answer_of s area call).refusal 0 h))
          (subst (λ (a : Answer). Shows (station_at c a.state) b) (sym (call_alone_lem s area call h)) S)

-- ---- any history

pub shows_after : (c : ℕ) (s : State) (b : Book) (h : List Lent) → kept.Good s → Shows (station_at c s) b
    → Shows (station_at c (after s h)) (book_after c s b h)
unfolding after book_after
shows_after c s b [] g S = S
shows_after c s b (x ∷ h) g S =
    shows_after c (answer_to s x).state (booked_at c s x b) h (call_kept s x.area g x.call) (call_shows c s x.area g b S x.call)
