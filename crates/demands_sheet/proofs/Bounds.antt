-- A listed request that is answered: its row says what the history says, and an ordinary one is within demand 3's bound. Assumes nothing.
use mathlib.Core.Path.{◌≡◌, refl, sym, ap, ap₂, ◌∙◌, subst}
use mathlib.Core.Bool.{Bool, true, false, not, cond, ◌&&◌}
use mathlib.Core.List.{List, [], ◌∷◌}
use Prim.Native.Nat.{ℕ, zero, suc, ◌+◌, ◌*◌, ◌≤◌, ◌<◌}
use native.Mathlib.Omega.{arith}
use borrow.Author.Tests.{eqb-true, eqb-false, eq-eqb, ne_eqb}
use lib.Dec.{eqb}
use lib.ListN.{length, take}
use Rattle.area.specs.Lists.{count_of}
use Rattle.area.proofs.Walks.{by_test}
use Rattle.routines.specs.declared.Naming.{Naming}
use Rattle.state.specs.declared.State.{State}
use Rattle.state.specs.Places.{file_at}
use Rattle.pack_start.specs.declared.Masks.{Masks}
use Rattle.call_request.specs.Ask.{is_priority}
use Rattle.pack.specs.Calls.{Call, fresh, opening, close, ask, report, get, put, seal, skip, freeze, thaw, return, running, Added, nothing, working, reported, got, Answer, answer_of}
use Rattle.pack.specs.Histories.{Lent, after, count, is_accepted, is_answer, fresh_start, is_report_on, is_answer_for, declared_on}
use Rattle.pack.specs.Books.{Book, blank_book, book_after}
use Rattle.demands.specs.Demands.{Answers, priorities}
use Rattle.demands.proofs.Demands.{demand3}
use Rattle.demands_session.specs.Played.{calls_in, lent_from}
use Rattle.sheet.specs.declared.Event.{Event}
use Rattle.sheet.specs.declared.Row.{Row}
use Rattle.sheet.specs.Rows.{most_count, next, new_row, row_through}
use Rattle.sheet.specs.Sheet.{events_of}
use Rattle.sheet.proofs.Steps.{next_below}
use Rattle.demands_sheet.specs.Listed.{call_event, events_by, Answered, Within}
use Rattle.demands_sheet.proofs.Events.{events_are, events_take, events_length, counts_are}
use Rattle.demands_sheet.proofs.Follows.{counts, answers, starts, row_with, Found, follow}

-- ---- what is counted of events is what demand 3 counts

eqb_swap : (a b : ℕ) → eqb a b ≡ eqb b a
eqb_swap a b =
    by_test (λ t. eqb a b ≡ t → t ≡ eqb b a) (eqb a b)
    (λ q e. sym (eq-eqb b a (sym (eqb-true a b e)))) (λ q e. sym (ne_eqb b a (λ z. eqb-false a b e (sym z)))) refl

no_more : (b : Bool) → (b && false) ≡ false
no_more true = refl
no_more false = refl

agree_counts : (c : ℕ) (s : State) (call : Call) (a : Answer) → counts c (call_event s call a) ≡ (is_accepted a && is_report_on c s call a)
agree_counts c s (fresh m w masks) a = sym (no_more (is_accepted a))
agree_counts c s (opening file channel unit flags size rlen) a = sym (no_more (is_accepted a))
agree_counts c s (close file) a = sym (no_more (is_accepted a))
agree_counts c s (ask file op priority naming) a = sym (no_more (is_accepted a))
agree_counts c s (report channel unit outcome len words) a = ap (λ (b : Bool). is_accepted a && b) (eqb_swap c channel)
agree_counts c s (get file) a = sym (no_more (is_accepted a))
agree_counts c s (put file words) a = sym (no_more (is_accepted a))
agree_counts c s (seal file) a = sym (no_more (is_accepted a))
agree_counts c s (skip file) a = sym (no_more (is_accepted a))
agree_counts c s freeze a = sym (no_more (is_accepted a))
agree_counts c s thaw a = sym (no_more (is_accepted a))
agree_counts c s return a = sym (no_more (is_accepted a))
agree_counts c s running a = sym (no_more (is_accepted a))

four : (a x y z : Bool) → (((a && x) && y) && (a && z)) ≡ (a && (x && (y && z)))
four true true true z = refl
four true true false z = refl
four true false y z = refl
four false x y z = refl

agree_answers : (c u : ℕ) (s : State) (call : Call) (a : Answer) → answers c u (call_event s call a) ≡ (is_accepted a && is_answer_for c u s call a)
agree_answers c u s (fresh m w masks) a = sym (no_more (is_accepted a))
agree_answers c u s (opening file channel unit flags size rlen) a = sym (no_more (is_accepted a))
agree_answers c u s (close file) a = sym (no_more (is_accepted a))
agree_answers c u s (ask file op priority naming) a = sym (no_more (is_accepted a))
agree_answers c u s (report channel unit outcome len words) a =
    four (is_accepted a) (eqb c channel) (eqb u unit) (is_answer a.added)
    ∙ ap₂ (λ (x y : Bool). is_accepted a && (x && (y && is_answer a.added))) (eqb_swap c channel) (eqb_swap u unit)
agree_answers c u s (get file) a = sym (no_more (is_accepted a))
agree_answers c u s (put file words) a = sym (no_more (is_accepted a))
agree_answers c u s (seal file) a = sym (no_more (is_accepted a))
agree_answers c u s (skip file) a = sym (no_more (is_accepted a))
agree_answers c u s freeze a = sym (no_more (is_accepted a))
agree_answers c u s thaw a = sym (no_more (is_accepted a))
agree_answers c u s return a = sym (no_more (is_accepted a))
agree_answers c u s running a = sym (no_more (is_accepted a))

with_true : (b : Bool) → b ≡ (b && true)
with_true true = refl
with_true false = refl

agree_starts : (s : State) (call : Call) (a : Answer) → starts (call_event s call a) ≡ (is_accepted a && fresh_start s call a)
agree_starts s (fresh m w masks) a = with_true (is_accepted a)
agree_starts s (opening file channel unit flags size rlen) a = sym (no_more (is_accepted a))
agree_starts s (close file) a = sym (no_more (is_accepted a))
agree_starts s (ask file op priority naming) a = sym (no_more (is_accepted a))
agree_starts s (report channel unit outcome len words) a = sym (no_more (is_accepted a))
agree_starts s (get file) a = sym (no_more (is_accepted a))
agree_starts s (put file words) a = sym (no_more (is_accepted a))
agree_starts s (seal file) a = sym (no_more (is_accepted a))
agree_starts s (skip file) a = sym (no_more (is_accepted a))
agree_starts s freeze a = sym (no_more (is_accepted a))
agree_starts s thaw a = sym (no_more (is_accepted a))
agree_starts s return a = sym (no_more (is_accepted a))
agree_starts s running a = sym (no_more (is_accepted a))

-- ---- a request that the sheet lists as answered: its numbers are those of the history

module _ (file c u k : ℕ) (d : State) (xs : List ℕ) (later : List (List ℕ)) (fits : k + 1 + length later ≤ most_count) where
  abbrev row : Row
  row = row_through (next k) (row_with file c u k 0 0 true) (events_of d xs later)

  next_k : next k ≡ k + 1
  next_k = sym (next_below k (omega arith))

  found : ((row_through (next k) (row_with file c u k 0 0 true) (events_by d xs later)).answered ≡ 0 → ⊥)
      → Found file c u k (next k) 0 (events_by d xs later) (row_through (next k) (row_with file c u k 0 0 true) (events_by d xs later))
  found ne =
      follow file c u k (events_by d xs later) (next k) 0 (omega (arith, next_k, events_length later d xs, fits)) (omega (arith, events_length later d xs, fits)) ne

  same_row : row_through (next k) (row_with file c u k 0 0 true) (events_by d xs later) ≡ row
  same_row = ap (λ (es : List Event). row_through (next k) (row_with file c u k 0 0 true) es) (sym (events_are later d xs))

  pub listed_answered : (row.answered ≡ 0 → ⊥) → Answered c u k d xs later row
  listed_answered ne =
      let F = found (λ z. ne (ap (λ (r : Row). r.answered) (sym same_row) ∙ z)) in
      let n = F.before in
      let reports : count_of (counts c) (take F.before (events_by d xs later)) ≡ count (is_report_on c) d (lent_from d xs (calls_in (take F.before later))) =
      ap (count_of (counts c)) (events_take F.before later d xs) ∙ counts_are (counts c) (is_report_on c) refl (agree_counts c) (take F.before later) d xs in
      record {
        lines = F.before;
        frame = ap (λ (r : Row). r.answered) (sym same_row) ∙ F.frame ∙ ap (λ (j : ℕ). j + F.before) next_k;
        unanswered =
            sym (ap (count_of (answers c u)) (events_take F.before later d xs) ∙ counts_are (answers c u) (is_answer_for c u) refl (agree_answers c u) (take F.before later) d xs)
            ∙ F.none;
        undropped = sym (ap (count_of starts) (events_take F.before later d xs) ∙ counts_are starts fresh_start refl agree_starts (take F.before later) d xs) ∙ F.fresh;
        reports = ap (λ (r : Row). r.reports) (sym same_row) ∙ F.reported ∙ omega (arith, reports);
      }

-- ---- and an ordinary one is within the bound: after an accepted fresh start and the calls `before`, none of them a fresh start, it is asked for in
-- frame k; the lines `later` come after it

module _ (s₀ : State) (area₀ : List ℕ) (m w : ℕ) (masks : Masks) (started : (answer_of s₀ area₀ (fresh m w masks)).refusal ≡ 0) where
  abbrev start : State
  start = (answer_of s₀ area₀ (fresh m w masks)).state

  module _ (before : List Lent) (single : count fresh_start start before ≡ 0) (file op priority : ℕ) (naming : Naming) (area : List ℕ) (ordinary : is_priority priority ≡ false)
      (accepted : (answer_of (after start before) area (ask file op priority naming)).refusal ≡ 0) (k : ℕ) (later : List (List ℕ)) (fits : k + 1 + length later ≤ most_count) where
    abbrev asked : Answer
    asked = answer_of (after start before) area (ask file op priority naming)

    abbrev listed : Row
    listed = row_through (next k) (new_row (call_event (after start before) (ask file op priority naming) asked) k) (events_of asked.state asked.area later)

    pub listed_within : (listed.answered ≡ 0 → ⊥)
        → Within (declared_on start (file_at (after start before) file).channel) (file_at (after start before) file).channel (file_at (after start before) file).unit k
        (book_after (file_at (after start before) file).channel start blank_book before) asked.state asked.area later listed
    listed_within ne =
        let c = (file_at (after start before) file).channel in
        let u = (file_at (after start before) file).unit in
        let A = listed_answered file (file_at (after start before) file).channel (file_at (after start before) file).unit k asked.state asked.area later fits ne in
        let D = demand3 s₀ area₀ m w masks started before single file op priority naming area ordinary accepted (lent_from asked.state asked.area (calls_in (take A.lines later))) A.undropped in
        record { answer = A; bound = omega (arith, D.soon A.unanswered, A.reports) }
