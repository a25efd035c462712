-- The demands of every session: each is the demand itself, of the history that the session's lines are. Assumes nothing.
use Prim.Native.Nat.{ℕ, ◌+◌, ◌%◌}
use mathlib.Core.Path.{◌≡◌, sym, ap, ◌∙◌, subst}
use mathlib.Core.Logic.{◌≢◌, ◌⊎◌}
use mathlib.Core.Bool.{true, false}
use mathlib.Core.Option.{Option, none, some}
use mathlib.Core.List.{List, [], ◌∷◌, ◌++◌}
use lib.ListN.{length}
use Rattle.word.specs.CheckWords.{block_numbers}
use Rattle.block.specs.Blocks.{judged_block}
use Rattle.pool.specs.Serving.{serves}
use Rattle.routines.specs.declared.Due.{Due}
use Rattle.routines.specs.declared.Naming.{Naming}
use Rattle.routines.specs.Ranks.{is_due}
use Rattle.routines_theorems.specs.History.{Reversed}
use Rattle.state.specs.declared.State.{State}
use Rattle.channel.specs.Units.{position_at}
use Rattle.state.specs.Places.{before_start, file_at, channel_at}
use Rattle.pack_start.specs.declared.Masks.{Masks}
use Rattle.call_request.specs.Ask.{is_priority}
use Rattle.pack.specs.Calls.{Call, fresh, opening, close, ask, report, get, skip, return, answer_of}
use Rattle.pack.specs.Histories.{is_repeat, is_answer, after, count, fresh_start, declared_on}
use Rattle.pack.specs.Books.{Book, Opened, told_result, blank_book, booked_at as inBook, book_after, opened_after}
use Rattle.pack.proofs.Kept.{good_start, history_kept}
use Rattle.demands_ledger.specs.Ledgers.{Ledger, blank_ledger, told_delivery, is_on, noted, state_after, area_after, ledger_after}
use Rattle.demands_ledger.specs.Blocks.{blocks_in, unread_of, joined}
use Rattle.demands.specs.Demands.{Refuses, Holds, Frees, Takes, Books, data_in, Writes, Reads, Answers, AnswersUrgent}
use Rattle.demands.specs.Results.{Results, Forbids, Stands}
use Rattle.demands.specs.Turns.{works_for, is_pending, Turns, Continues, told_working, Tells}
use Rattle.demands.specs.Orders.{Requests, On, AnswersNaming, EitherOrder}
use Rattle.demands.specs.Routines.{Roster, blank_roster, rostered_at, roster_after, Schedules, Returns, GivesBack, turns_after, count_due, Once}
use Rattle.demands.specs.Marks.{Marks}
use Rattle.call_request.specs.Report.{told_by}
use Rattle.demands.specs.Records.{Finds, Gives, Drops}
use Rattle.demands.specs.Written.{Cuts, HandsOut}
use Rattle.demands.proofs.Demands.{demand1, demand2_before, demand2_routines_before, demand2_returns_before, demand2_returned_before, demand2_once_before, demand2_reversed_before, demand2_freed, demand2_taken, demand2_booked, demand2_results, demand2_stands, demand2_forbidden, demand2_idle, demand2_turns, demand2_continues, demand2_asked, demand2_reported, demand2_single, demand2_holding, demand2_waiting, demand2_marks, demand2_writes, demand2_closed, demand2_reads, demand2_judged, demand2_found, demand2_got, demand2_skipped, demand2_cut, demand2_sent, demand3, demand3_urgent, demand3_order}
use Rattle.session.specs.Session.{Course, with_text, play_lines}
use Rattle.session.proofs.Counting.{lines_append}
use Rattle.demands_session.specs.Played.{call_in, calls_in, line_of, line_for, state_for, area_for, zeros, state_in, area_in, lent_from}
use Rattle.demands_session.proofs.Played.{course_cons, history_is, lent_state}
use Rattle.std.specs.declared.option.Option.TheVariants.{Some}

-- ---- a line within a session, after the lines ks

module _ (ks : List (List ℕ)) (l : List ℕ) (call : Call) (is_call : call_in l ≡ some call) where
  course_at_lem : (ls : List (List ℕ)) → play_lines before_start zeros (ks ++ (l ∷ ls))
      ≡ with_text (play_lines before_start zeros ks).text (with_text (line_of (answer_of (state_in ks) (area_in ks) call))
      (play_lines (answer_of (state_in ks) (area_in ks) call).state (answer_of (state_in ks) (area_in ks) call).area ls))
  course_at_lem ls =
      lines_append ks (l ∷ ls) before_start zeros
      ∙ ap (with_text (play_lines before_start zeros ks).text) (course_cons (state_in ks) (area_in ks) l ls
      ∙ ap (λ (c : Option Call). with_text (line_for (state_in ks) (area_in ks) c) (play_lines (state_for (state_in ks) (area_in ks) c) (area_for (state_in ks) (area_in ks) c) ls)) is_call)

  -- what is printed for it, after the text of the lines before it, is its call's answer in the state and the area that they lead to
  pub printed_at : (ls : List (List ℕ)) → (play_lines before_start zeros (ks ++ (l ∷ ls))).text
      ≡ (play_lines before_start zeros ks).text ++ (line_of (answer_of (state_in ks) (area_in ks) call)
      ++ (play_lines (answer_of (state_in ks) (area_in ks) call).state (answer_of (state_in ks) (area_in ks) call).area ls).text)
  unfolding with_text
  printed_at ls = ap (λ (c : Course). c.text) (course_at_lem ls)

  -- the state and the area after the lines ls that follow it
  pub state_at : (ls : List (List ℕ)) → state_in (ks ++ (l ∷ ls))
      ≡ state_after (answer_of (state_in ks) (area_in ks) call).state (answer_of (state_in ks) (area_in ks) call).area (calls_in ls)
  unfolding with_text
  state_at ls = ap (λ (c : Course). c.state) (course_at_lem ls) ∙ (history_is _ _ ls).state

  pub area_at : (ls : List (List ℕ)) → area_in (ks ++ (l ∷ ls))
      ≡ area_after (answer_of (state_in ks) (area_in ks) call).state (answer_of (state_in ks) (area_in ks) call).area (calls_in ls)
  unfolding with_text
  area_at ls = ap (λ (c : Course). c.area) (course_at_lem ls) ∙ (history_is _ _ ls).words

-- ---- Demand 1, of every line that is a call: after any lines ks

pub session1 : (ks : List (List ℕ)) (call : Call) → Refuses (state_in ks) (area_in ks) call
session1 ks call = demand1 (state_in ks) (area_in ks) call

-- ---- Demand 2: "Each buffer is free, or held by exactly one open file": after any lines

pub session2_held : (ls : List (List ℕ)) → Holds (state_in ls)
session2_held ls =
    subst Holds (lent_state before_start zeros (calls_in ls) ∙ sym (history_is before_start zeros ls).state)
    (demand2_before (lent_from before_start zeros (calls_in ls)))

-- what holds of the history from before the first fresh start holds of the session
from_first : (P : State → List ℕ → Type 0) (ls : List (List ℕ))
    → P (after before_start (lent_from before_start zeros (calls_in ls))) (area_after before_start zeros (calls_in ls)) → P (state_in ls) (area_in ls)
from_first P ls p =
    subst (λ (s : State). P s (area_in ls)) (lent_state before_start zeros (calls_in ls) ∙ sym (history_is before_start zeros ls).state)
    (subst (P (after before_start (lent_from before_start zeros (calls_in ls)))) (sym (history_is before_start zeros ls).words) p)

-- "Special routines by priority" (M-110). The roster after any lines of a session, and with one call more:
abbrev pub roster_in : List (List ℕ) → Roster
roster_in ls = roster_after before_start blank_roster (lent_from before_start zeros (calls_in ls))

abbrev pub roster_with : List (List ℕ) → Call → Roster
roster_with ls call = rostered_at (state_in ls) (record { call = call; area = area_in ls }) (roster_in ls)

-- what runs after a call that is accepted, and what it enters
pub session2_routines : (ls : List (List ℕ)) (call : Call) → (answer_of (state_in ls) (area_in ls) call).refusal ≡ 0
    → Schedules (state_in ls) call (answer_of (state_in ls) (area_in ls) call) (roster_in ls) (roster_with ls call)
session2_routines ls call =
    from_first (λ s xs. (answer_of s xs call).refusal ≡ 0
    → Schedules s call (answer_of s xs call) (roster_in ls) (rostered_at s (record { call = call; area = xs }) (roster_in ls))) ls
    (demand2_routines_before (lent_from before_start zeros (calls_in ls)) (record { call = call; area = _ }))

-- "Returns are the operator's, refused 18 with none running."
pub session2_returns : (ls : List (List ℕ)) → Returns (state_in ls) (area_in ls)
session2_returns ls = from_first (λ s xs. Returns s xs) ls (demand2_returns_before (lent_from before_start zeros (calls_in ls)) _)

-- "On a return, the highest waiting routine is entered if it is above the program last pushed, otherwise that program resumes."
pub session2_returned : (ls : List (List ℕ)) → (answer_of (state_in ls) (area_in ls) return).refusal ≡ 0
    → GivesBack (answer_of (state_in ls) (area_in ls) return) (roster_in ls) (roster_with ls return)
session2_returned ls =
    from_first (λ s xs. (answer_of s xs return).refusal ≡ 0 → GivesBack (answer_of s xs return) (roster_in ls) (rostered_at s (record { call = return; area = xs }) (roster_in ls))) ls
    (demand2_returned_before (lent_from before_start zeros (calls_in ls)) _)

-- programs resume in the reverse order of their interruption
pub session2_reversed : (ls : List (List ℕ)) → Reversed [] (turns_after before_start (lent_from before_start zeros (calls_in ls))) (roster_in ls).list
session2_reversed ls = demand2_reversed_before (lent_from before_start zeros (calls_in ls))

-- "A due routine is entered once.": of a report that answers a request which names the routine d, and any lines `later` after it
pub session2_once : (ls : List (List ℕ)) (c u outcome len : ℕ) (words : List ℕ) (d : Due) → is_due d ≡ true → (roster_in ls).names c u ≡ d
    → let a = answer_of (state_in ls) (area_in ls) (report c u outcome len words) in
    a.refusal ≡ 0 → is_answer a.added ≡ true → (later : List (List ℕ)) → count fresh_start a.state (lent_from a.state a.area (calls_in later)) ≡ 0
    → count_due c u a.state (roster_with ls (report c u outcome len words)) (lent_from a.state a.area (calls_in later)) ≡ 0
    → Once c u d (state_in ls) (roster_in ls) (record { call = report c u outcome len words; area = area_in ls }) (lent_from a.state a.area (calls_in later))
session2_once ls c u outcome len words d due names =
    from_first (λ s xs. (answer_of s xs (report c u outcome len words)).refusal ≡ 0 → is_answer (answer_of s xs (report c u outcome len words)).added ≡ true → (later : List (List ℕ))
    → count fresh_start (answer_of s xs (report c u outcome len words)).state
    (lent_from (answer_of s xs (report c u outcome len words)).state (answer_of s xs (report c u outcome len words)).area (calls_in later)) ≡ 0
    → count_due c u (answer_of s xs (report c u outcome len words)).state (rostered_at s (record { call = report c u outcome len words; area = xs }) (roster_in ls))
    (lent_from (answer_of s xs (report c u outcome len words)).state (answer_of s xs (report c u outcome len words)).area (calls_in later)) ≡ 0
    → Once c u d s (roster_in ls) (record { call = report c u outcome len words; area = xs })
    (lent_from (answer_of s xs (report c u outcome len words)).state (answer_of s xs (report c u outcome len words)).area (calls_in later))) ls
    (λ z ans later. demand2_once_before (lent_from before_start zeros (calls_in ls)) c u outcome len words _ d due names z ans _)

-- From here on: a line of the session that is a fresh start and accepted, after the lines ks; then any lines.
module _ (ks : List (List ℕ)) (l : List ℕ) (m w : ℕ) (masks : Masks) (is_fresh : call_in l ≡ some (fresh m w masks))
    (started : (answer_of (state_in ks) (area_in ks) (fresh m w masks)).refusal ≡ 0) where
  abbrev pub start : State
  start = (answer_of (state_in ks) (area_in ks) (fresh m w masks)).state

  -- the state and the area of the program when the lines `later` have come after it
  abbrev pub state_then : List (List ℕ) → State
  state_then later = state_in (ks ++ (l ∷ later))

  abbrev pub area_then : List (List ℕ) → List ℕ
  area_then later = area_in (ks ++ (l ∷ later))

  -- the ledger of file i
  abbrev pub account_then : List (List ℕ) → ℕ → Ledger
  account_then later i = ledger_after i start (area_in ks) blank_ledger (calls_in later)

  -- what holds of the history holds of the session
  so : (P : State → List ℕ → Type 0) (later : List (List ℕ))
      → P (state_after start (area_in ks) (calls_in later)) (area_after start (area_in ks) (calls_in later)) → P (state_then later) (area_then later)
  unfolding answer_of
  so P later p =
      subst (λ (s : State). P s (area_then later)) (sym (state_at ks l (fresh m w masks) is_fresh later))
      (subst (P (state_after start (area_in ks) (calls_in later))) (sym (area_at ks l (fresh m w masks) is_fresh later)) p)

  so_lent : (P : State → List ℕ → Type 0) (later : List (List ℕ))
      → P (after start (lent_from start (area_in ks) (calls_in later))) (area_after start (area_in ks) (calls_in later)) → P (state_then later) (area_then later)
  so_lent P later p =
      so P later (subst (λ (s : State). P s (area_after start (area_in ks) (calls_in later))) (lent_state start (area_in ks) (calls_in later)) p)

  -- "and a freed one is used again."
  pub session2_freed : (later : List (List ℕ)) (file : ℕ) → (answer_of (state_then later) (area_then later) (close file)).refusal ≡ 0
      → Frees (state_then later) file (answer_of (state_then later) (area_then later) (close file)).state
  session2_freed later file =
      so_lent (λ s xs. (answer_of s xs (close file)).refusal ≡ 0 → Frees s file (answer_of s xs (close file)).state) later
      (demand2_freed (state_in ks) (area_in ks) m w masks started (lent_from start (area_in ks) (calls_in later)) _ file)

  pub session2_taken : (later : List (List ℕ)) (file channel unit flags size rlen : ℕ)
      → (answer_of (state_then later) (area_then later) (opening file channel unit flags size rlen)).refusal ≡ 0
      → Takes (state_then later) file (answer_of (state_then later) (area_then later) (opening file channel unit flags size rlen)).state
  session2_taken later file channel unit flags size rlen =
      so_lent (λ s xs. (answer_of s xs (opening file channel unit flags size rlen)).refusal ≡ 0
      → Takes s file (answer_of s xs (opening file channel unit flags size rlen)).state) later
      (demand2_taken (state_in ks) (area_in ks) m w masks started (lent_from start (area_in ks) (calls_in later)) _ file channel unit flags size rlen)

  -- a completion is booked to the one file of its unit
  pub session2_booked : (later : List (List ℕ)) (channel unit outcome len : ℕ) (words : List ℕ)
      → (answer_of (state_then later) (area_then later) (report channel unit outcome len words)).refusal ≡ 0
      → Books (state_then later) channel unit (answer_of (state_then later) (area_then later) (report channel unit outcome len words)).state
  session2_booked later channel unit outcome len words =
      so_lent (λ s xs. (answer_of s xs (report channel unit outcome len words)).refusal ≡ 0
      → Books s channel unit (answer_of s xs (report channel unit outcome len words)).state) later
      (demand2_booked (state_in ks) (area_in ks) m w masks started (lent_from start (area_in ks) (calls_in later)) _ channel unit outcome len words)

  -- "Scheduling, retry limits .. follow the manual and document 01.": the book of channel c, and what is known of file i
  abbrev pub book_then : List (List ℕ) → ℕ → Book
  book_then later c = book_after c start blank_book (lent_from start (area_in ks) (calls_in later))

  -- and the roster of special routines (M-110)
  abbrev pub roster_then : List (List ℕ) → Roster
  roster_then later = roster_after start blank_roster (lent_from start (area_in ks) (calls_in later))

  abbrev pub open_then : List (List ℕ) → ℕ → Option Opened
  open_then later i = opened_after i start none (lent_from start (area_in ks) (calls_in later))

  pub session2_results : (later : List (List ℕ)) (channel unit outcome len : ℕ) (words : List ℕ)
      → (answer_of (state_then later) (area_then later) (report channel unit outcome len words)).refusal ≡ 0
      → Results (book_then later channel) unit outcome len (told_result (answer_of (state_then later) (area_then later) (report channel unit outcome len words)).added)
  session2_results later channel unit outcome len words =
      so_lent (λ s xs. (answer_of s xs (report channel unit outcome len words)).refusal ≡ 0
      → Results (book_then later channel) unit outcome len (told_result (answer_of s xs (report channel unit outcome len words)).added)) later
      (demand2_results (state_in ks) (area_in ks) m w masks started (lent_from start (area_in ks) (calls_in later)) _ channel unit outcome len words)

  -- where the reel of a unit stands is decided by the lines alone
  pub session2_stands : (later : List (List ℕ)) (c u : ℕ) → Stands (position_at (channel_at (state_then later) c) u) ((book_then later c).reels u)
  session2_stands later c u =
      so_lent (λ s xs. Stands (position_at (channel_at s c) u) ((book_then later c).reels u)) later
      (demand2_stands (state_in ks) (area_in ks) m w masks started (lent_from start (area_in ks) (calls_in later)) c u)

  pub session2_forbidden : (later : List (List ℕ)) (channel unit outcome len : ℕ) (words : List ℕ)
      → (answer_of (state_then later) (area_then later) (report channel unit outcome len words)).refusal ≡ 12 → Forbids (book_then later channel) unit outcome
  session2_forbidden later channel unit outcome len words =
      so_lent (λ s xs. (answer_of s xs (report channel unit outcome len words)).refusal ≡ 12 → Forbids (book_then later channel) unit outcome) later
      (demand2_forbidden (state_in ks) (area_in ks) m w masks started (lent_from start (area_in ks) (calls_in later)) _ channel unit outcome len words)

  pub session2_idle : (later : List (List ℕ)) (channel unit outcome len : ℕ) (words : List ℕ)
      → (answer_of (state_then later) (area_then later) (report channel unit outcome len words)).refusal ≡ 11 → works_for (state_then later) channel unit ≡ false
  session2_idle later channel unit outcome len words =
      so_lent (λ s xs. (answer_of s xs (report channel unit outcome len words)).refusal ≡ 11 → works_for s channel unit ≡ false) later
      (demand2_idle (state_in ks) (area_in ks) m w masks started (lent_from start (area_in ks) (calls_in later)) _ channel unit outcome len words)

  pub session2_turns : (later : List (List ℕ)) (call : Call) (c : ℕ) → (answer_of (state_then later) (area_then later) call).refusal ≡ 0
      → Turns c (state_then later) call (answer_of (state_then later) (area_then later) call).state
      (inBook c (state_then later) (record { call = call; area = area_then later }) (book_then later c))
  session2_turns later call c =
      so_lent (λ s xs. (answer_of s xs call).refusal ≡ 0
      → Turns c s call (answer_of s xs call).state (inBook c s (record { call = call; area = xs }) (book_then later c))) later
      (demand2_turns (state_in ks) (area_in ks) m w masks started (lent_from start (area_in ks) (calls_in later)) (record { call = call; area = _ }) c)

  pub session2_continues : (later : List (List ℕ)) (channel unit outcome len : ℕ) (words : List ℕ)
      → let a = answer_of (state_then later) (area_then later) (report channel unit outcome len words) in
      a.refusal ≡ 0
      → Continues channel unit (told_result a.added) (state_then later) a.state
      (inBook channel (state_then later) (record { call = report channel unit outcome len words; area = area_then later }) (book_then later channel))
  session2_continues later channel unit outcome len words =
      so_lent (λ s xs. (answer_of s xs (report channel unit outcome len words)).refusal ≡ 0
      → Continues channel unit (told_result (answer_of s xs (report channel unit outcome len words)).added) s
      (answer_of s xs (report channel unit outcome len words)).state
      (inBook channel s (record { call = report channel unit outcome len words; area = xs }) (book_then later channel))) later
      (demand2_continues (state_in ks) (area_in ks) m w masks started (lent_from start (area_in ks) (calls_in later)) _ channel unit outcome len words)

  pub session2_asked : (later : List (List ℕ)) (file op priority : ℕ) (naming : Naming)
      → let a = answer_of (state_then later) (area_then later) (ask file op priority naming) in
      a.refusal ≡ 0 → Tells a.state (file_at (state_then later) file).channel (told_working a.added)
  session2_asked later file op priority naming =
      so_lent (λ s xs. (answer_of s xs (ask file op priority naming)).refusal ≡ 0
      → Tells (answer_of s xs (ask file op priority naming)).state (file_at s file).channel (told_working (answer_of s xs (ask file op priority naming)).added)) later
      (demand2_asked (state_in ks) (area_in ks) m w masks started (lent_from start (area_in ks) (calls_in later)) _ file op priority naming)

  pub session2_reported : (later : List (List ℕ)) (channel unit outcome len : ℕ) (words : List ℕ)
      → let a = answer_of (state_then later) (area_then later) (report channel unit outcome len words) in
      a.refusal ≡ 0 → Tells a.state channel (told_working a.added)
  session2_reported later channel unit outcome len words =
      so_lent (λ s xs. (answer_of s xs (report channel unit outcome len words)).refusal ≡ 0
      → Tells (answer_of s xs (report channel unit outcome len words)).state channel
      (told_working (answer_of s xs (report channel unit outcome len words)).added)) later
      (demand2_reported (state_in ks) (area_in ks) m w masks started (lent_from start (area_in ks) (calls_in later)) _ channel unit outcome len words)

  pub session2_single : (later : List (List ℕ)) (file op priority : ℕ) (naming : Naming)
      → (answer_of (state_then later) (area_then later) (ask file op priority naming)).refusal ≡ 0
      → (book_then later (file_at (state_then later) file).channel).requests (file_at (state_then later) file).unit ≡ none
  session2_single later file op priority naming =
      so_lent (λ s xs. (answer_of s xs (ask file op priority naming)).refusal ≡ 0
      → (book_then later (file_at s file).channel).requests (file_at s file).unit ≡ none) later
      (demand2_single (state_in ks) (area_in ks) m w masks started (lent_from start (area_in ks) (calls_in later)) _ file op priority naming)

  pub session2_holding : (later : List (List ℕ)) (file op priority : ℕ) (naming : Naming)
      → (answer_of (state_then later) (area_then later) (ask file op priority naming)).refusal ≡ 8
      → (is_pending ((book_then later (file_at (state_then later) file).channel).requests (file_at (state_then later) file).unit) ≡ true)
      ⊎ (is_due ((roster_then later).waits (file_at (state_then later) file).channel (file_at (state_then later) file).unit) ≡ true)
  session2_holding later file op priority naming =
      so_lent (λ s xs. (answer_of s xs (ask file op priority naming)).refusal ≡ 8
      → (is_pending ((book_then later (file_at s file).channel).requests (file_at s file).unit) ≡ true)
      ⊎ (is_due ((roster_then later).waits (file_at s file).channel (file_at s file).unit) ≡ true)) later
      (demand2_holding (state_in ks) (area_in ks) m w masks started (lent_from start (area_in ks) (calls_in later)) _ file op priority naming)

  pub session2_waiting : (later : List (List ℕ)) (file op priority : ℕ) (naming : Naming)
      → (answer_of (state_then later) (area_then later) (ask file op priority naming)).refusal ≡ 0
      → is_due ((roster_then later).waits (file_at (state_then later) file).channel (file_at (state_then later) file).unit) ≡ false
  session2_waiting later file op priority naming =
      so_lent (λ s xs. (answer_of s xs (ask file op priority naming)).refusal ≡ 0
      → is_due ((roster_then later).waits (file_at s file).channel (file_at s file).unit) ≡ false) later
      (demand2_waiting (state_in ks) (area_in ks) m w masks started (lent_from start (area_in ks) (calls_in later)) _ file op priority naming)

  pub session2_marks : (later : List (List ℕ)) (file op priority : ℕ) (naming : Naming)
      → Marks (state_then later) (area_then later) file op priority naming (open_then later file)
  session2_marks later file op priority naming =
      so_lent (λ s xs. Marks s xs file op priority naming (open_then later file)) later
      (demand2_marks (state_in ks) (area_in ks) m w masks started (lent_from start (area_in ks) (calls_in later)) _ file op priority naming)

  -- "blocks we write carry the one right check word;"
  pub session2_writes : (later : List (List ℕ)) (i : ℕ) → (file_at (state_then later) i).opened ≡ true → (file_at (state_then later) i).output ≡ true
      → Writes (state_then later).w (file_at (state_then later) i) (area_then later) (account_then later i)
  session2_writes later i =
      so (λ s xs. (file_at s i).opened ≡ true → (file_at s i).output ≡ true → Writes s.w (file_at s i) xs (account_then later i)) later
      (demand2_writes (state_in ks) (area_in ks) m w masks started (calls_in later) i)

  -- when an output file is closed, all that was put was handed out
  pub session2_closed : (later : List (List ℕ)) (i : ℕ) → (file_at (state_then later) i).opened ≡ true → (file_at (state_then later) i).output ≡ true
      → (answer_of (state_then later) (area_then later) (close i)).refusal ≡ 0
      → joined (data_in (file_at (state_then later) i) (account_then later i).sent) ≡ (account_then later i).puts
  session2_closed later i =
      so (λ s xs. (file_at s i).opened ≡ true → (file_at s i).output ≡ true → (answer_of s xs (close i)).refusal ≡ 0
      → joined (data_in (file_at s i) (account_then later i).sent) ≡ (account_then later i).puts) later
      (demand2_closed (state_in ks) (area_in ks) m w masks started (calls_in later) i)

  -- "blocks we read are judged by it as delivered."
  pub session2_reads : (later : List (List ℕ)) (i : ℕ) → (file_at (state_then later) i).opened ≡ true → (file_at (state_then later) i).output ≡ false
      → Reads (state_then later).w (file_at (state_then later) i) (area_then later) (account_then later i)
  session2_reads later i =
      so (λ s xs. (file_at s i).opened ≡ true → (file_at s i).output ≡ false → Reads s.w (file_at s i) xs (account_then later i)) later
      (demand2_reads (state_in ks) (area_in ks) m w masks started (calls_in later) i)

  pub session2_judged : (later : List (List ℕ)) (i channel unit outcome len : ℕ) (words : List ℕ) → serves channel unit (file_at (state_then later) i) ≡ true
      → words ≢ [] → is_repeat (told_result (answer_of (state_then later) (area_then later) (report channel unit outcome len words)).added) ≡ false
      → (answer_of (state_then later) (area_then later) (report channel unit outcome len words)).refusal ≡ 0
      → told_delivery (answer_of (state_then later) (area_then later) (report channel unit outcome len words)).added
      ≡ Some (judged_block words (file_at (state_then later) i).sequence (file_at (state_then later) i).check ((1 + length (account_then later i).came) % block_numbers)).found
  session2_judged later i channel unit outcome len words =
      so (λ s xs. serves channel unit (file_at s i) ≡ true → words ≢ [] → is_repeat (told_result (answer_of s xs (report channel unit outcome len words)).added) ≡ false
      → (answer_of s xs (report channel unit outcome len words)).refusal ≡ 0
      → told_delivery (answer_of s xs (report channel unit outcome len words)).added
      ≡ Some (judged_block words (file_at s i).sequence (file_at s i).check ((1 + length (account_then later i).came) % block_numbers)).found) later
      (demand2_judged (state_in ks) (area_in ks) m w masks started (calls_in later) i channel unit outcome len words)

  pub session2_found : (later : List (List ℕ)) (i channel unit outcome len : ℕ) (words : List ℕ) → serves channel unit (file_at (state_then later) i) ≡ true
      → words ≢ [] → is_repeat (told_result (answer_of (state_then later) (area_then later) (report channel unit outcome len words)).added) ≡ false
      → (answer_of (state_then later) (area_then later) (report channel unit outcome len words)).refusal ≡ 0
      → Finds (file_at (state_then later) i).sequence (file_at (state_then later) i).check (length (account_then later i).came) words
      (told_by (told_delivery (answer_of (state_then later) (area_then later) (report channel unit outcome len words)).added))
  session2_found later i channel unit outcome len words =
      so (λ s xs. serves channel unit (file_at s i) ≡ true → words ≢ [] → is_repeat (told_result (answer_of s xs (report channel unit outcome len words)).added) ≡ false
      → (answer_of s xs (report channel unit outcome len words)).refusal ≡ 0
      → Finds (file_at s i).sequence (file_at s i).check (length (account_then later i).came) words
      (told_by (told_delivery (answer_of s xs (report channel unit outcome len words)).added))) later
      (demand2_found (state_in ks) (area_in ks) m w masks started (calls_in later) i channel unit outcome len words)

  -- records and blocks follow document 01: what an accepted get answers, what a skip drops, how the words put are divided, and which block a
  -- report hands out
  pub session2_got : (later : List (List ℕ)) (i : ℕ)
      → let a = answer_of (state_then later) (area_then later) (get i) in
      a.refusal ≡ 0 → Gives (account_then later i).chosen.rlen (account_then later i).marked (account_then later i).owed a.added a.shows
  session2_got later i =
      so (λ s xs. (answer_of s xs (get i)).refusal ≡ 0
      → Gives (account_then later i).chosen.rlen (account_then later i).marked (account_then later i).owed (answer_of s xs (get i)).added
      (answer_of s xs (get i)).shows) later
      (demand2_got (state_in ks) (area_in ks) m w masks started (calls_in later) i)

  pub session2_skipped : (later : List (List ℕ)) (i : ℕ)
      → let a = answer_of (state_then later) (area_then later) (skip i) in
      a.refusal ≡ 0
      → Drops (account_then later i) (noted i (skip i) a (account_then later i)) (unread_of a.state.w (file_at a.state i) a.area)
  session2_skipped later i =
      so (λ s xs. (answer_of s xs (skip i)).refusal ≡ 0
      → Drops (account_then later i) (noted i (skip i) (answer_of s xs (skip i)) (account_then later i))
      (unread_of (answer_of s xs (skip i)).state.w (file_at (answer_of s xs (skip i)).state i) (answer_of s xs (skip i)).area)) later
      (demand2_skipped (state_in ks) (area_in ks) m w masks started (calls_in later) i)

  pub session2_cut : (later : List (List ℕ)) (i : ℕ) → (file_at (state_then later) i).opened ≡ true → (file_at (state_then later) i).output ≡ true
      → Cuts (account_then later i) (blocks_in (state_then later).w (file_at (state_then later) i) (area_then later))
  session2_cut later i =
      so (λ s xs. (file_at s i).opened ≡ true → (file_at s i).output ≡ true → Cuts (account_then later i) (blocks_in s.w (file_at s i) xs)) later
      (demand2_cut (state_in ks) (area_in ks) m w masks started (calls_in later) i)

  pub session2_sent : (later : List (List ℕ)) (channel unit outcome len : ℕ) (words : List ℕ)
      → let a = answer_of (state_then later) (area_then later) (report channel unit outcome len words) in
      a.refusal ≡ 0 → (i : ℕ) → is_on channel unit (account_then later i) ≡ true
      → HandsOut (account_then later i) (noted i (report channel unit outcome len words) a (account_then later i)) a
  session2_sent later channel unit outcome len words =
      so (λ s xs. (answer_of s xs (report channel unit outcome len words)).refusal ≡ 0 → (i : ℕ) → is_on channel unit (account_then later i) ≡ true
      → HandsOut (account_then later i) (noted i (report channel unit outcome len words) (answer_of s xs (report channel unit outcome len words)) (account_then later i))
      (answer_of s xs (report channel unit outcome len words))) later
      (demand2_sent (state_in ks) (area_in ks) m w masks started (calls_in later) channel unit outcome len words)

  -- Demand 3, of an ordinary request that is accepted after the lines `before`, and of any lines `later` after it, no fresh start among them
  pub session3 : (before : List (List ℕ)) → count fresh_start start (lent_from start (area_in ks) (calls_in before)) ≡ 0
      → (file op priority : ℕ) (naming : Naming) → is_priority priority ≡ false
      → (answer_of (state_then before) (area_then before) (ask file op priority naming)).refusal ≡ 0
      → (later : List (List ℕ))
      → let d = answer_of (state_then before) (area_then before) (ask file op priority naming) in
      count fresh_start d.state (lent_from d.state d.area (calls_in later)) ≡ 0
      → Answers (declared_on start (file_at (state_then before) file).channel) (file_at (state_then before) file).channel
      (file_at (state_then before) file).unit (book_then before (file_at (state_then before) file).channel)
      d.state (lent_from d.state d.area (calls_in later))
  session3 before first file op priority naming ordinary accepted later =
      so_lent (λ s xs. (answer_of s xs (ask file op priority naming)).refusal ≡ 0
      → count fresh_start (answer_of s xs (ask file op priority naming)).state
      (lent_from (answer_of s xs (ask file op priority naming)).state (answer_of s xs (ask file op priority naming)).area (calls_in later)) ≡ 0
      → Answers (declared_on start (file_at s file).channel) (file_at s file).channel (file_at s file).unit
      (book_then before (file_at s file).channel) (answer_of s xs (ask file op priority naming)).state
      (lent_from (answer_of s xs (ask file op priority naming)).state (answer_of s xs (ask file op priority naming)).area (calls_in later))) before
      (λ z. demand3 (state_in ks) (area_in ks) m w masks started (lent_from start (area_in ks) (calls_in before)) first file op priority naming _ ordinary z _)
      accepted

  -- M-112, of a priority request
  pub session3_urgent : (before : List (List ℕ)) → count fresh_start start (lent_from start (area_in ks) (calls_in before)) ≡ 0
      → (file op priority : ℕ) (naming : Naming) → is_priority priority ≡ true
      → (answer_of (state_then before) (area_then before) (ask file op priority naming)).refusal ≡ 0
      → (later : List (List ℕ))
      → let d = answer_of (state_then before) (area_then before) (ask file op priority naming) in
      count fresh_start d.state (lent_from d.state d.area (calls_in later)) ≡ 0
      → AnswersUrgent (declared_on start (file_at (state_then before) file).channel) (file_at (state_then before) file).channel
      (file_at (state_then before) file).unit d.state (lent_from d.state d.area (calls_in later))
  session3_urgent before first file op priority naming urgent accepted later =
      so_lent (λ s xs. (answer_of s xs (ask file op priority naming)).refusal ≡ 0
      → count fresh_start (answer_of s xs (ask file op priority naming)).state
      (lent_from (answer_of s xs (ask file op priority naming)).state (answer_of s xs (ask file op priority naming)).area (calls_in later)) ≡ 0
      → AnswersUrgent (declared_on start (file_at s file).channel) (file_at s file).channel (file_at s file).unit
      (answer_of s xs (ask file op priority naming)).state
      (lent_from (answer_of s xs (ask file op priority naming)).state (answer_of s xs (ask file op priority naming)).area (calls_in later))) before
      (λ z. demand3_urgent (state_in ks) (area_in ks) m w masks started (lent_from start (area_in ks) (calls_in before)) first file op priority naming _ urgent z _)
      accepted

  -- and of an ask or a report on one channel and one on another
  pub session3_order : (later : List (List ℕ)) (x y : Call) → Requests x → Requests y → ((c : ℕ) → On (state_then later) c x → On (state_then later) c y → ⊥)
      → (AnswersNaming (state_then later) (area_then later) x → AnswersNaming (state_then later) (area_then later) y → ⊥) → EitherOrder (state_then later) (area_then later) x y
  session3_order later x y =
      so_lent (λ s xs. Requests x → Requests y → ((c : ℕ) → On s c x → On s c y → ⊥) → (AnswersNaming s xs x → AnswersNaming s xs y → ⊥) → EitherOrder s xs x y) later
      (demand3_order _ _ x y (history_kept start (lent_from start (area_in ks) (calls_in later)) (good_start (state_in ks) (area_in ks) m w masks started)).sixteen)
