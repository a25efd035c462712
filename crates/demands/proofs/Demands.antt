-- The demands, each proved by one citation. Assumes nothing.
use mathlib.Core.Path.{◌≡◌}
use mathlib.Core.Logic.{◌≢◌, ◌⊎◌}
use mathlib.Core.Bool.{Bool, true, false}
use mathlib.Core.Option.{Option, none}
use mathlib.Core.List.{List, []}
use Prim.Native.Nat.{ℕ, ◌+◌, ◌%◌, ◌<◌}
use lib.ListN.{length}
use Rattle.word.specs.CheckWords.{check_word, IsCheckWord, block_numbers}
use Rattle.word.specs.declared.Checked.{Checked}
use Rattle.block.specs.Blocks.{judged_block}
use Rattle.call_request.specs.Report.{told_by}
use Rattle.word.proofs.Laws.CheckWord.{check_word_is, check_word_only}
use Rattle.file.specs.declared.File.{File}
use Rattle.file_input.specs.declared.Got.{Got}
use Rattle.file_input.specs.Gets.{got_number, got_found}
use Rattle.pool.specs.Serving.{serves}
use Rattle.pool.specs.Free.{file_count}
use Rattle.routines.specs.declared.Due as routines
use Rattle.routines.specs.declared.Naming.{Naming}
use Rattle.routines.specs.Ranks.{is_due}
use Rattle.routines_theorems.specs.History.{Reversed}
use Rattle.state.specs.declared.State.{State}
use Rattle.channel.specs.Units.{position_at}
use Rattle.state.specs.Places.{before_start, file_at, channel_at}
use Rattle.state_sound.specs.Soundness.{sound}
use Rattle.pack_start.specs.declared.Masks.{Masks}
use Rattle.call_request.specs.Ask.{is_priority}
use Rattle.pack.specs.Calls.{Call, fresh, opening, close, ask, report, get, skip, return, got, answer_of}
use Rattle.pack.specs.Histories.{Lent, answer_to, after, count, fresh_start, declared_on}
use Rattle.pack.specs.Histories.{is_repeat, is_answer}
use Rattle.pack.specs.Books.{Book, Opened, told_result, blank_book, booked_at, book_after, opened_after}
use Rattle.pack.proofs.Kept.{Good, good_before, start_judged, good_start, history_kept}
use Rattle.demands_ledger.specs.Ledgers.{Item, Choice, Ledger, blank_ledger, told_delivery, is_on, noted, state_after, area_after, ledger_after}
use Rattle.demands_ledger.specs.Blocks.{blocks_in, unread_of, joined}
use Rattle.demands_ledger.proofs.Frames.{Kept}
use Rattle.demands_ledger.proofs.Always.{always, started as begun}
use Rattle.pack.proofs.Seen.{station_at}
use Rattle.pack.proofs.Booking.{Shows, shows_start, shows_after}
use Rattle.pack.proofs.Marking.{known_start, known_after}
use Rattle.demands.specs.Results.{Results, Forbids, Stands}
use Rattle.demands.specs.Marks.{Marks}
use Rattle.demands.specs.Turns.{works_for, is_pending, Turns, Continues, told_working, Tells}
use Rattle.demands_ledger.proofs.Asks.{Asked, always_asked, started_asked}
use Rattle.demands.specs.Demands.{Refuses, Holds, Frees, Takes, Books, data_in, Writes, Reads, Answers, AnswersUrgent}
use Rattle.demands.specs.Records.{Finds, Gives, Drops}
use Rattle.demands.specs.Written.{Cuts, Due, HandsOut}
use Rattle.demands.proofs.Refusals.{refuses}
use Rattle.demands.proofs.Buffers.{good_holds, closed_frees, opened_takes, reported_books}
use Rattle.demands.proofs.Finding.{finds_one}
use Rattle.demands.proofs.Blocks.{ledger_writes, ledger_closed, ledger_reads, ledger_judged, ledger_found}
use Rattle.demands.proofs.Results.{reported_results, refused_forbids, reel_stands}
use Rattle.demands.proofs.Marks.{asked_marks}
use Rattle.demands.proofs.Turns.{call_turns, report_continues, ask_tells, report_tells, ask_single, report_idle}
use Rattle.demands.specs.Routines.{Roster, blank_roster, rostered_at, roster_after, Schedules, Returns, GivesBack, turns_after, count_due, Once}
use Rattle.demands.proofs.Rosters.{Noted, noted_start, noted_before, noted_after}
use Rattle.demands.proofs.Scheduling.{ask_held, ask_free, at_schedules, at_back, call_returns}
use Rattle.demands.proofs.Entering.{reversed, entered_once}
use Rattle.demands.specs.Orders.{Requests, On, AnswersNaming, EitherOrder}
use Rattle.demands.proofs.Orders.{either_order}
use Rattle.demands.proofs.Answering.{answered, urgent_answered}
use Rattle.demands.proofs.Records.{gives_one, ledger_got, ledger_skipped}
use Rattle.demands.proofs.Written.{due_one, ledger_cuts, ledger_sent}
use Rattle.std.specs.declared.option.Option.TheVariants.{Some}

-- "Any call, with any numbers, words and lengths, gets an answer. A refusal carries one number of document 01's table, is given exactly
-- when the table says, and changes nothing. No caller need check first.": of every state value, every area and every call
pub demand1 : (s : State) (area : List ℕ) (call : Call) → Refuses s area call
demand1 s area call = refuses s area call

-- "the one right check word": the word that is checked against document 01's sentence is that of `checked`, and no other
pub demand2_one : (sequence check : Bool) (sum number w : ℕ) → IsCheckWord sequence check sum number w → w ≡ check_word sequence check sum number
demand2_one = check_word_only

pub demand2_right : (sequence check : Bool) (sum number : ℕ) → IsCheckWord sequence check sum number (check_word sequence check sum number)
demand2_right = check_word_is

-- a get has one right answer, and one block alone is due: what `Gives` and `Due` say leaves no choice
pub demand2_one_answer : (r : ℕ) → 0 < r → (marked : Bool) (owed : List (List Item)) (x y : Got) (ws vs : List ℕ)
    → Gives r marked owed (got x) ws → Gives r marked owed (got y) vs → (got_number x ≡ got_number y) × (got_found x ≡ got_found y) × (ws ≡ vs)
demand2_one_answer = gives_one

pub demand2_one_due : (c : Choice) (puts seals : List ℕ) (sent : List (List ℕ)) (a b : List ℕ)
    → Due c puts seals sent a → Due c puts seals sent b → a ≡ b
demand2_one_due = due_one

-- and what is told of a delivered block: `Finds` leaves no choice of it
pub demand2_one_found : (sequence check : Bool) (before : ℕ) (words : List ℕ) (x y : Checked)
    → Finds sequence check before words x → Finds sequence check before words y → x ≡ y
demand2_one_found = finds_one

-- "Each buffer is free, or held by exactly one open file": from before the first fresh start too, after any calls
pub demand2_before : (calls : List Lent) → Holds (after before_start calls)
demand2_before calls = good_holds (after before_start calls) (history_kept before_start calls good_before)

-- special routines, from before the first fresh start too: what runs after any calls and one call more, and what that call enters
pub demand2_routines_before : (calls : List Lent) (x : Lent) → (answer_to (after before_start calls) x).refusal ≡ 0
    → Schedules (after before_start calls) x.call (answer_to (after before_start calls) x) (roster_after before_start blank_roster calls)
    (rostered_at (after before_start calls) x (roster_after before_start blank_roster calls))
demand2_routines_before calls x =
    at_schedules (after before_start calls) x.area (history_kept before_start calls good_before) _ (noted_after before_start blank_roster calls good_before noted_before) x.call

pub demand2_returns_before : (calls : List Lent) (area : List ℕ) → Returns (after before_start calls) area
demand2_returns_before calls area =
    call_returns (after before_start calls) area (history_kept before_start calls good_before) _ (noted_after before_start blank_roster calls good_before noted_before)

pub demand2_returned_before : (calls : List Lent) (area : List ℕ) → (answer_of (after before_start calls) area return).refusal ≡ 0
    → GivesBack (answer_of (after before_start calls) area return) (roster_after before_start blank_roster calls)
    (rostered_at (after before_start calls) (record { call = return; area = area }) (roster_after before_start blank_roster calls))
demand2_returned_before calls area =
    at_back (after before_start calls) area (history_kept before_start calls good_before) _ (noted_after before_start blank_roster calls good_before noted_before)

pub demand2_once_before : (calls : List Lent) (c u outcome len : ℕ) (words area : List ℕ) (d : routines.Due) → is_due d ≡ true → (roster_after before_start blank_roster calls).names c u ≡ d
    → (answer_of (after before_start calls) area (report c u outcome len words)).refusal ≡ 0
    → is_answer (answer_of (after before_start calls) area (report c u outcome len words)).added ≡ true
    → (later : List Lent) → count fresh_start (answer_of (after before_start calls) area (report c u outcome len words)).state later ≡ 0
    → count_due c u (answer_of (after before_start calls) area (report c u outcome len words)).state
    (rostered_at (after before_start calls) (record { call = report c u outcome len words; area = area }) (roster_after before_start blank_roster calls)) later ≡ 0
    → Once c u d (after before_start calls) (roster_after before_start blank_roster calls) (record { call = report c u outcome len words; area = area }) later
demand2_once_before calls c u outcome len words area d =
    entered_once (after before_start calls) _ (history_kept before_start calls good_before) (noted_after before_start blank_roster calls good_before noted_before) c u outcome len words area d

pub demand2_reversed_before : (calls : List Lent) → Reversed [] (turns_after before_start calls) (roster_after before_start blank_roster calls).list
demand2_reversed_before calls = reversed before_start blank_roster calls good_before noted_before

-- "a state passed back is unsound": a fresh start is refused such a state as every call is
pub demand1_start : (s : State) (area : List ℕ) (m w : ℕ) (masks : Masks) → (answer_of s area (fresh m w masks)).refusal ≡ 0 → sound s ≡ true
demand1_start = start_judged

-- M-112: "an ask or a report on one channel and one on another give the same answers and the same state, area and all, in either order,
-- refused ones too. Opens, closes and requests that name a special routine are no part of this.": of every state of sixteen files, sound or not, and every
-- area; not both may answer requests that name a routine
pub demand3_order : (s : State) (area : List ℕ) (x y : Call) → length s.files ≡ file_count → Requests x → Requests y
    → ((c : ℕ) → On s c x → On s c y → ⊥) → (AnswersNaming s area x → AnswersNaming s area y → ⊥) → EitherOrder s area x y
demand3_order = either_order

-- From here on: a fresh start that is accepted; then any calls, each given the state that the last one left.
module _ (s₀ : State) (area₀ : List ℕ) (m w : ℕ) (masks : Masks) (started : (answer_of s₀ area₀ (fresh m w masks)).refusal ≡ 0) where
  -- the state that the fresh start leaves
  abbrev pub start : State
  start = (answer_of s₀ area₀ (fresh m w masks)).state

  good : (calls : List Lent) → Good (after start calls)
  good calls = history_kept start calls (good_start s₀ area₀ m w masks started)

  -- "Each buffer is free, or held by exactly one open file,"
  pub demand2_held : (calls : List Lent) → Holds (after start calls)
  demand2_held calls = good_holds (after start calls) (good calls)

  -- "and a freed one is used again."
  pub demand2_freed : (calls : List Lent) (area : List ℕ) (file : ℕ) → (answer_of (after start calls) area (close file)).refusal ≡ 0
      → Frees (after start calls) file (answer_of (after start calls) area (close file)).state
  demand2_freed calls area file = closed_frees (after start calls) area file

  pub demand2_taken : (calls : List Lent) (area : List ℕ) (file channel unit flags size rlen : ℕ)
      → (answer_of (after start calls) area (opening file channel unit flags size rlen)).refusal ≡ 0
      → Takes (after start calls) file (answer_of (after start calls) area (opening file channel unit flags size rlen)).state
  demand2_taken calls area file channel unit flags size rlen =
      opened_takes (after start calls) area file channel unit flags size rlen (good calls)

  -- a completion is booked to the one file of its unit
  pub demand2_booked : (calls : List Lent) (area : List ℕ) (channel unit outcome len : ℕ) (words : List ℕ)
      → (answer_of (after start calls) area (report channel unit outcome len words)).refusal ≡ 0
      → Books (after start calls) channel unit (answer_of (after start calls) area (report channel unit outcome len words)).state
  demand2_booked calls area channel unit outcome len words =
      reported_books (after start calls) area channel unit outcome len words (good calls)

  -- "Scheduling, retry limits .. follow the manual and document 01." The book of a channel, and what is known of a file, after any calls:
  abbrev pub book_then : List Lent → ℕ → Book
  book_then calls c = book_after c start blank_book calls

  abbrev pub open_then : List Lent → ℕ → Option Opened
  open_then calls i = opened_after i start none calls

  shows : (calls : List Lent) (c : ℕ) → Shows (station_at c (after start calls)) (book_then calls c)
  shows calls c = shows_after c start blank_book calls (good_start s₀ area₀ m w masks started) (shows_start c s₀ area₀ m w masks started)

  -- "Special routines by priority" (M-110). The roster after any calls, and with one call more:
  abbrev pub roster_then : List Lent → Roster
  roster_then calls = roster_after start blank_roster calls

  abbrev pub roster_with : List Lent → Lent → Roster
  roster_with calls x = rostered_at (after start calls) x (roster_then calls)

  listed : (calls : List Lent) → Noted (after start calls) (roster_then calls)
  listed calls = noted_after start blank_roster calls (good_start s₀ area₀ m w masks started) (noted_start s₀ area₀ m w masks started)

  -- what runs after a call x that is accepted, and what it enters
  pub demand2_routines : (calls : List Lent) (x : Lent) → (answer_to (after start calls) x).refusal ≡ 0
      → Schedules (after start calls) x.call (answer_to (after start calls) x) (roster_then calls) (roster_with calls x)
  demand2_routines calls x = at_schedules (after start calls) x.area (good calls) (roster_then calls) (listed calls) x.call

  -- "Returns are the operator's, refused 18 with none running."
  pub demand2_returns : (calls : List Lent) (area : List ℕ) → Returns (after start calls) area
  demand2_returns calls area = call_returns (after start calls) area (good calls) (roster_then calls) (listed calls)

  -- "On a return, the highest waiting routine is entered if it is above the program last pushed, otherwise that program resumes."
  pub demand2_returned : (calls : List Lent) (area : List ℕ) → (answer_of (after start calls) area return).refusal ≡ 0
      → GivesBack (answer_of (after start calls) area return) (roster_then calls) (roster_with calls (record { call = return; area = area }))
  demand2_returned calls area = at_back (after start calls) area (good calls) (roster_then calls) (listed calls)

  -- programs resume in the reverse order of their interruption: those that have not resumed are the list
  pub demand2_reversed : (calls : List Lent) → Reversed [] (turns_after start calls) (roster_then calls).list
  demand2_reversed calls = reversed start blank_roster calls (good_start s₀ area₀ m w masks started) (noted_start s₀ area₀ m w masks started)

  -- "A due routine is entered once.": of a report that answers a request which names the routine d, after any calls, and any calls after it
  pub demand2_once : (calls : List Lent) (c u outcome len : ℕ) (words area : List ℕ) (d : routines.Due) → is_due d ≡ true → (roster_then calls).names c u ≡ d
      → (answer_of (after start calls) area (report c u outcome len words)).refusal ≡ 0
      → is_answer (answer_of (after start calls) area (report c u outcome len words)).added ≡ true
      → (later : List Lent) → count fresh_start (answer_of (after start calls) area (report c u outcome len words)).state later ≡ 0
      → count_due c u (answer_of (after start calls) area (report c u outcome len words)).state (roster_with calls (record { call = report c u outcome len words; area = area })) later ≡ 0
      → Once c u d (after start calls) (roster_then calls) (record { call = report c u outcome len words; area = area }) later
  demand2_once calls c u outcome len words area d = entered_once (after start calls) (roster_then calls) (good calls) (listed calls) c u outcome len words area d

  -- the result of an accepted report is the table's
  pub demand2_results : (calls : List Lent) (area : List ℕ) (channel unit outcome len : ℕ) (words : List ℕ)
      → (answer_of (after start calls) area (report channel unit outcome len words)).refusal ≡ 0
      → Results (book_then calls channel) unit outcome len (told_result (answer_of (after start calls) area (report channel unit outcome len words)).added)
  demand2_results calls area channel unit outcome len words =
      reported_results (after start calls) area channel unit outcome len words (good calls) (book_then calls channel) (shows calls channel)

  -- M-106: where the reel of a unit stands is decided by the calls alone
  pub demand2_stands : (calls : List Lent) (c u : ℕ) → Stands (position_at (channel_at (after start calls) c) u) ((book_then calls c).reels u)
  demand2_stands calls c u = reel_stands ((book_then calls c).reels u) ((shows calls c).stands u)

  -- and a report is refused 12 only if the table has no result for its outcome
  pub demand2_forbidden : (calls : List Lent) (area : List ℕ) (channel unit outcome len : ℕ) (words : List ℕ)
      → (answer_of (after start calls) area (report channel unit outcome len words)).refusal ≡ 12 → Forbids (book_then calls channel) unit outcome
  demand2_forbidden calls area channel unit outcome len words =
      refused_forbids (after start calls) area channel unit outcome len words (book_then calls channel) (shows calls channel)

  -- a report is refused 11 only if the channel is not working for that unit
  pub demand2_idle : (calls : List Lent) (area : List ℕ) (channel unit outcome len : ℕ) (words : List ℕ)
      → (answer_of (after start calls) area (report channel unit outcome len words)).refusal ≡ 11 → works_for (after start calls) channel unit ≡ false
  demand2_idle calls area channel unit outcome len words = report_idle (after start calls) area channel unit outcome len words

  -- who works on channel c after a call x that is accepted: the book has the call in it
  abbrev pub book_with : List Lent → Lent → ℕ → Book
  book_with calls x c = booked_at c (after start calls) x (book_then calls c)

  pub demand2_turns : (calls : List Lent) (x : Lent) (c : ℕ) → (answer_to (after start calls) x).refusal ≡ 0
      → Turns c (after start calls) x.call (answer_to (after start calls) x).state (book_with calls x c)
  demand2_turns calls x c = call_turns c (after start calls) x.area (good calls) (book_then calls c) (shows calls c) x.call

  -- after a report on that channel: "a waiting priority request starts, displacing an incomplete ordinary one; else the incomplete operation
  -- continues; else a scan starts a waiting or displaced one."
  pub demand2_continues : (calls : List Lent) (area : List ℕ) (channel unit outcome len : ℕ) (words : List ℕ)
      → (answer_of (after start calls) area (report channel unit outcome len words)).refusal ≡ 0
      → Continues channel unit (told_result (answer_of (after start calls) area (report channel unit outcome len words)).added) (after start calls)
      (answer_of (after start calls) area (report channel unit outcome len words)).state
      (book_with calls (record { call = report channel unit outcome len words; area = area }) channel)
  demand2_continues calls area channel unit outcome len words =
      report_continues (after start calls) area (good calls) channel unit outcome len words (book_then calls channel) (shows calls channel)

  -- "A unit holds one unanswered request at most; requests are not stacked.": where an ask is accepted, its unit has none
  pub demand2_single : (calls : List Lent) (area : List ℕ) (file op priority : ℕ) (naming : Naming) → (answer_of (after start calls) area (ask file op priority naming)).refusal ≡ 0
      → (book_then calls (file_at (after start calls) file).channel).requests (file_at (after start calls) file).unit ≡ none
  demand2_single calls area file op priority naming =
      ask_single (after start calls) area file op priority naming (book_then calls (file_at (after start calls) file).channel)
      (shows calls (file_at (after start calls) file).channel)

  -- and it is refused 8 only if its unit has one, or its routine waits: "A unit whose routine waits refuses a new ask with 8." (M-110)
  pub demand2_holding : (calls : List Lent) (area : List ℕ) (file op priority : ℕ) (naming : Naming) → (answer_of (after start calls) area (ask file op priority naming)).refusal ≡ 8
      → (is_pending ((book_then calls (file_at (after start calls) file).channel).requests (file_at (after start calls) file).unit) ≡ true)
      ⊎ (is_due ((roster_then calls).waits (file_at (after start calls) file).channel (file_at (after start calls) file).unit) ≡ true)
  demand2_holding calls area file op priority naming =
      ask_held (after start calls) area (good calls) (roster_then calls) (listed calls) file op priority naming (book_then calls (file_at (after start calls) file).channel)
      (shows calls (file_at (after start calls) file).channel)

  -- where an ask is accepted no routine waits at its unit
  pub demand2_waiting : (calls : List Lent) (area : List ℕ) (file op priority : ℕ) (naming : Naming) → (answer_of (after start calls) area (ask file op priority naming)).refusal ≡ 0
      → is_due ((roster_then calls).waits (file_at (after start calls) file).channel (file_at (after start calls) file).unit) ≡ false
  demand2_waiting calls area file op priority naming = ask_free (after start calls) area (good calls) (roster_then calls) (listed calls) file op priority naming

  -- and the answers tell who works: "ask adds the channel's working unit, FF for none. Report adds .. working unit"
  pub demand2_asked : (calls : List Lent) (area : List ℕ) (file op priority : ℕ) (naming : Naming) → (answer_of (after start calls) area (ask file op priority naming)).refusal ≡ 0
      → Tells (answer_of (after start calls) area (ask file op priority naming)).state (file_at (after start calls) file).channel
      (told_working (answer_of (after start calls) area (ask file op priority naming)).added)
  demand2_asked calls area file op priority naming =
      ask_tells (after start calls) area (good calls) file op priority naming (book_then calls (file_at (after start calls) file).channel)
      (shows calls (file_at (after start calls) file).channel)

  pub demand2_reported : (calls : List Lent) (area : List ℕ) (channel unit outcome len : ℕ) (words : List ℕ)
      → (answer_of (after start calls) area (report channel unit outcome len words)).refusal ≡ 0
      → Tells (answer_of (after start calls) area (report channel unit outcome len words)).state channel
      (told_working (answer_of (after start calls) area (report channel unit outcome len words)).added)
  demand2_reported calls area channel unit outcome len words =
      report_tells (after start calls) area (good calls) channel unit outcome len words (book_then calls channel) (shows calls channel)

  -- an ask read is refused 10 exactly if a file mark has been read since the open, and no lower number is given
  pub demand2_marks : (calls : List Lent) (area : List ℕ) (file op priority : ℕ) (naming : Naming)
      → Marks (after start calls) area file op priority naming (open_then calls file)
  demand2_marks calls area file op priority naming =
      asked_marks (after start calls) area file op priority naming (open_then calls file)
      (known_after file start none calls (good_start s₀ area₀ m w masks started) (known_start file s₀ area₀ m w masks started))

  -- "While only the pack writes the lent area": each call is given the area too that the last one left. The ledger of file i:
  abbrev pub account : List Call → ℕ → Ledger
  account calls i = ledger_after i start area₀ blank_ledger calls

  abbrev pub file_then : List Call → ℕ → File
  file_then calls i = file_at (state_after start area₀ calls) i

  kept : (calls : List Call) → Kept (state_after start area₀ calls) (area_after start area₀ calls) (account calls)
  kept = always start area₀ (λ i. blank_ledger) (begun s₀ area₀ m w masks started)

  asks : (calls : List Call) → Asked (state_after start area₀ calls) (account calls)
  asks = always_asked start area₀ (λ i. blank_ledger) (begun s₀ area₀ m w masks started) (started_asked s₀ area₀ m w masks started)

  -- "blocks we write carry the one right check word;"
  pub demand2_writes : (calls : List Call) (i : ℕ) → (file_then calls i).opened ≡ true → (file_then calls i).output ≡ true
      → Writes (state_after start area₀ calls).w (file_then calls i) (area_after start area₀ calls) (account calls i)
  demand2_writes calls i = ledger_writes (state_after start area₀ calls) (area_after start area₀ calls) (account calls) (kept calls) i

  -- when an output file is closed, all that was put was handed out
  pub demand2_closed : (calls : List Call) (i : ℕ) → (file_then calls i).opened ≡ true → (file_then calls i).output ≡ true
      → (answer_of (state_after start area₀ calls) (area_after start area₀ calls) (close i)).refusal ≡ 0
      → joined (data_in (file_then calls i) (account calls i).sent) ≡ (account calls i).puts
  demand2_closed calls i = ledger_closed (state_after start area₀ calls) (area_after start area₀ calls) (account calls) (kept calls) i

  -- "blocks we read are judged by it as delivered."
  pub demand2_reads : (calls : List Call) (i : ℕ) → (file_then calls i).opened ≡ true → (file_then calls i).output ≡ false
      → Reads (state_after start area₀ calls).w (file_then calls i) (area_after start area₀ calls) (account calls i)
  demand2_reads calls i = ledger_reads (state_after start area₀ calls) (area_after start area₀ calls) (account calls) (kept calls) i

  -- the report of a delivered block, for the file i on its unit, answers that judgement and all that was found, with the number after those of the blocks
  -- before it; words are a delivered block if the report answers its request, by a permanent error too (document 02, M-101)
  pub demand2_judged : (calls : List Call) (i channel unit outcome len : ℕ) (words : List ℕ) → serves channel unit (file_then calls i) ≡ true → words ≢ []
      → is_repeat (told_result (answer_of (state_after start area₀ calls) (area_after start area₀ calls) (report channel unit outcome len words)).added) ≡ false
      → (answer_of (state_after start area₀ calls) (area_after start area₀ calls) (report channel unit outcome len words)).refusal ≡ 0
      → told_delivery (answer_of (state_after start area₀ calls) (area_after start area₀ calls) (report channel unit outcome len words)).added
      ≡ Some (judged_block words (file_then calls i).sequence (file_then calls i).check ((1 + length (account calls i).came) % block_numbers)).found
  demand2_judged calls = ledger_judged (state_after start area₀ calls) (area_after start area₀ calls) (account calls) (kept calls)

  -- and that answer, said of the delivered words alone: the sum, the number, the fields read and the error
  pub demand2_found : (calls : List Call) (i channel unit outcome len : ℕ) (words : List ℕ) → serves channel unit (file_then calls i) ≡ true → words ≢ []
      → is_repeat (told_result (answer_of (state_after start area₀ calls) (area_after start area₀ calls) (report channel unit outcome len words)).added) ≡ false
      → (answer_of (state_after start area₀ calls) (area_after start area₀ calls) (report channel unit outcome len words)).refusal ≡ 0
      → Finds (file_then calls i).sequence (file_then calls i).check (length (account calls i).came) words
      (told_by (told_delivery (answer_of (state_after start area₀ calls) (area_after start area₀ calls) (report channel unit outcome len words)).added))
  demand2_found calls = ledger_found (state_after start area₀ calls) (area_after start area₀ calls) (account calls) (kept calls)

  -- records follow document 01: what an accepted get answers,
  pub demand2_got : (calls : List Call) (i : ℕ) → (answer_of (state_after start area₀ calls) (area_after start area₀ calls) (get i)).refusal ≡ 0
      → Gives (account calls i).chosen.rlen (account calls i).marked (account calls i).owed
      (answer_of (state_after start area₀ calls) (area_after start area₀ calls) (get i)).added
      (answer_of (state_after start area₀ calls) (area_after start area₀ calls) (get i)).shows
  demand2_got calls = ledger_got (state_after start area₀ calls) (area_after start area₀ calls) (account calls) (kept calls)

  -- and what an accepted skip drops
  pub demand2_skipped : (calls : List Call) (i : ℕ) → (answer_of (state_after start area₀ calls) (area_after start area₀ calls) (skip i)).refusal ≡ 0
      → Drops (account calls i)
      (noted i (skip i) (answer_of (state_after start area₀ calls) (area_after start area₀ calls) (skip i)) (account calls i))
      (unread_of (answer_of (state_after start area₀ calls) (area_after start area₀ calls) (skip i)).state.w
      (file_at (answer_of (state_after start area₀ calls) (area_after start area₀ calls) (skip i)).state i)
      (answer_of (state_after start area₀ calls) (area_after start area₀ calls) (skip i)).area)
  demand2_skipped calls = ledger_skipped (state_after start area₀ calls) (area_after start area₀ calls) (account calls) (kept calls)

  -- buffer moves follow document 01: how the words put are divided into blocks,
  pub demand2_cut : (calls : List Call) (i : ℕ) → (file_then calls i).opened ≡ true → (file_then calls i).output ≡ true
      → Cuts (account calls i) (blocks_in (state_after start area₀ calls).w (file_then calls i) (area_after start area₀ calls))
  demand2_cut calls = ledger_cuts (state_after start area₀ calls) (area_after start area₀ calls) (account calls) (kept calls)

  -- and which block an accepted report for the file i on its unit hands out
  pub demand2_sent : (calls : List Call) (channel unit outcome len : ℕ) (words : List ℕ)
      → (answer_of (state_after start area₀ calls) (area_after start area₀ calls) (report channel unit outcome len words)).refusal ≡ 0
      → (i : ℕ) → is_on channel unit (account calls i) ≡ true
      → HandsOut (account calls i)
      (noted i (report channel unit outcome len words)
      (answer_of (state_after start area₀ calls) (area_after start area₀ calls) (report channel unit outcome len words)) (account calls i))
      (answer_of (state_after start area₀ calls) (area_after start area₀ calls) (report channel unit outcome len words))
  demand2_sent calls = ledger_sent (state_after start area₀ calls) (area_after start area₀ calls) (account calls) (kept calls) (asks calls)

  -- "From a fresh start (and no second), each call given the state that the last one left: an accepted ordinary request on a channel of U
  -- declared units is answered at most once; until then its channel is working or frozen; its answer comes by the time 201 x (U + P)
  -- reports have been accepted on that channel since, P counting that channel's priority requests unanswered at its acceptance or
  -- accepted until its answer."
  pub demand3 : (before : List Lent) → count fresh_start start before ≡ 0
      → (file op priority : ℕ) (naming : Naming) (area : List ℕ) → is_priority priority ≡ false → (answer_of (after start before) area (ask file op priority naming)).refusal ≡ 0
      → (later : List Lent) → count fresh_start (answer_of (after start before) area (ask file op priority naming)).state later ≡ 0
      → Answers (declared_on start (file_at (after start before) file).channel) (file_at (after start before) file).channel
      (file_at (after start before) file).unit (book_after (file_at (after start before) file).channel start blank_book before)
      (answer_of (after start before) area (ask file op priority naming)).state later
  demand3 = answered s₀ area₀ m w masks started

  -- M-112: "With that and demand 3's premises, an accepted priority request is answered by the time 201 × U + 1 reports have been accepted on
  -- its channel"; and answered at most once, its channel working or frozen until then
  pub demand3_urgent : (before : List Lent) → count fresh_start start before ≡ 0
      → (file op priority : ℕ) (naming : Naming) (area : List ℕ) → is_priority priority ≡ true → (answer_of (after start before) area (ask file op priority naming)).refusal ≡ 0
      → (later : List Lent) → count fresh_start (answer_of (after start before) area (ask file op priority naming)).state later ≡ 0
      → AnswersUrgent (declared_on start (file_at (after start before) file).channel) (file_at (after start before) file).channel
      (file_at (after start before) file).unit (answer_of (after start before) area (ask file op priority naming)).state later
  demand3_urgent = urgent_answered s₀ area₀ m w masks started
