-- Document 01's marked examples, P1 to P12, as rows of one table: what is shown, and what the paper says. Law `examples` says that every
-- row holds. P7 to P12 are played by the pack's own calls. Assumes nothing.
use Rattle.std.specs.Prelude.{ℕ, zero, suc, ◌+◌, ◌-◌, ◌^◌, true, List, [], ◌∷◌, ◌++◌, map, replicate, Option, Some, None}
use Rattle.word.specs.Sums.{logical_sum, folded}
use Rattle.word.specs.CheckWords.{check_word, next_number}
use Rattle.channel.specs.declared.Turn.{Turn}
use Rattle.channel.specs.declared.Turn.TheVariants.{Idle, Waiting, Displaced, Working}
use Rattle.channel.specs.declared.Channel.{Channel}
use Rattle.channel_outcomes.specs.Rules.{good, redundancy, no_length}
use Rattle.channel.specs.Units.{turn_at}
use Rattle.channel_turns.specs.Scans.{working_in}
use Rattle.routines.specs.Posts.{no_naming}
use Rattle.state.specs.declared.State.{State}
use Rattle.state.specs.Places.{before_start, channel_at}
use Rattle.pack.specs.Calls.{Call, fresh, opening, ask, report, put, Added, nothing, working, reported, Answer, answer_of}
use Rattle.word.specs.declared.Checked.{Checked}

-- ---- what a call shows

-- what is at work on channel 0: attempt a of unit u, or nothing
pub data AtWork : Type 0 where
  nobody : AtWork
  attempt : ℕ → ℕ → AtWork

abbrev pub attempt_of : ℕ → Turn → AtWork
attempt_of u Idle = nobody
attempt_of u (Waiting q) = nobody
attempt_of u (Displaced q) = nobody
attempt_of u (Working q) = attempt q.attempts u

abbrev pub at_work_in : Channel → Option ℕ → AtWork
at_work_in c (Some u) = attempt_of u (turn_at c u)
at_work_in c None = nobody

-- its refusal, what its answer adds, and what is at work after it
pub data Seen : Type 0 where
  seen : ℕ → Added → AtWork → Seen

abbrev pub seen_of : Answer → Seen
seen_of a = seen a.refusal a.added (at_work_in (channel_at a.state 0) (working_in (channel_at a.state 0)))

-- calls in a row, from before the first fresh start on; the area is the pack's alone
unfoldable pub play : State → List ℕ → List Call → List Seen
play s area [] = []
play s area (call ∷ calls) = seen_of (answer_of s area call) ∷ play (answer_of s area call).state (answer_of s area call).area calls

-- a lent area of four words
abbrev pub session : List Call → List Seen
session calls = play before_start (replicate 4 0) calls

-- ---- the calls of the examples

-- m buffers of one word; units 0, 1 and 2 of channel 0 are declared
abbrev pub starts : ℕ → Call
starts m = fresh m 1 (record { a = 7; b = 0; c = 0; d = 0; e = 0 })

-- the file of a number is opened on the unit of the same number of channel 0, with B = r = 1; flag 1 output, 2 double
abbrev pub opens : ℕ → ℕ → Call
opens file flags = opening file 0 file flags 1 1

-- an ordinary and a priority read of a file
abbrev pub asks : ℕ → Call
asks file = ask file 0 0 no_naming

abbrev pub asks_first : ℕ → Call
asks_first file = ask file 0 1 no_naming

-- reports of a unit of channel 0: a good read of the word 5, and a redundancy
abbrev pub reads : ℕ → Call
reads unit = report 0 unit good no_length (5 ∷ [])

-- what is found of that word as the first block of a file without check words
abbrev pub five : Option Checked
five = Some (record { error = 0; sum = 5; number = 1; sumread = 0; numberread = 0 })

abbrev pub fails : ℕ → Call
fails unit = report 0 unit redundancy no_length []

-- an accepted call that adds nothing, before anything is asked
abbrev pub quiet : Seen
quiet = seen 0 nothing nobody

-- the operation of a unit is repeated n times, from attempt a on
unfoldable pub repeated_from : ℕ → ℕ → ℕ → List Seen
repeated_from a zero u = []
repeated_from a (suc n) u = seen 0 (reported 0 None u) (attempt a u) ∷ repeated_from (a + 1) n u

-- ---- the table

pub data Shown : Type 0 where
  number : ℕ → Shown
  answers : List Seen → Shown

pub record Example : Type 0 where
  pub shown : Shown
  pub wanted : Shown

abbrev pub is : Shown → Shown → Example
is x y = record { shown = x; wanted = y }

-- "a word of all ones"
abbrev pub ones : ℕ
ones = 2 ^ 36 - 1

abbrev pub fold_of : List ℕ → Shown
fold_of words = number (folded (logical_sum words))

unfoldable pub table : List Example
table =
    -- P1 words 1, 2 fold to 3; with block 1 the check word is 786,433
    is (fold_of (1 ∷ 2 ∷ [])) (number 3) ∷ is (number (check_word true true (logical_sum (1 ∷ 2 ∷ [])) 1)) (number 786433)
    -- P2 a word of all ones, then 1, folds to 1
    ∷ is (fold_of (ones ∷ 1 ∷ [])) (number 1)
    -- P3 two words of all ones fold to 262,143
    ∷ is (fold_of (ones ∷ ones ∷ [])) (number 262143)
    -- P4 the word 0 folds to 0
    ∷ is (fold_of (0 ∷ [])) (number 0)
    -- P5 the word 262,144 folds to 1
    ∷ is (fold_of (262144 ∷ [])) (number 1)
    -- P6 after block 32,767 comes 0
    ∷ is (number (next_number 32767)) (number 0)
    -- P7 100 read redundancies repeat, the 101st is permanent
    ∷ is (answers (session (starts 1 ∷ opens 0 0 ∷ asks 0 ∷ replicate 101 (fails 0))))
    (answers (quiet ∷ quiet ∷ seen 0 (working 0) (attempt 1 0) ∷ (repeated_from 2 100 0 ++ (seen 0 (reported 5 None 255) nobody ∷ []))))
    -- P8 26 write redundancies repeat, the 27th is permanent
    ∷ is (answers (session (starts 1 ∷ opens 0 1 ∷ put 0 (5 ∷ []) ∷ ask 0 1 0 no_naming ∷ replicate 27 (fails 0))))
    (answers (quiet ∷ quiet ∷ quiet ∷ seen 0 (working 0) (attempt 1 0) ∷ (repeated_from 2 26 0 ++ (seen 0 (reported 5 None 255) nobody ∷ []))))
    -- P9 ordinary 2, 0, 1 asked in that order on an idle fresh channel: 2, 0, 1 run
    ∷ is (answers (session (starts 3 ∷ opens 0 0 ∷ opens 1 0 ∷ opens 2 0 ∷ asks 2 ∷ asks 0 ∷ asks 1 ∷ reads 2 ∷ reads 0 ∷ reads 1 ∷ [])))
    (answers
    (quiet ∷ quiet ∷ quiet ∷ quiet ∷ seen 0 (working 2) (attempt 1 2) ∷ seen 0 (working 2) (attempt 1 2) ∷ seen 0 (working 2) (attempt 1 2)
    ∷ seen 0 (reported 1 five 0) (attempt 1 0) ∷ seen 0 (reported 1 five 1) (attempt 1 1) ∷ seen 0 (reported 1 five 255) nobody ∷ []))
    -- P10 unit 1 running ordinary, unit 0 asks priority: 0 runs after 1's redundancy, then 1 makes attempt 2
    ∷ is (answers (session (starts 2 ∷ opens 0 0 ∷ opens 1 0 ∷ asks 1 ∷ asks_first 0 ∷ fails 1 ∷ reads 0 ∷ [])))
    (answers
    (quiet ∷ quiet ∷ quiet ∷ seen 0 (working 1) (attempt 1 1) ∷ seen 0 (working 1) (attempt 1 1) ∷ seen 0 (reported 0 None 0) (attempt 1 0)
    ∷ seen 0 (reported 1 five 1) (attempt 2 1) ∷ []))
    -- P11 two free, two asked: opened; one free: 7
    ∷ is (answers (session (starts 2 ∷ opens 0 2 ∷ []))) (answers (quiet ∷ quiet ∷ []))
    ∷ is (answers (session (starts 2 ∷ opens 0 0 ∷ opens 1 2 ∷ []))) (answers (quiet ∷ quiet ∷ seen 7 nothing nobody ∷ []))
    ∷ is (answers (session (starts 3 ∷ opens 0 0 ∷ opens 1 2 ∷ opens 2 0 ∷ []))) (answers (quiet ∷ quiet ∷ quiet ∷ seen 7 nothing nobody ∷ []))
    -- P12 a report repeated after its answer: 11
    ∷ is (answers (session (starts 1 ∷ opens 0 0 ∷ asks 0 ∷ reads 0 ∷ reads 0 ∷ [])))
    (answers (quiet ∷ quiet ∷ seen 0 (working 0) (attempt 1 0) ∷ seen 0 (reported 1 five 255) nobody ∷ seen 11 (reported 0 None 0) nobody ∷ []))
    ∷ []

abbrev pub all_shown : List Example → List Shown
all_shown = map (λ (x : Example). x.shown)

abbrev pub all_wanted : List Example → List Shown
all_wanted = map (λ (x : Example). x.wanted)
