-- The user's demands, sentence by sentence, as statements of the pack's own definitions. `proofs/Demands` proves each by one citation.
-- Assumes nothing.
use Rattle.std.specs.Prelude.{◌≡◌, ◌≢◌, ◌⊎◌, true, false, cond, ◌&&◌, List, [], ◌∷◌, ◌++◌, map, ℕ, ◌+◌, ◌*◌, ◌^◌, ◌≤◌, ◌<◌, ltb}
use Rattle.area.specs.Refusals.{Given, NoneApplies}
use Rattle.file.specs.declared.File.{File}
use Rattle.area.specs.Lists.{count_of}
use Rattle.area.specs.Masks.{bit_at}
use Rattle.channel.specs.Units.{operation_at}
use Rattle.pool.specs.Free.{buffer_limit, held_by, is_free, free_count, holders, all_holding, Lowest}
use Rattle.pool.specs.Serving.{serves}
use Rattle.state.specs.declared.State.{State}
use Rattle.state.specs.Places.{file_at, channel_at}
use Rattle.state_sound.specs.Soundness.{sound}
use Rattle.call_request.specs.Report.{is_idle_for}
use Rattle.pack.specs.Calls.{Call, answer_of, number_alone}
use Rattle.pack.specs.Tables.{is_table_number, rows_of}
use Rattle.demands_ledger.specs.Ledgers.{Ledger, data_of}
use Rattle.demands_ledger.specs.Blocks.{blocks_in, unread_of, part_in, all_checked, joined, contents}
use Rattle.demands.specs.Turns.{SomeWorks}
use Rattle.pack.specs.Books.{Book, is_urgent}
use Rattle.pack.specs.Histories.{Lent, after, count, is_report_on, is_answer_for, is_priority_on, is_request_of}

-- ---- Demand 1: "Any call, with any numbers, words and lengths, gets an answer." `answer_of` is one answer for every state, area and call.

pub record Refuses (s : State) (area : List ℕ) (call : Call) : Type 0 where
  -- "A refusal carries one number of document 01's table,"
  pub carries : (answer_of s area call).refusal ≢ 0 → is_table_number (answer_of s area call).refusal ≡ true
  -- "is given exactly when the table says,": the call's row n applies, and no row of the call with a lower number does
  pub given : (n : ℕ) → 0 < n → (answer_of s area call).refusal ≡ n → Given (rows_of s area call) n
  pub gives : (n : ℕ) → Given (rows_of s area call) n → (answer_of s area call).refusal ≡ n
  pub accepted : (answer_of s area call).refusal ≡ 0 → NoneApplies (rows_of s area call)
  pub accepts : NoneApplies (rows_of s area call) → (answer_of s area call).refusal ≡ 0
  -- "and changes nothing.": the answer is the number alone, with the state that was passed and the area as it was lent
  pub unchanged : (answer_of s area call).refusal ≢ 0 → answer_of s area call ≡ number_alone (answer_of s area call).refusal s area call

-- ---- Demand 2: "Each buffer is free, or held by exactly one open file,"

pub record Holds (s : State) : Type 0 where
  pub right : sound s ≡ true
  -- the open files that hold buffer b are none if it is free, else one
  pub once : (b : ℕ) → holders s.files b ≡ cond (is_free s.files b) 0 1
  -- the free buffers, and those that files hold, are all m
  pub all : free_count s.m s.files + all_holding s.files ≡ s.m
  -- and the free mask says which: bit b is set exactly if b is one of the m buffers and no open file holds it, and no bit stands above
  pub mask : (b : ℕ) → b < buffer_limit → bit_at s.free b ≡ (ltb b s.m && is_free s.files b)
  pub above : s.free < 2 ^ buffer_limit

-- "and a freed one is used again.": what the file held is free after its close,
pub record Frees (s : State) (file : ℕ) (t : State) : Type 0 where
  pub free : (b : ℕ) → held_by b (file_at s file) ≡ true → is_free t.files b ≡ true
  pub bits : (b : ℕ) → held_by b (file_at s file) ≡ true → bit_at t.free b ≡ true

-- and an open takes the lowest free ones, which then this file alone holds
pub record Takes (s : State) (file : ℕ) (t : State) : Type 0 where
  pub low : Lowest s.m s.files 0 (file_at t file).low.number
  pub high : (file_at t file).double ≡ true → Lowest s.m s.files ((file_at t file).low.number + 1) (file_at t file).high.number
  pub alone : (b i : ℕ) → held_by b (file_at t file) ≡ true → held_by b (file_at t i) ≡ true → i ≡ file
  pub bits : (b : ℕ) → held_by b (file_at t file) ≡ true → (bit_at s.free b ≡ true) × (bit_at t.free b ≡ false)

-- A late completion is not booked to a neighbour's file: the channel was working for that unit, one file alone is open on it, and no other
-- file and no other channel changes.
pub record Books (s : State) (channel unit : ℕ) (t : State) : Type 0 where
  pub file : ℕ
  pub works : is_idle_for (operation_at (channel_at s channel) unit) ≡ false
  pub bound : serves channel unit (file_at s file) ≡ true
  pub only : (k : ℕ) → serves channel unit (file_at s k) ≡ true → k ≡ file
  pub files : (k : ℕ) → k ≢ file → file_at t k ≡ file_at s k
  pub channels : (k : ℕ) → k ≢ channel → channel_at t k ≡ channel_at s k

-- ---- Demand 2: "While only the pack writes the lent area, blocks we write carry the one right check word; blocks we read are judged by it
-- as delivered." The ledger g of a file is noted from its calls and their answers.

-- the data words of blocks, each without its check word
abbrev pub data_in : File → List (List ℕ) → List (List ℕ)
data_in f = map (data_of f.sequence f.check)

-- of an output file f
pub record Writes (w : ℕ) (f : File) (area : List ℕ) (g : Ledger) : Type 0 where
  -- each block that a write's answer showed is its data words and, if a field is chosen, the check word of its number: 1, 2, 3 .. in the
  -- order sealed, 0 after 32,767
  pub checks : g.sent ≡ all_checked f.sequence f.check 1 (data_in f g.sent)
  -- their data words, then those of the blocks that lie full in the area, then those of the part-filled one, are the words put: in order,
  -- each once
  pub words : joined (data_in f g.sent) ++ (joined (data_in f (blocks_in w f area)) ++ part_in w f area) ≡ g.puts

-- of an input file f
pub record Reads (w : ℕ) (f : File) (area : List ℕ) (g : Ledger) : Type 0 where
  -- what get gave and skip dropped, then what is owed still, is for each delivered block the error of the read that brought it, if that was permanent
  -- (document 02, M-101), the error that it is judged to have, as delivered and with the number that it is due, each together with what was found, and
  -- then its data words: in order, each once
  pub items : g.gone ++ joined g.owed ≡ contents f.sequence f.check 1 g.came
  -- and what is owed lies unread in the area
  pub lies : g.owed ≡ unread_of w f area

-- ---- Demand 3: "an accepted ordinary request on a channel of U declared units", of unit u on channel c

-- "its channel is working or frozen"
abbrev pub WorkingOrFrozen : State → ℕ → Type 0
WorkingOrFrozen s c = SomeWorks s c ⊎ (s.frozen ≡ true)

-- "Units 0 to 9 on each"
abbrev pub all_units : List ℕ
all_units = 0 ∷ 1 ∷ 2 ∷ 3 ∷ 4 ∷ 5 ∷ 6 ∷ 7 ∷ 8 ∷ 9 ∷ []

-- the priority requests that were accepted and have no answer, by the book of the calls before; a unit has one at most
abbrev pub unanswered : Book → ℕ
unanswered b = count_of (λ u. is_urgent (b.requests u)) all_units

-- "P counting that channel's priority requests unanswered at its acceptance or accepted until its answer": b is the channel's book at the
-- acceptance, and `later` are the calls since, from the state d
abbrev pub priorities : ℕ → Book → State → List Lent → ℕ
priorities c b d later = unanswered b + count (is_priority_on c) d later

-- of any calls `later` after the acceptance of a request, by a bound on the reports
pub record AnswersWithin (most c u : ℕ) (d : State) (later : List Lent) : Type 0 where
  -- "is answered at most once;": a second answer to the unit is to a later request of it
  pub once : count (is_answer_for c u) d later ≤ 1 + count (is_request_of c u) d later
  -- "until then its channel is working or frozen;" and no other request of the unit is accepted
  pub alive : count (is_answer_for c u) d later ≡ 0 → WorkingOrFrozen (after d later) c
  pub sole : count (is_answer_for c u) d later ≡ 0 → count (is_request_of c u) d later ≡ 0
  -- its answer comes by the time that so many reports have been accepted on that channel since: until then there are fewer
  pub soon : count (is_answer_for c u) d later ≡ 0 → count (is_report_on c) d later < most

-- "its answer comes by the time 101 x (U + P) reports have been accepted on that channel since"; with noise records (M-106) "demand 3's 101 reads 201"
abbrev pub Answers : ℕ → ℕ → ℕ → Book → State → List Lent → Type 0
Answers U c u b d later = AnswersWithin (201 * (U + priorities c b d later)) c u d later

-- M-112: "an accepted priority request is answered by the time 101 × U + 1 reports have been accepted on its channel (201 for 101 with M-106)"
abbrev pub AnswersUrgent : ℕ → ℕ → ℕ → State → List Lent → Type 0
AnswersUrgent U c u d later = AnswersWithin (201 * U + 1) c u d later
