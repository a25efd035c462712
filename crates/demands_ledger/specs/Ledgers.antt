-- The ledger of a file, noted from calls and their answers alone, and histories in which the pack alone writes the lent area. Assumes nothing.
use Rattle.std.specs.Prelude.{ℕ, zero, suc, ◌-◌, Bool, true, false, cond, ◌&&◌, ◌||◌, List, [], ◌∷◌, ◌++◌, map, eqb, length, take, drop, Option, None}
use Rattle.word.specs.declared.Checked.{Checked}
use Rattle.word.specs.CheckWords.{extra}
use Rattle.word.specs.Checks.{with_error}
use Rattle.file.specs.Arrivals.{redundancy_error, incomplete_error}
use Rattle.call_request.specs.Report.{told_by}
use Rattle.file_input.specs.declared.Got.{Got}
use Rattle.file_input.specs.declared.Got.TheVariants.{Record, Leftover, Error, End, Nothing}
use Rattle.state.specs.declared.State.{State}
use Rattle.call_open.specs.Open.{is_set}
use Rattle.pack.specs.Calls.{Call, fresh, opening, close, ask, report, get, put, seal, skip, freeze, thaw, return, running, Added, nothing, working, reported, got, returned, runs, Answer, answer_of}
use Rattle.pack.specs.Histories.{is_accepted, is_answer}
use Rattle.pack.specs.Books.{told_result}

-- what a reader meets: an error of a block, by its number and all that was found, and the words of a block
pub data Item : Type 0 where
  word : ℕ → Item
  wrong : Checked → Item

-- a block that was delivered: the error of the read that brought it, 0 for none, and its words
pub record Came : Type 0 where
  pub failed : ℕ
  pub words : List ℕ

-- what the open of a file chose: its channel and unit, the fields of the check word, the block size B and the record length r
pub record Choice : Type 0 where
  pub channel : ℕ
  pub unit : ℕ
  pub sequence : Bool
  pub check : Bool
  pub size : ℕ
  pub rlen : ℕ

-- Of a file: whether it is open, and what its open chose. Since its open: the operation last asked for; the words put, and for each seal how
-- many had been put, the last seal first; the blocks that writes' answers showed; the blocks delivered, and whether a mark was read; what get
-- gave or skip dropped; and what is owed still, one list for each block that is not done with.
pub record Ledger : Type 0 where
  pub opened : Bool
  pub chosen : Choice
  pub asked : ℕ
  pub puts : List ℕ
  pub seals : List ℕ
  pub sent : List (List ℕ)
  pub came : List Came
  pub marked : Bool
  pub gone : List Item
  pub owed : List (List Item)

abbrev pub empty_ledger : Bool → Choice → Ledger
empty_ledger opened chosen = record {
  opened = opened;
  chosen = chosen;
  asked = 0;
  puts = [];
  seals = [];
  sent = [];
  came = [];
  marked = false;
  gone = [];
  owed = [];
}

-- of the flags of an open: "4 sequence, 8 check"
abbrev pub choice_of : ℕ → ℕ → ℕ → ℕ → ℕ → Choice
choice_of channel unit flags size rlen =
    record { channel = channel; unit = unit; sequence = is_set flags 4; check = is_set flags 8; size = size; rlen = rlen }

-- as an open and as a fresh start leave it
abbrev pub new_ledger : Choice → Ledger
new_ledger chosen = empty_ledger true chosen

abbrev pub blank_ledger : Ledger
blank_ledger = empty_ledger false (record { channel = 0; unit = 0; sequence = false; check = false; size = 0; rlen = 0 })

-- ---- what an accepted call for the file adds

-- a block of words, if there are any
abbrev pub as_block : List ℕ → List (List ℕ)
as_block [] = []
as_block (x ∷ xs) = (x ∷ xs) ∷ []

-- the data words of a block, its check word left out
abbrev pub data_of : Bool → Bool → List ℕ → List ℕ
data_of sequence check words = take (length words - extra sequence check) words

-- "05 permanent redundancy, 06 permanent incomplete word"; "get reports error 4 or 10" (document 02, M-101): the error of a read with that result
abbrev pub failed_by : ℕ → ℕ
failed_by result = cond (eqb result 5) redundancy_error (cond (eqb result 6) incomplete_error 0)

-- the words that a report delivers: "Words on a repeated attempt are dropped."
abbrev pub kept_words : Added → List ℕ → List ℕ
kept_words added words = cond (is_answer added) words []

-- a delivered block, if there are words
abbrev pub came_by : ℕ → List ℕ → List Came
came_by failed [] = []
came_by failed (x ∷ xs) = record { failed = failed; words = x ∷ xs } ∷ []

-- an error of that number, if there is one, with all that was found
abbrev pub wrongs_by : ℕ → Checked → List Item
wrongs_by zero found = []
wrongs_by (suc e) found = wrong found ∷ []

-- "get reports error 4 or 10, once, before any check error": the read error and then the check error, each with what was found
abbrev pub wrongs : ℕ → Checked → List Item
wrongs failed found = wrongs_by failed (with_error failed found) ++ wrongs_by found.error found

-- what is owed of a delivered block: its errors with what was found, and then its data words
abbrev pub contents_of : Bool → Bool → ℕ → Checked → List ℕ → List Item
contents_of sequence check failed found words = wrongs failed found ++ map word (data_of sequence check words)

abbrev pub owed_for : Bool → Bool → ℕ → Checked → List ℕ → List (List Item)
owed_for sequence check failed found [] = []
owed_for sequence check failed found (x ∷ xs) = contents_of sequence check failed found (x ∷ xs) ∷ []

-- what a report's answer tells of the block that it delivers: "after the error number, worked-out sum and number first, then those read"
abbrev pub told_delivery : Added → Option Checked
told_delivery nothing = None
told_delivery (working u) = None
told_delivery (reported result delivery u) = delivery
told_delivery (got g) = None
told_delivery (returned back p) = None
told_delivery (runs p) = None

-- "results are .. 03 mark"
abbrev pub is_mark : Added → Bool
is_mark nothing = false
is_mark (working u) = false
is_mark (reported result delivery u) = eqb result 3
is_mark (got g) = false
is_mark (returned back p) = false
is_mark (runs p) = false

-- a report: the block delivered with it, if it answers its request; the block that its answer shows; and whether it read a mark
abbrev pub with_report : List ℕ → Answer → Ledger → Ledger
with_report words a g = record {
  opened = g.opened;
  chosen = g.chosen;
  asked = g.asked;
  puts = g.puts;
  seals = g.seals;
  sent = g.sent ++ as_block a.shows;
  came = g.came ++ came_by (failed_by (told_result a.added)) (kept_words a.added words);
  marked = is_mark a.added || g.marked;
  gone = g.gone;
  owed =
      g.owed
      ++ owed_for g.chosen.sequence g.chosen.check (failed_by (told_result a.added)) (told_by (told_delivery a.added)) (kept_words a.added words);
}

abbrev pub with_ask : ℕ → Ledger → Ledger
with_ask op g = record {
  opened = g.opened;
  chosen = g.chosen;
  asked = op;
  puts = g.puts;
  seals = g.seals;
  sent = g.sent;
  came = g.came;
  marked = g.marked;
  gone = g.gone;
  owed = g.owed;
}

-- what get gave: an error with what was found, or the words that its answer shows
abbrev pub given_by : Got → List ℕ → List Item
given_by (Record start n) words = map word words
given_by (Leftover start n) words = map word words
given_by (Error found) words = wrong found ∷ []
given_by End words = []
given_by Nothing words = []

abbrev pub given : Added → List ℕ → List Item
given nothing words = []
given (working u) words = []
given (reported result delivery u) words = []
given (got g) words = given_by g words
given (returned back p) words = []
given (runs p) words = []

-- "If that block was used up by an earlier get, it first becomes empty and the next oldest is looked at."
abbrev pub past_used : List (List Item) → List (List Item)
past_used [] = []
past_used ([] ∷ blocks) = blocks
past_used ((x ∷ items) ∷ blocks) = (x ∷ items) ∷ blocks

abbrev pub without : ℕ → List (List Item) → List (List Item)
without n [] = []
without n (items ∷ blocks) = drop n items ∷ blocks

abbrev pub with_get : Answer → Ledger → Ledger
with_get a g = record {
  opened = g.opened;
  chosen = g.chosen;
  asked = g.asked;
  puts = g.puts;
  seals = g.seals;
  sent = g.sent;
  came = g.came;
  marked = g.marked;
  gone = g.gone ++ given a.added a.shows;
  owed = without (length (given a.added a.shows)) (past_used (past_used g.owed));
}

abbrev pub with_put : List ℕ → Ledger → Ledger
with_put words g = record {
  opened = g.opened;
  chosen = g.chosen;
  asked = g.asked;
  puts = g.puts ++ words;
  seals = g.seals;
  sent = g.sent;
  came = g.came;
  marked = g.marked;
  gone = g.gone;
  owed = g.owed;
}

abbrev pub with_seal : Ledger → Ledger
with_seal g = record {
  opened = g.opened;
  chosen = g.chosen;
  asked = g.asked;
  puts = g.puts;
  seals = length g.puts ∷ g.seals;
  sent = g.sent;
  came = g.came;
  marked = g.marked;
  gone = g.gone;
  owed = g.owed;
}

-- "Skip drops the oldest full block, used up or not."
abbrev pub first_of : List (List Item) → List Item
first_of [] = []
first_of (items ∷ blocks) = items

abbrev pub rest_of : List (List Item) → List (List Item)
rest_of [] = []
rest_of (items ∷ blocks) = blocks

abbrev pub with_skip : Ledger → Ledger
with_skip g = record {
  opened = g.opened;
  chosen = g.chosen;
  asked = g.asked;
  puts = g.puts;
  seals = g.seals;
  sent = g.sent;
  came = g.came;
  marked = g.marked;
  gone = g.gone ++ first_of g.owed;
  owed = rest_of g.owed;
}

-- a close ends the file's part in reports
abbrev pub with_close : Ledger → Ledger
with_close g = record {
  opened = false;
  chosen = g.chosen;
  asked = g.asked;
  puts = g.puts;
  seals = g.seals;
  sent = g.sent;
  came = g.came;
  marked = g.marked;
  gone = g.gone;
  owed = g.owed;
}

-- "An open file is bound to one unit": a report is for the file that is open on its unit
abbrev pub is_on : ℕ → ℕ → Ledger → Bool
is_on channel unit g = g.opened && (eqb g.chosen.channel channel && eqb g.chosen.unit unit)

-- the ledger of file i after an accepted call
abbrev pub entered : ℕ → Call → Answer → Ledger → Ledger
entered i (fresh m w masks) a g = blank_ledger
entered i (opening file channel unit flags size rlen) a g = cond (eqb file i) (new_ledger (choice_of channel unit flags size rlen)) g
entered i (close file) a g = cond (eqb file i) (with_close g) g
entered i (ask file op priority naming) a g = cond (eqb file i) (with_ask op g) g
entered i (report channel unit outcome len words) a g = cond (is_on channel unit g) (with_report words a g) g
entered i (get file) a g = cond (eqb file i) (with_get a g) g
entered i (put file words) a g = cond (eqb file i) (with_put words g) g
entered i (seal file) a g = cond (eqb file i) (with_seal g) g
entered i (skip file) a g = cond (eqb file i) (with_skip g) g
entered i freeze a g = g
entered i thaw a g = g
entered i return a g = g
entered i running a g = g

-- a refused call enters no ledger
abbrev pub noted : ℕ → Call → Answer → Ledger → Ledger
noted i call a g = cond (is_accepted a) (entered i call a g) g

-- ---- "While only the pack writes the lent area": each call is given the state and the area that the last one left

unfoldable pub state_after : State → List ℕ → List Call → State
state_after s area [] = s
state_after s area (call ∷ calls) = state_after (answer_of s area call).state (answer_of s area call).area calls

unfoldable pub area_after : State → List ℕ → List Call → List ℕ
area_after s area [] = area
area_after s area (call ∷ calls) = area_after (answer_of s area call).state (answer_of s area call).area calls

-- the ledger of file i
unfoldable pub ledger_after : ℕ → State → List ℕ → Ledger → List Call → Ledger
ledger_after i s area g [] = g
ledger_after i s area g (call ∷ calls) =
    ledger_after i (answer_of s area call).state (answer_of s area call).area (noted i call (answer_of s area call) g) calls
