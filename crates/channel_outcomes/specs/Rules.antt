-- "Outcomes and attempts" (document 01), with noise records and the cleaner pass (document 02, M-106). Assumes nothing.
use Rattle.std.specs.Prelude.{ℕ, ◌+◌, Bool, not, cond, ◌&&◌, ◌||◌, List, [], ◌∷◌, leb, ltb, eqb}
use Rattle.area.specs.Lists.{any_of}
use Rattle.channel.specs.declared.Op.{Op}
use Rattle.channel.specs.declared.Op.TheVariants.{Read, Write, Mark}
use Rattle.channel.specs.declared.Position.{Position}
use Rattle.channel.specs.declared.Request.{Request}
use Rattle.channel_outcomes.specs.declared.Ending.{Ending}
use Rattle.channel_outcomes.specs.declared.Ending.TheVariants.{Good, Opposite, MarkRead, MediumEnd, LostRedundancy, LostIncomplete}
use Rattle.channel_outcomes.specs.declared.Verdict.{Verdict}
use Rattle.channel_outcomes.specs.declared.Verdict.TheVariants.{Refused, Repeats, Ends}
use Rattle.channel_outcomes.specs.Positions.{cleaner_due}

-- "operation(0 read, 1 write, 2 mark)"
abbrev pub op_number : Op → ℕ
op_number Read = 0
op_number Write = 1
op_number Mark = 2

-- "Numbers: 0 good, 1 redundancy, 2 incomplete word, 3 file mark, 4 end of medium."
abbrev pub good : ℕ
good = 0

abbrev pub redundancy : ℕ
redundancy = 1

abbrev pub incomplete_word : ℕ
incomplete_word = 2

abbrev pub file_mark : ℕ
file_mark = 3

abbrev pub end_of_medium : ℕ
end_of_medium = 4

-- how many outcomes there are
abbrev pub outcome_count : ℕ
outcome_count = 5

-- a row of the table: the outcomes that are allowed; the attempt at which a failure is permanent; how many incomplete words an operation
-- meets before one that is permanent; and how many noise records it passes over
pub record Row : Type 0 where
  pub allowed : List ℕ
  pub attempts : ℕ
  pub incomplete : ℕ
  pub noise : ℕ

-- the most attempts that any operation makes: "the total, 101, decides"
abbrev pub most_attempts : ℕ
most_attempts = 101

-- the most noise records that any operation passes over: "At most 100 are passed in one operation"
abbrev pub most_noise : ℕ
most_noise = 100

-- the most reports that any operation takes from its acceptance to its answer, one for each attempt and one for each noise record that it passes
-- over: "demand 3's 101 reads 201"
abbrev pub most_reports : ℕ
most_reports = most_attempts + most_noise

-- "read | 0 1 2 3 | a redundancy or incomplete word at attempt 101, or the second incomplete word"
-- "write | 0 1 2 4 | redundancy at attempt 27; the first incomplete word"
-- "mark | 0 1 4 | redundancy at attempt 27"
-- noise records are a read's: "A read's redundancy report may carry a length"
unfoldable pub row_of : Op → Row
row_of Read = record { allowed = good ∷ redundancy ∷ incomplete_word ∷ file_mark ∷ []; attempts = most_attempts; incomplete = 1; noise = most_noise }
row_of Write = record { allowed = good ∷ redundancy ∷ incomplete_word ∷ end_of_medium ∷ []; attempts = 27; incomplete = 0; noise = 0 }
row_of Mark = record { allowed = good ∷ redundancy ∷ end_of_medium ∷ []; attempts = 27; incomplete = 0; noise = 0 }

-- the column "Allowed"
unfoldable pub is_allowed : Op → ℕ → Bool
is_allowed op outcome = any_of (eqb outcome) (row_of op).allowed

-- the column "Permanent after", of a failure that the operation's request meets
unfoldable pub is_permanent : Request → ℕ → Bool
is_permanent q outcome =
    leb (row_of q.op).attempts q.attempts || (eqb outcome incomplete_word && leb (row_of q.op).incomplete q.incomplete)

abbrev pub is_failure : ℕ → Bool
is_failure outcome = eqb outcome redundancy || eqb outcome incomplete_word

-- "Other failures repeat the operation."
unfoldable pub next_attempt : Request → ℕ → Request
next_attempt q outcome = record {
  op = q.op;
  priority = q.priority;
  attempts = q.attempts + 1;
  incomplete = cond (eqb outcome incomplete_word) (q.incomplete + 1) q.incomplete;
  noise = q.noise;
}

-- ---- noise records

-- "a length in words, two bytes": 0 to 65,535; this number stands for a report that carries none
abbrev pub no_length : ℕ
no_length = 65536

-- "A length under three is a noise record ..; without a length there is none. At most 100 are passed in one operation, the next is an ordinary
-- redundancy"
unfoldable pub is_noise : Request → ℕ → ℕ → Bool
is_noise q outcome length = eqb outcome redundancy && (ltb length 3 && ltb q.noise (row_of q.op).noise)

-- "passed over with no attempt used"
unfoldable pub past_noise : Request → Request
past_noise q = record { op = q.op; priority = q.priority; attempts = q.attempts; incomplete = q.incomplete; noise = q.noise + 1 }

-- ---- what a report comes to

-- "Read attempt 4 is in the opposite mode; if it is good the answer says so."
abbrev pub good_ending : Op → ℕ → Ending
good_ending Read attempt = cond (eqb attempt 4) Opposite Good
good_ending Write attempt = Good
good_ending Mark attempt = Good

-- how an operation ends with an outcome that does not repeat it
unfoldable pub ending_of : Op → ℕ → ℕ → Ending
ending_of op attempt outcome =
    cond (eqb outcome good) (good_ending op attempt)
    (cond (eqb outcome redundancy) LostRedundancy
    (cond (eqb outcome incomplete_word) LostIncomplete
    (cond (eqb outcome file_mark) MarkRead MediumEnd)))

-- what an outcome comes to, by the table, for the request that is worked for. "12 | report: outcome not allowed for the operation"
unfoldable pub table_verdict : Request → ℕ → Verdict
table_verdict q outcome =
    cond (is_allowed q.op outcome)
    (cond (not (is_failure outcome) || is_permanent q outcome)
    (Ends (ending_of q.op q.attempts outcome))
    (Repeats (next_attempt q outcome)))
    (Refused 12)

-- what a report with an outcome and a length comes to
unfoldable pub verdict_of : Request → ℕ → ℕ → Verdict
verdict_of q outcome length = cond (is_noise q outcome length) (Repeats (past_noise q)) (table_verdict q outcome)

-- "results are 00 repeated, 01 good, 02 good in opposite mode, 03 mark, 04 end of medium, 05 permanent redundancy, 06 permanent
-- incomplete word"
abbrev pub ending_number : Ending → ℕ
ending_number Good = 1
ending_number Opposite = 2
ending_number MarkRead = 3
ending_number MediumEnd = 4
ending_number LostRedundancy = 5
ending_number LostIncomplete = 6

-- "the report's result is 07 in place of 00: backspace three", if the cleaner pass is due; p is where the unit's reel stands
unfoldable pub repeated_number : Position → Request → ℕ
repeated_number p q = cond (cleaner_due p q) 7 0

abbrev pub result_number : Position → Verdict → ℕ
result_number p (Refused n) = 0
result_number p (Repeats q) = repeated_number p q
result_number p (Ends e) = ending_number e

-- the refusal, 0 for a report that is booked
abbrev pub refusal_number : Verdict → ℕ
refusal_number (Refused n) = n
refusal_number (Repeats q) = 0
refusal_number (Ends e) = 0
