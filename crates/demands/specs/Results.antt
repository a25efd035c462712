-- "Outcomes and attempts" (document 01) over histories: the result of an accepted report, as a table of the operation, the outcome, the attempt
-- and the incomplete words that the history has counted since the request was accepted; with noise records and the cleaner pass (document 02,
-- M-106), and where each reel stands by the history. Assumes nothing.
use Rattle.std.specs.Prelude.{◌≡◌, Bool, true, false, not, cond, ◌&&◌, ◌||◌, List, [], ◌∷◌, ℕ, ◌+◌, ◌%◌, leb, eqb}
use Rattle.std.proofs.Math.Option.{Option, none, some}
use Rattle.channel.specs.declared.Op.{Op}
use Rattle.channel.specs.declared.Op.TheVariants.{Read, Write, Mark}
use Rattle.channel.specs.declared.Position.{Position}
use Rattle.pack.specs.Books.{Pending, Book, Reel, passes_over}

-- M-106: "when read attempt 12, 22 and so on to 92 is due, three records or more stand since the mark and no noise record was met on that unit
-- since the fresh start, the report's result is 07 in place of 00: backspace three", after a report that makes that attempt the next one; x is where
-- the reel stands
abbrev pub pass_due : ℕ → Reel → Bool
pass_due attempt x = (leb 12 attempt && (leb attempt 92 && eqb (attempt % 10) 2)) && (leb 3 x.records && not x.noise)

abbrev pub repeated : ℕ → Reel → ℕ
repeated a x = cond (pass_due (a + 1) x) 7 0

-- The table: for an operation at attempt a that has met i incomplete words before, on a reel that stands at x, each outcome that is allowed ("0 good, 1
-- redundancy, 2 incomplete word, 3 file mark, 4 end of medium") with its result ("00 repeated, 01 good, 02 good in opposite mode, 03 mark, 04 end
-- of medium, 05 permanent redundancy, 06 permanent incomplete word"). "Other failures repeat the operation."
abbrev pub results_of : Op → ℕ → ℕ → Reel → List (ℕ × ℕ)
-- "read | 0 1 2 3 | a redundancy or incomplete word at attempt 101, or the second incomplete word"; "Read attempt 4 is in the opposite mode;
-- if it is good the answer says so."
results_of Read a i x =
    (0, cond (eqb a 4) 2 1) ∷ (1, cond (eqb a 101) 5 (repeated a x)) ∷ (2, cond (eqb a 101 || eqb i 1) 6 (repeated a x)) ∷ (3, 3) ∷ []
-- "write | 0 1 2 4 | redundancy at attempt 27; the first incomplete word"
results_of Write a i x = (0, 1) ∷ (1, cond (eqb a 27) 5 0) ∷ (2, 6) ∷ (4, 4) ∷ []
-- "mark | 0 1 4 | redundancy at attempt 27"
results_of Mark a i x = (0, 1) ∷ (1, cond (eqb a 27) 5 0) ∷ (4, 4) ∷ []

-- what a table gives for an outcome, none if the outcome is not allowed
unfoldable pub given_for : ℕ → List (ℕ × ℕ) → Option ℕ
given_for outcome [] = none
given_for outcome (row ∷ rows) = cond (eqb outcome row.0) (some row.1) (given_for outcome rows)

-- Of an accepted report for unit u: b is the channel's book before it, result is what it answers.
pub record Results (b : Book) (u outcome len result : ℕ) : Type 0 where
  -- the unit has a request without an answer,
  pub request : Pending
  pub pending : b.requests u ≡ some request
  -- a noise record is "passed over with no attempt used": 00
  pub noise : passes_over outcome len request ≡ true → result ≡ 0
  -- and else the result is the table's: the attempt is one above the failures since the request was accepted
  pub row : passes_over outcome len request ≡ false
      → given_for outcome (results_of request.op (request.failures + 1) request.incomplete (b.reels u)) ≡ some result

-- Of a report that is refused 12, "outcome not allowed for the operation": the table has no result for it.
pub record Forbids (b : Book) (u outcome : ℕ) : Type 0 where
  pub request : Pending
  pub pending : b.requests u ≡ some request
  pub row : given_for outcome (results_of request.op (request.failures + 1) request.incomplete (b.reels u)) ≡ none

-- Where the reel of a unit stands, p, is what the results of the accepted reports of that unit since the fresh start say, x.
pub record Stands (p : Position) (x : Reel) : Type 0 where
  pub marks : p.marks ≡ x.marks
  pub records : p.records ≡ x.records
  pub noise : p.noisy ≡ x.noise
