-- The planner: each opening takes the lowest free buffers. Assumes nothing.
use Rattle.std.specs.Prelude.{◌≡◌, Result, Ok, Err, cond, List, [], ◌∷◌, ℕ, suc, ◌+◌, ◌*◌, max, eqb, leb, ltb, set, take}
use Rattle.planner.specs.declared.Proposal.{Proposal}
use Rattle.planner.specs.declared.NoPlan.{NoPlan}
use Rattle.planner.specs.declared.NoPlan.TheVariants.{BadList, NoPool}
use Rattle.planner.specs.Events.{file_of, opens, is_good, judge_of}
use Rattle.planner.specs.Walk.{nobody, mark, released}

-- the lowest free buffer, or one past the last
unfoldable pub first_free : List ℕ → ℕ
first_free [] = 0
first_free (x ∷ xs) = cond (eqb x 0) 0 (suc (first_free xs))

-- it serves v now
unfoldable pub taken : ℕ → List ℕ → List ℕ
taken v o = set o (first_free o) v

-- ---- an event: the owners after it, the row of an opening, and the size that it wants

unfoldable pub owners_after : ℕ → List ℕ → List ℕ
owners_after e o =
    cond (opens e) (cond (ltb e 64) (taken (mark e) o) (taken (mark e) (taken (mark e) o))) (released (mark e) o)

unfoldable pub row_of : ℕ → List ℕ → ℕ
row_of e o =
    cond (ltb e 64)
    (16777216 + file_of e * 65536 + first_free o)
    (33554432 + file_of e * 65536 + first_free (taken (mark e) o) * 256 + first_free o)

unfoldable pub wants : ℕ → List ℕ → ℕ
wants e o =
    cond (opens e) (cond (ltb e 64) (first_free o + 1) (max (first_free o + 1) (first_free (taken (mark e) o) + 1))) 0

-- ---- a list: the size, at least 1, and the rows

unfoldable pub size_from : List ℕ → List ℕ → ℕ
size_from o [] = 1
size_from o (e ∷ es) = max (wants e o) (size_from (owners_after e o) es)

unfoldable pub rows_from : List ℕ → List ℕ → List ℕ
rows_from o [] = []
rows_from o (e ∷ es) = cond (opens e) (row_of e o ∷ rows_from (owners_after e o) es) (rows_from (owners_after e o) es)

-- "a refusal 19 exactly if no proposal within the limit would be accepted"; 1 comes first; 0 is a proposal
unfoldable pub plan_refusal : ℕ → List ℕ → ℕ
plan_refusal limit events = cond (is_good (judge_of limit events)) (cond (leb (size_from nobody events) limit) 0 19) 1

-- what is proposed, where nothing is refused: else size 0 and no rows
unfoldable pub plan_size : ℕ → List ℕ → ℕ
plan_size limit events = cond (eqb (plan_refusal limit events) 0) (size_from nobody events) 0

unfoldable pub plan_rows : ℕ → List ℕ → List ℕ
plan_rows limit events = cond (eqb (plan_refusal limit events) 0) (rows_from nobody events) []

-- ---- an answer of the planner as these numbers

abbrev pub refusal_number : NoPlan → ℕ
refusal_number BadList = 1
refusal_number NoPool = 19

abbrev pub refusal_of : Result Proposal NoPlan → ℕ
refusal_of (Ok p) = 0
refusal_of (Err e) = refusal_number e

abbrev pub size_in : Result Proposal NoPlan → ℕ
size_in (Ok p) = p.size
size_in (Err e) = 0

abbrev pub rows_in : Result Proposal NoPlan → List ℕ
rows_in (Ok p) = take p.count p.rows
rows_in (Err e) = []

-- this size and these rows, whatever the limit
pub record Made (events : List ℕ) (size : ℕ) (rows : List ℕ) : Type 0 where
  pub sized : size ≡ size_from nobody events
  pub served : rows ≡ rows_from nobody events
