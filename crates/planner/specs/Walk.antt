-- The check of a proposal, event by event: which file each buffer serves. Assumes nothing.
use Rattle.std.specs.Prelude.{Result, Ok, Err, Bool, not, cond, ◌&&◌, List, [], ◌∷◌, map, ℕ, ◌+◌, eqb, leb, ltb, length, get_or, set, drop, replicate}
use Rattle.area.specs.Lists.{all_of}
use Rattle.planner.specs.declared.Fault.{Fault}
use Rattle.planner.specs.declared.Fault.TheVariants.{Openings, OtherFile, OtherCount, Outside, Twice, Shared}
use Rattle.planner.specs.declared.Rejection.{Rejection}
use Rattle.planner.specs.declared.Rejection.TheVariants.{BadList, Size, Row}
use Rattle.planner.specs.Events.{buffer_limit, file_of, opens, asked, is_good, judge_of}
use Rattle.planner.specs.Rows.{row_count, row_file, buffers_of, different}

-- ---- the owner of each buffer: 0 is nobody, 1 + f is file f

abbrev pub nobody : List ℕ
nobody = replicate buffer_limit 0

abbrev pub mark : ℕ → ℕ
mark e = file_of e + 1

-- the buffers bs now serve v
unfoldable pub claimed : ℕ → List ℕ → List ℕ → List ℕ
claimed v [] q = q
claimed v (b ∷ bs) q = set (claimed v bs q) b v

-- v leaves: its buffers serve nobody
abbrev pub leave : ℕ → ℕ → ℕ
leave v x = cond (eqb x v) 0 x

unfoldable pub released : ℕ → List ℕ → List ℕ
released v q = map (leave v) q

-- ---- why a proposal is not accepted: its size, or a row, by the first that applies: count of openings, no line of this opening, wrong count of buffers, a
-- ---- buffer outside the size, the same buffer twice, a buffer that serves two open files

-- no fault, or the first
abbrev pub RowJudged : Type 0
RowJudged = Result (Unit {0}) Fault

abbrev pub Verdict : Type 0
Verdict = Result (Unit {0}) Rejection

abbrev pub accepted : Verdict
accepted = Ok tt

abbrev pub is_free : List ℕ → ℕ → Bool
is_free q b = eqb (get_or q b 0) 0

unfoldable pub buffers_fault : ℕ → List ℕ → List ℕ → RowJudged
buffers_fault size q bs =
    cond (not (all_of (λ b. ltb b size) bs)) (Err Outside) (cond (not (different bs)) (Err Twice) (cond (not (all_of (is_free q) bs)) (Err Shared) (Ok tt)))

unfoldable pub row_fault : ℕ → List ℕ → ℕ → ℕ → RowJudged
row_fault size q e row =
    cond (not (eqb (row_file row) (file_of e))) (Err OtherFile)
    (cond (not (eqb (row_count row) (asked e))) (Err OtherCount)
    (buffers_fault size q (buffers_of row)))

-- ---- event by event, with the rows that are left; n of them are used

-- an opening uses a row
abbrev pub used : ℕ → ℕ
used e = cond (opens e) 1 0

unfoldable pub event_fault : ℕ → List ℕ → ℕ → List ℕ → RowJudged
event_fault size q e rows = cond (opens e) (cond (eqb (length rows) 0) (Err Openings) (row_fault size q e (get_or rows 0 0))) (Ok tt)

unfoldable pub owners_next : ℕ → List ℕ → List ℕ → List ℕ
owners_next e rows q = cond (opens e) (claimed (mark e) (buffers_of (get_or rows 0 0)) q) (released (mark e) q)

-- the verdict of the rows that follow, or the fault at row n
abbrev pub unless_fault : RowJudged → ℕ → Verdict → Verdict
unless_fault (Ok t) n v = v
unless_fault (Err fault) n v = Err (Row fault n)

unfoldable pub check_from : ℕ → List ℕ → ℕ → List ℕ → List ℕ → Verdict
check_from size q n [] rows = cond (eqb (length rows) 0) accepted (Err (Row Openings n))
check_from size q n (e ∷ es) rows =
    unless_fault (event_fault size q e rows) n (check_from size (owners_next e rows q) (n + used e) es (drop (used e) rows))

-- the verdict on a proposal: a list at fault is refused, whatever is proposed
unfoldable pub check_of : ℕ → List ℕ → ℕ → List ℕ → Verdict
check_of limit events size rows =
    cond (is_good (judge_of limit events)) (cond (leb 1 size && leb size limit) (check_from size nobody 0 events rows) (Err Size)) (Err BadList)
