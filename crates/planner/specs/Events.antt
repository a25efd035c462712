-- A list of openings and closings, and when it is good (document 02, M-111). Assumes nothing.
use Rattle.std.specs.Prelude.{Result, Ok, Err, Bool, true, false, not, cond, ◌&&◌, ◌||◌, List, [], ◌∷◌, ℕ, ◌+◌, ◌%◌, leb, ltb, get_or, set, replicate}
use Rattle.planner.specs.declared.ListFault.{ListFault}
use Rattle.planner.specs.declared.ListFault.TheVariants.{Limit, Event}

-- files, and openings in a list, at most
abbrev pub file_limit : ℕ
file_limit = 64

-- buffers that can be ordered, at most
abbrev pub buffer_limit : ℕ
buffer_limit = 64

-- ---- an event is a number: f opens file f with one buffer, 64 + f with two, 128 + f closes it

abbrev pub file_of : ℕ → ℕ
file_of e = e % 64

abbrev pub opens : ℕ → Bool
opens e = ltb e 128

-- "openings, single or double": how many buffers an opening has
abbrev pub asked : ℕ → ℕ
asked e = cond (ltb e 64) 1 2

-- ---- "A list that closes a file not open, or opens an open one, is refused 1."

-- "a limit of 1 to 64"
abbrev pub limit_fits : ℕ → Bool
limit_fits limit = leb 1 limit && leb limit buffer_limit

-- an event is wrong, where `opened` says which files are open and n openings came before: it opens an open file, or is a 65th opening; it closes
-- a file that is not open, or is no event at all
unfoldable pub wrong_event : List Bool → ℕ → ℕ → Bool
wrong_event opened n e =
    cond (opens e) (get_or opened (file_of e) false || leb file_limit n) (leb 192 e || not (get_or opened (file_of e) false))

-- the files that are open after it
unfoldable pub opened_after : List Bool → ℕ → List Bool
opened_after opened e = set opened (file_of e) (opens e)

-- a list is good, or at fault
abbrev pub Judged : Type 0
Judged = Result (Unit {0}) ListFault

-- the first wrong event of a list, whose first event has index i
unfoldable pub judge_from : List Bool → ℕ → ℕ → List ℕ → Judged
judge_from opened n i [] = Ok tt
judge_from opened n i (e ∷ es) = cond (wrong_event opened n e) (Err (Event i)) (judge_from (opened_after opened e) (n + cond (opens e) 1 0) (i + 1) es)

-- the judgement of a limit and a list: no file is open at first
unfoldable pub judge_of : ℕ → List ℕ → Judged
judge_of limit events = cond (limit_fits limit) (judge_from (replicate file_limit false) 0 0 events) (Err Limit)

abbrev pub is_good : Judged → Bool
is_good (Ok t) = true
is_good (Err fault) = false
