-- Which proposals are acceptable, said plainly (document 02, M-111). Assumes nothing.
use Rattle.std.specs.Prelude.{◌≡◌, ◌≢◌, true, cond, List, [], ◌∷◌, ◌++◌, ℕ, zero, suc, ◌≤◌, ◌<◌, eqb, length, get_or, drop}
use Rattle.planner.specs.Events.{file_of, opens, asked}
use Rattle.planner.specs.Rows.{row_count, row_file, buffers_of, among, different}

-- the openings of a list, in order
unfoldable pub openings : List ℕ → List ℕ
openings [] = []
openings (e ∷ es) = cond (opens e) (e ∷ openings es) (openings es)

-- ---- who holds which buffers, from moment to moment

-- the buffers that serve each file
abbrev pub Desk : Type 0
Desk = ℕ → List ℕ

-- no file is open
abbrev pub none_open : Desk
none_open f = []

-- an opening of file f adds the buffers bs to what f holds, which in a good list is nothing; a closing drops all that f holds
unfoldable pub opened : ℕ → List ℕ → Desk → Desk
opened f bs d g = cond (eqb g f) (bs ++ d g) (d g)

unfoldable pub closed : ℕ → Desk → Desk
closed f d g = cond (eqb g f) [] (d g)

-- the desk after the first k events of a list: each opening takes the next row
unfoldable pub desk_after : ℕ → List ℕ → List ℕ → Desk → Desk
desk_after zero events rows d = d
desk_after (suc k) [] rows d = d
desk_after (suc k) (e ∷ es) rows d =
    cond (opens e) (desk_after k es (drop 1 rows) (opened (file_of e) (buffers_of (get_or rows 0 0)) d)) (desk_after k es rows (closed (file_of e) d))

-- "no buffer serves two open files at a time"
abbrev pub Apart : Desk → Type 0
Apart d = (f g b : ℕ) → f ≢ g → among b (d f) ≡ true → among b (d g) ≡ true → ⊥

-- "every opening has its count of different buffers inside the size", and its row names its file
pub record Served (size e row : ℕ) : Type 0 where
  pub file : row_file row ≡ file_of e
  pub count : row_count row ≡ asked e
  pub differ : different (buffers_of row) ≡ true
  pub inside : (b : ℕ) → among b (buffers_of row) ≡ true → b < size

-- an acceptable proposal: of a size and of rows, for a limit and a list
pub record Acceptable (limit : ℕ) (events : List ℕ) (size : ℕ) (rows : List ℕ) : Type 0 where
  -- "its size is from 1 to the limit"
  pub least : 1 ≤ size
  pub most : size ≤ limit
  -- a row for each opening
  pub whole : length rows ≡ length (openings events)
  pub each : (i : ℕ) → i < length (openings events) → Served size (get_or (openings events) i 0) (get_or rows i 0)
  -- at every moment
  pub apart : (k : ℕ) → Apart (desk_after k events rows none_open)
