-- When a list is good, said plainly (document 02, M-111). Assumes nothing.
use Rattle.std.specs.Prelude.{◌≡◌, Bool, false, not, cond, List, [], ◌∷◌, ℕ, zero, suc, ◌≤◌, ◌<◌, eqb, length, get_or}
use Rattle.area.specs.Lists.{count_of}
use Rattle.planner.specs.Events.{file_limit, buffer_limit, file_of, opens}

-- whether file f is open after one event more
unfoldable pub after_event : ℕ → (ℕ → Bool) → ℕ → Bool
after_event e o f = cond (eqb f (file_of e)) (opens e) (o f)

-- whether file f is open after the first k events
unfoldable pub open_after : ℕ → List ℕ → (ℕ → Bool) → ℕ → Bool
open_after zero events o f = o f
open_after (suc k) [] o f = o f
open_after (suc k) (e ∷ es) o f = open_after k es (after_event e o) f

pub record GoodList (limit : ℕ) (events : List ℕ) : Type 0 where
  -- "a limit of 1 to 64 and a list of at most 64 openings"
  pub least : 1 ≤ limit
  pub most : limit ≤ buffer_limit
  pub few : count_of opens events ≤ file_limit
  -- each is an opening or a closing of a file 0 to 63
  pub known : (k : ℕ) → k < length events → get_or events k 0 < 192
  -- what is opened is not open, and what is closed is
  pub right : (k : ℕ) → k < length events → open_after k events (λ f. false) (file_of (get_or events k 0)) ≡ not (opens (get_or events k 0))
