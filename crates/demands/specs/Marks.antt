-- Refusal 10 (document 01, "Refusal numbers") over histories: what the history says of the file, not what the state remembers. Assumes nothing.
use Rattle.std.specs.Prelude.{◌≡◌, ◌≢◌, Bool, true, false, List, ℕ, ◌≤◌}
use Rattle.std.proofs.Math.Option.{Option, none, some}
use Rattle.routines.specs.declared.Naming.{Naming}
use Rattle.state.specs.declared.State.{State}
use Rattle.state.specs.Places.{file_at}
use Rattle.pack.specs.Calls.{ask, answer_of}
use Rattle.pack.specs.Books.{Opened}

-- the file is open, and since its open a report for its unit has answered 03
abbrev pub is_marked : Option Opened → Bool
is_marked none = false
is_marked (some f) = f.marked

-- Of an ask for a file in the state s; o is what the history says of the file.
pub record Marks (s : State) (area : List ℕ) (file op priority : ℕ) (naming : Naming) (o : Option Opened) : Type 0 where
  -- the file that the state has is the one that the history has opened, on that unit
  pub bound : (x : Opened) → o ≡ some x → ((file_at s file).opened ≡ true) × ((file_at s file).channel ≡ x.channel) × ((file_at s file).unit ≡ x.unit)
  pub shut : o ≡ none → (file_at s file).opened ≡ false
  -- "10 | ask read: a file mark has been read since the open": it is given to a read alone, and only then;
  pub only : (answer_of s area (ask file op priority naming)).refusal ≡ 10 → (op ≡ 0) × (is_marked o ≡ true)
  -- and then the read is refused, with 10 or a lower number ("If several apply, the lowest number is given."), which demand 1 gives
  -- exactly if its row applies
  pub refuses : op ≡ 0 → is_marked o ≡ true
      → ((answer_of s area (ask file op priority naming)).refusal ≢ 0) × ((answer_of s area (ask file op priority naming)).refusal ≤ 10)
