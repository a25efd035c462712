-- Laws of the answers: a refused call gives back what was passed, an accepted one what it makes. Assumes nothing.
use mathlib.Core.Logic.{◌≢◌}
use mathlib.Core.Path.{◌≡◌, refl, sym, ap, ◌∙◌}
use mathlib.Core.Bool.{Bool, true, false, not}
use Prim.Native.Nat.{ℕ}
use borrow.Author.Tests.{eq-eqb, ne_eqb}
use Rattle.state.specs.declared.State.{State}
use Rattle.state.specs.Stores.{with_file}
use Rattle.file.specs.declared.FileChange.{FileChange}
use Rattle.state.specs.Answers.{called}

pub not_so : (b : Bool) → not b ≡ false → b ≡ true
not_so true e = refl
not_so false e = sym e

-- "A refusal .. changes nothing."
pub state_refused : (n : ℕ) (s t : State) → n ≢ 0 → (called n s t).state ≡ s
state_refused n s t h = rw (ne_eqb n 0 h)

pub state_accepted : (n : ℕ) (s t : State) → n ≡ 0 → (called n s t).state ≡ t
state_accepted n s t h = rw (eq-eqb n 0 h)

-- what a call's two returns answer, by the number n that it found
pub answers_refused : (n k : ℕ) (s t : State) → n ≡ k → n ≢ 0 → record { refusal = n; state = s } ≡ called k s t
answers_refused n k s t e h = rw (← e, ne_eqb n 0 h)

pub answers_accepted : (n k : ℕ) (s t u : State) → n ≡ k → n ≡ 0 → u ≡ t → record { refusal = 0; state = u } ≡ called k s t
answers_accepted n k s t u e z same = rw (← e, z, same)

-- the same for a call that stores the file of what its inner form answered
module _ (x y : FileChange) (s : State) (file : ℕ) (same : x ≡ y) where
  pub stores_refused : x.refusal ≢ 0 → record { refusal = x.refusal; state = s } ≡ called y.refusal s (with_file s file y.file)
  stores_refused h = answers_refused x.refusal y.refusal s (with_file s file y.file) (ap (λ (z : FileChange). z.refusal) same) h

  pub stores_accepted : (t : State) → x.refusal ≡ 0 → t ≡ with_file s file x.file → record { refusal = 0; state = t } ≡ called y.refusal s (with_file s file y.file)
  stores_accepted t z e =
      answers_accepted x.refusal y.refusal s (with_file s file y.file) t (ap (λ (z : FileChange). z.refusal) same) z
      (e ∙ ap (λ (z : FileChange). with_file s file z.file) same)
