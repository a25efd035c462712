-- What get does on one file, step by step as their code goes, comes to their definitions. Assumes nothing.
use mathlib.Core.Path.{◌≡◌, ap, ◌∙◌}
use mathlib.Core.Bool.{Bool}
use mathlib.Core.List.{List}
use Prim.Native.Nat.{ℕ}
use borrow.Author.Tests.{ne_eqb}
use Rattle.file.specs.declared.File.{File}
use Rattle.file_input.specs.declared.Got.{Got}
use Rattle.file_input.specs.declared.Finding.{Finding}
use Rattle.file_input.specs.Gets.{after_get, get_from}
use Rattle.call_record.specs.Get.{get_refusal, no_answer, get_on}

-- ---- get on one file

module _ (wrong : Bool) (f : File) (w : ℕ) (area : List ℕ) (x : Finding) (ex : x ≡ get_from w f) (no : ℕ) (e : no ≡ get_refusal wrong f x.got area) where
  refusal_is : no ≡ get_refusal wrong f (get_from w f).got area
  refusal_is = e ∙ ap (λ (y : Finding). get_refusal wrong f y.got area) ex

  pub get_refused : (no ≡ 0 → ⊥) → (no ≡ (get_on wrong f w area).refusal) × (no_answer ≡ (get_on wrong f w area).got)
  unfolding get_on
  get_refused h = (refusal_is, rw (← refusal_is, ne_eqb no 0 h))

  pub get_taken : no ≡ 0 → (no ≡ (get_on wrong f w area).refusal) × (x.got ≡ (get_on wrong f w area).got)
  unfolding get_on
  get_taken z = (refusal_is, ap (λ (y : Finding). y.got) ex ∙ rw (← refusal_is, z))

-- with the file after it
module _ (wrong : Bool) (f : File) (w : ℕ) (area : List ℕ) (no : ℕ) (g : Got) (e : no ≡ (get_on wrong f w area).refusal) (eg : g ≡ (get_on wrong f w area).got) where
  pub get_keeps : (no ≡ 0 → ⊥) → record { refusal = no; got = g; file = f } ≡ get_on wrong f w area
  unfolding get_on
  get_keeps h =
      let n = ne_eqb no 0 h in
      rw (eg, ← e, n)

  pub get_changes : no ≡ 0 → (after : File) → after ≡ after_get f → record { refusal = no; got = g; file = after } ≡ get_on wrong f w area
  unfolding get_on get_from after_get
  get_changes z after ea = rw (eg, ea, ← e, z)
