-- What each call does, step by step as its code goes, comes to its definition. Assumes nothing.
use mathlib.Core.Path.{◌≡◌, ap, ap₂, ◌∙◌}
use mathlib.Core.Bool.{Bool, not, cond}
use mathlib.Core.List.{List}
use Prim.Native.Nat.{ℕ}
use borrow.Author.Tests.{ne_eqb}
use lib.Dec.{eqb}
use lib.ListN.{length}
use Rattle.file.specs.declared.File.{File}
use Rattle.file_input.specs.declared.Got.{Got}
use Rattle.file_input.specs.Histories.{shown}
use Rattle.state.specs.declared.State.{State}
use Rattle.state.specs.Places.{file_at}
use Rattle.state.specs.Stores.{with_file}
use Rattle.pack_record.specs.Misused.{misused}
use Rattle.call_record.specs.declared.GetChange.{GetChange}
use Rattle.pack_record.specs.declared.Getting.{Getting}
use Rattle.file.specs.declared.FileChange.{FileChange}
use Rattle.call_record.specs.Get.{get_on}
use Rattle.pack_record.specs.Gets.{get_change, get_by, get_words}
use Rattle.call_record.specs.Skip.{skip_on}
use Rattle.pack_record.specs.Skips.{skip_misused, skip_change, skip_by}
use Rattle.state.specs.Answers.{called}

-- ---- the change stored in the state, where the call is not refused

module _ (s : State) (file n : ℕ) (g : File) where
  get_kept : (a : Got) → (n ≡ 0 → ⊥) → ◌≡◌ {A = Getting} (record { refusal = n; got = a; state = s }) (record { refusal = n; got = a; state = cond (eqb n 0) (with_file s file g) s })
  get_kept a h = rw (ne_eqb n 0 h)

  get_stored : (a : Got) → n ≡ 0 → (t : State) → t ≡ with_file s file g
      → ◌≡◌ {A = Getting} (record { refusal = 0; got = a; state = t }) (record { refusal = n; got = a; state = cond (eqb n 0) (with_file s file g) s })
  get_stored a z t et = rw (z, et)

abbrev get_of : State → ℕ → GetChange → Getting
get_of s file c = record { refusal = c.refusal; got = c.got; state = cond (eqb c.refusal 0) (with_file s file c.file) s }

module _ (s : State) (area : List ℕ) (file : ℕ) (wrong : Bool) (f : File) (ew : wrong ≡ misused s (length area) file) (ef : f ≡ file_at s file)
    (x : GetChange) (ex : x ≡ get_on wrong f s.w area) where
  get_is : x ≡ get_change s area file
  get_is = ex ∙ ap₂ (λ (c : Bool) (g : File). get_on c g s.w area) ew ef

  pub get_state_kept : (x.refusal ≡ 0 → ⊥) → record { refusal = x.refusal; got = x.got; state = s } ≡ get_by s area file
  unfolding get_by
  get_state_kept h = get_kept s file x.refusal x.file x.got h ∙ ap (get_of s file) get_is

  pub get_state : x.refusal ≡ 0 → (t : State) → t ≡ with_file s file x.file → record { refusal = 0; got = x.got; state = t } ≡ get_by s area file
  unfolding get_by
  get_state z t et = get_stored s file x.refusal x.file x.got z t et ∙ ap (get_of s file) get_is

  pub get_shown : (ws : List ℕ) → ws ≡ shown area x.got → ws ≡ get_words s area file
  unfolding get_words get_by
  get_shown ws e = e ∙ ap (λ (y : GetChange). shown area y.got) get_is

module _ (s : State) (file : ℕ) (wrong : Bool) (f : File) (ew : wrong ≡ skip_misused s file) (ef : f ≡ file_at s file) (x : FileChange) (ex : x ≡ skip_on wrong f) where
  skip_is : x ≡ skip_change s file
  skip_is = ex ∙ ap₂ skip_on ew ef

  pub skip_state : called x.refusal s (with_file s file x.file) ≡ skip_by s file
  unfolding skip_by
  skip_state = ap (λ (y : FileChange). called y.refusal s (with_file s file y.file)) skip_is
