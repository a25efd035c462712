-- What put and seal do on one file, step by step as their code goes, comes to their definitions. Assumes nothing.
use mathlib.Core.Path.{◌≡◌, sym, ap, ap₂, ◌∙◌}
use mathlib.Core.Bool.{Bool, true, false}
use mathlib.Core.List.{List}
use Prim.Native.Nat.{ℕ}
use borrow.Author.Tests.{ne_eqb}
use Rattle.file.specs.declared.File.{File}
use Rattle.file_output.specs.Puts.{added}
use Rattle.file_output.specs.Parts.{is_complete}
use Rattle.call_record.specs.Blocks.{sealed_area}
use Rattle.call_record.specs.Put.{put_refusal, filled_area, put_area, put_on_area}
use Rattle.call_record.specs.Seal.{seal_refusal, seal_on_area}

-- ---- put on one file

module _ (wrong : Bool) (f : File) (w : ℕ) (area words : List ℕ) (no : ℕ) (e : no ≡ put_refusal wrong f w area words) where
  pub put_refused : (no ≡ 0 → ⊥) → area ≡ put_on_area wrong f w area words
  unfolding put_on_area
  put_refused h = rw (← e, ne_eqb no 0 h)

  module _ (z : no ≡ 0) (g : File) (b : Bool) (filled : List ℕ) (ef : filled ≡ filled_area w f words area) (eg : g ≡ added f) (eb : b ≡ is_complete g) where
    -- the block is complete, and sealed at once
    pub put_complete : b ≡ true → (zs : List ℕ) → zs ≡ sealed_area w g filled → zs ≡ put_on_area wrong f w area words
    unfolding put_on_area put_area
    put_complete t zs ez =
        let c : is_complete (added f) ≡ true = sym (eb ∙ ap is_complete eg) ∙ t in
        rw (← e, z, c) (ez ∙ ap₂ (sealed_area w) eg ef)

    -- more words fit
    pub put_open : b ≡ false → filled ≡ put_on_area wrong f w area words
    unfolding put_on_area put_area
    put_open t =
        let c : is_complete (added f) ≡ false = sym (eb ∙ ap is_complete eg) ∙ t in
        rw (← e, z, c) ef

-- ---- seal on one file

module _ (wrong : Bool) (f : File) (w : ℕ) (area : List ℕ) (no : ℕ) (e : no ≡ seal_refusal wrong f w area) where
  pub seal_refused : (no ≡ 0 → ⊥) → area ≡ seal_on_area wrong f w area
  unfolding seal_on_area
  seal_refused h = rw (← e, ne_eqb no 0 h)

  pub seal_taken : no ≡ 0 → (zs : List ℕ) → zs ≡ sealed_area w f area → zs ≡ seal_on_area wrong f w area
  unfolding seal_on_area
  seal_taken z zs ez = rw (← e, z) ez
