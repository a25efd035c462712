-- What each call does, step by step as its code goes, comes to its definition. Assumes nothing.
use mathlib.Core.Path.{◌≡◌, ap, ap₂, ◌∙◌}
use mathlib.Core.Bool.{Bool, not}
use mathlib.Core.List.{List}
use Prim.Native.Nat.{ℕ}
use lib.ListN.{length}
use Rattle.file.specs.declared.File.{File}
use Rattle.state.specs.declared.State.{State}
use Rattle.state.specs.Places.{file_at}
use Rattle.state.specs.Stores.{with_file}
use Rattle.pack_record.specs.Misused.{misused}
use Rattle.file.specs.declared.FileChange.{FileChange}
use Rattle.call_record.specs.Put.{put_on, put_on_area}
use Rattle.pack_record.specs.Puts.{put_change, put_by, put_by_area}
use Rattle.call_record.specs.Seal.{seal_on, seal_on_area}
use Rattle.pack_record.specs.Seals.{seal_change, seal_by, seal_by_area}
use Rattle.state.specs.Answers.{called}

-- ---- the change stored in the state, where the call is not refused

module _ (s : State) (area : List ℕ) (file : ℕ) (wrong : Bool) (f : File) (ew : wrong ≡ misused s (length area) file) (ef : f ≡ file_at s file) where
  module _ (words : List ℕ) (x : FileChange) (ex : x ≡ put_on wrong f s.w area words) where
    put_is : x ≡ put_change s area file words
    put_is = ex ∙ ap₂ (λ (c : Bool) (g : File). put_on c g s.w area words) ew ef

    pub put_area_lem : (zs : List ℕ) → zs ≡ put_on_area wrong f s.w area words → zs ≡ put_by_area s area file words
    unfolding put_by_area
    put_area_lem zs ez = ez ∙ ap₂ (λ (c : Bool) (g : File). put_on_area c g s.w area words) ew ef

    pub put_state : called x.refusal s (with_file s file x.file) ≡ put_by s area file words
    unfolding put_by
    put_state = ap (λ (y : FileChange). called y.refusal s (with_file s file y.file)) put_is

  module _ (x : FileChange) (ex : x ≡ seal_on wrong f s.w area) where
    seal_is : x ≡ seal_change s area file
    seal_is = ex ∙ ap₂ (λ (c : Bool) (g : File). seal_on c g s.w area) ew ef

    pub seal_area : (zs : List ℕ) → zs ≡ seal_on_area wrong f s.w area → zs ≡ seal_by_area s area file
    unfolding seal_by_area
    seal_area zs ez = ez ∙ ap₂ (λ (c : Bool) (g : File). seal_on_area c g s.w area) ew ef

    pub seal_state : called x.refusal s (with_file s file x.file) ≡ seal_by s area file
    unfolding seal_by
    seal_state = ap (λ (y : FileChange). called y.refusal s (with_file s file y.file)) seal_is
