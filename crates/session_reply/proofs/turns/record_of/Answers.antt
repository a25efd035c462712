-- `session_reply::turns::record_of` meets its contract, a case each. Assumes nothing.
use mathlib.Core.Path.{◌≡◌, refl, sym, ◌∙◌}
use mathlib.Core.Bool.{Bool}
use mathlib.Core.List.{List}
use Prim.Native.Nat.{ℕ}
use Rattle.file.specs.declared.File.{File}
use Rattle.session_reply.specs.Changes.{quiet_told}
use Rattle.session_frame.specs.declared.Frame.{Frame}
use Rattle.session_frame.specs.declared.Frame.TheVariants.{Malformed, Fresh, Open, Close, Ask, Report, Get, Put, Seal, Skip, Freeze, Thaw, Return, Running}
use Rattle.session_frame.specs.declared.PutFrame.{PutFrame}
use Rattle.session_reply.specs.Turns.{record_of, record_area}
use Rattle.session_reply.proofs.turns.record_of.Goals as goal

-- every other frame
module _ (unsound : Bool) (m w : ℕ) (f : File) (area words : List ℕ) where
  unrecorded : (frame : Frame) → ((x : ℕ) → frame ≡ Get x → ⊥) → ((x : PutFrame) → frame ≡ Put x → ⊥) → ((x : ℕ) → frame ≡ Seal x → ⊥) → ((x : ℕ) → frame ≡ Skip x → ⊥) → (record_of unsound m w frame f area words ≡ quiet_told 1 f) × (record_area unsound m w frame f area words ≡ area)
  unfolding record_of record_area
  unrecorded Malformed n0 n1 n2 n3 = (refl, refl)
  unrecorded (Fresh x) n0 n1 n2 n3 = (refl, refl)
  unrecorded (Open x) n0 n1 n2 n3 = (refl, refl)
  unrecorded (Close x) n0 n1 n2 n3 = (refl, refl)
  unrecorded (Ask x) n0 n1 n2 n3 = (refl, refl)
  unrecorded (Report x) n0 n1 n2 n3 = (refl, refl)
  unrecorded (Get x) n0 n1 n2 n3 = absurd (n0 x refl)
  unrecorded (Put x) n0 n1 n2 n3 = absurd (n1 x refl)
  unrecorded (Seal x) n0 n1 n2 n3 = absurd (n2 x refl)
  unrecorded (Skip x) n0 n1 n2 n3 = absurd (n3 x refl)
  unrecorded Freeze n0 n1 n2 n3 = (refl, refl)
  unrecorded Thaw n0 n1 n2 n3 = (refl, refl)
  unrecorded Return n0 n1 n2 n3 = (refl, refl)
  unrecorded Running n0 n1 n2 n3 = (refl, refl)

pub returns-in-Get : goal.returns-in-Get
unfolding record_of record_area
returns-in-Get c = record { value = rw c.in-Get.is c.got.ensures; area_after = rw c.in-Get.is }

pub returns-in-Put : goal.returns-in-Put
unfolding record_of record_area
returns-in-Put c = record { value = rw c.in-Put.is c.filled.ensures.value; area_after = rw c.in-Put.is c.filled.ensures.area_after }

pub returns-in-Seal : goal.returns-in-Seal
unfolding record_of record_area
returns-in-Seal c = record { value = rw c.in-Seal.is c.sealed.ensures.value; area_after = rw c.in-Seal.is c.sealed.ensures.area_after }

pub returns-in-Skip : goal.returns-in-Skip
unfolding record_of record_area
returns-in-Skip c = record { value = rw c.in-Skip.is c.skipped.ensures; area_after = rw c.in-Skip.is }

pub returns-in_default : goal.returns-in_default
returns-in_default c = let r = unrecorded c.args.unsound c.args.m c.args.w c.args.f c.args.area.now c.args.words.now c.args.frame c.in_default.not-Get c.in_default.not-Put c.in_default.not-Seal c.in_default.not-Skip in
    record { value = c.quiet.ensures ∙ sym r.0; area_after = sym r.1 }
