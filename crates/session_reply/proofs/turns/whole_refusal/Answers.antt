-- `session_reply::turns::whole_refusal` meets its contract, frame by frame. Assumes nothing.
use mathlib.Core.Path.{◌≡◌, refl, sym, ◌∙◌}
use Prim.Native.Nat.{ℕ}
use mathlib.Core.Bool.{Bool, cond}
use mathlib.Core.Logic.{◌⊎◌, inl, inr}
use Rattle.session_frame.specs.declared.Frame.{Frame}
use Rattle.session_frame.specs.declared.Frame.TheVariants.{Malformed, Fresh, Open, Close, Ask, Report, Get, Put, Seal, Skip, Freeze, Thaw, Return, Running}
use Rattle.session_frame.specs.declared.FreshFrame.{FreshFrame}
use Rattle.session_reply.specs.Turns.{whole_refusal}
use Rattle.session_reply.proofs.turns.whole_refusal.Goals as goal

-- every other frame
module _ (unsound : Bool) (n : ℕ) where
  malformed : (frame : Frame) → ((x : FreshFrame) → frame ≡ Fresh x → ⊥) → (frame ≡ Freeze → ⊥) → (frame ≡ Thaw → ⊥) → whole_refusal unsound n frame ≡ 1
  unfolding whole_refusal
  malformed Malformed n0 n1 n2 = refl
  malformed (Fresh x) n0 n1 n2 = absurd (n0 x refl)
  malformed (Open x) n0 n1 n2 = refl
  malformed (Close x) n0 n1 n2 = refl
  malformed (Ask x) n0 n1 n2 = refl
  malformed (Report x) n0 n1 n2 = refl
  malformed (Get x) n0 n1 n2 = refl
  malformed (Put x) n0 n1 n2 = refl
  malformed (Seal x) n0 n1 n2 = refl
  malformed (Skip x) n0 n1 n2 = refl
  malformed Freeze n0 n1 n2 = absurd (n1 refl)
  malformed Thaw n0 n1 n2 = absurd (n2 refl)
  malformed Return n0 n1 n2 = refl
  malformed Running n0 n1 n2 = refl

pub returns-in-Fresh : goal.returns-in-Fresh
unfolding whole_refusal
returns-in-Fresh c = rw c.in-Fresh.is c.start_refusal.ensures

paused : (unsound : Bool) (n : ℕ) (frame : Frame) → (frame ≡ Freeze) ⊎ (frame ≡ Thaw) → whole_refusal unsound n frame ≡ cond unsound 1 0
unfolding whole_refusal
paused unsound n frame (inl e) = rw e
paused unsound n frame (inr e) = rw e

pub returns-in-Freeze : goal.returns-in-Freeze
returns-in-Freeze c = c.row.ensures ∙ sym (paused c.args.unsound c.args.n c.args.f c.in-Freeze.is)

pub returns-in_default : goal.returns-in_default
returns-in_default c = sym (malformed c.args.unsound c.args.n c.args.f c.in_default.not-Fresh c.in_default.not-Freeze c.in_default.not-Thaw)
