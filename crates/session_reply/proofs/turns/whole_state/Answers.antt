-- `session_reply::turns::whole_state` meets its contract, frame by frame. Assumes nothing.
use mathlib.Core.Path.{◌≡◌, refl, sym}
use Rattle.state.specs.declared.State.{State}
use Rattle.session_frame.specs.declared.Frame.{Frame}
use Rattle.session_frame.specs.declared.Frame.TheVariants.{Malformed, Fresh, Open, Close, Ask, Report, Get, Put, Seal, Skip, Freeze, Thaw, Return, Running}
use Rattle.session_frame.specs.declared.FreshFrame.{FreshFrame}
use Rattle.session_reply.specs.Turns.{whole_state}
use Rattle.session_reply.proofs.turns.whole_state.Goals as goal

-- every other frame
module _ (s : State) where
  same : (frame : Frame) → ((x : FreshFrame) → frame ≡ Fresh x → ⊥) → (frame ≡ Freeze → ⊥) → (frame ≡ Thaw → ⊥) → whole_state s frame ≡ s
  unfolding whole_state
  same Malformed n0 n1 n2 = refl
  same (Fresh x) n0 n1 n2 = absurd (n0 x refl)
  same (Open x) n0 n1 n2 = refl
  same (Close x) n0 n1 n2 = refl
  same (Ask x) n0 n1 n2 = refl
  same (Report x) n0 n1 n2 = refl
  same (Get x) n0 n1 n2 = refl
  same (Put x) n0 n1 n2 = refl
  same (Seal x) n0 n1 n2 = refl
  same (Skip x) n0 n1 n2 = refl
  same Freeze n0 n1 n2 = absurd (n1 refl)
  same Thaw n0 n1 n2 = absurd (n2 refl)
  same Return n0 n1 n2 = refl
  same Running n0 n1 n2 = refl

pub returns-in-Fresh : goal.returns-in-Fresh
unfolding whole_state
returns-in-Fresh c = rw c.in-Fresh.is c.started.ensures

pub returns-in-Freeze : goal.returns-in-Freeze
unfolding whole_state
returns-in-Freeze c = rw c.in-Freeze.is c.frozen_state.ensures

pub returns-in-Thaw : goal.returns-in-Thaw
unfolding whole_state
returns-in-Thaw c = rw c.in-Thaw.is c.thawed_state.ensures

pub returns-in_default : goal.returns-in_default
returns-in_default c = sym (same c.args.s c.args.f c.in_default.not-Fresh c.in_default.not-Freeze c.in_default.not-Thaw)
