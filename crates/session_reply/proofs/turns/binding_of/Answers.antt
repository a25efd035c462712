-- `session_reply::turns::binding_of` meets its contract, a case each. Assumes nothing.
use mathlib.Core.Path.{◌≡◌, refl, sym, ◌∙◌}
use mathlib.Core.Bool.{Bool}
use mathlib.Core.List.{List}
use Prim.Native.Nat.{ℕ}
use Rattle.file.specs.declared.File.{File}
use Rattle.channel.specs.declared.Channel.{Channel}
use Rattle.session_reply.specs.Changes.{quiet_told}
use Rattle.session_frame.specs.declared.Frame.{Frame}
use Rattle.session_frame.specs.declared.Frame.TheVariants.{Malformed, Fresh, Open, Close, Ask, Report, Get, Put, Seal, Skip, Freeze, Thaw, Return, Running}
use Rattle.session_frame.specs.declared.OpenFrame.{OpenFrame}
use Rattle.session_reply.specs.Turns.{binding_of}
use Rattle.session_reply.proofs.turns.binding_of.Goals as goal

-- every other frame
module _ (unsound : Bool) (w free : ℕ) (files : List File) (f : File) (c : Channel) where
  unbound : (frame : Frame) → ((x : OpenFrame) → frame ≡ Open x → ⊥) → ((x : ℕ) → frame ≡ Close x → ⊥) → binding_of unsound w free files frame f c ≡ quiet_told 1 f
  unfolding binding_of
  unbound Malformed n0 n1 = refl
  unbound (Fresh x) n0 n1 = refl
  unbound (Open x) n0 n1 = absurd (n0 x refl)
  unbound (Close x) n0 n1 = absurd (n1 x refl)
  unbound (Ask x) n0 n1 = refl
  unbound (Report x) n0 n1 = refl
  unbound (Get x) n0 n1 = refl
  unbound (Put x) n0 n1 = refl
  unbound (Seal x) n0 n1 = refl
  unbound (Skip x) n0 n1 = refl
  unbound Freeze n0 n1 = refl
  unbound Thaw n0 n1 = refl
  unbound Return n0 n1 = refl
  unbound Running n0 n1 = refl

pub returns-in-Open : goal.returns-in-Open
unfolding binding_of
returns-in-Open c = rw c.in-Open.is c.opened.ensures

pub returns-in-Close : goal.returns-in-Close
unfolding binding_of
returns-in-Close c = rw c.in-Close.is c.closed.ensures

pub returns-in_default : goal.returns-in_default
returns-in_default c = c.quiet.ensures ∙ sym (unbound c.args.unsound c.args.w c.args.free c.args.files c.args.f c.args.c c.args.frame c.in_default.not-Open c.in_default.not-Close)
