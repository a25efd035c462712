-- `session_reply::turns::request_of` meets its contract, a case each. Assumes nothing.
use mathlib.Core.Path.{◌≡◌, refl, sym, ◌∙◌}
use mathlib.Core.Bool.{Bool}
use mathlib.Core.List.{List}
use Prim.Native.Nat.{ℕ}
use Rattle.file.specs.declared.File.{File}
use Rattle.channel.specs.declared.Channel.{Channel}
use Rattle.routines.specs.declared.Post.{Post}
use Rattle.session_frame.specs.declared.Frame.{Frame}
use Rattle.session_frame.specs.declared.Frame.TheVariants.{Malformed, Fresh, Open, Close, Ask, Report, Get, Put, Seal, Skip, Freeze, Thaw, Return, Running}
use Rattle.session_frame.specs.declared.AskFrame.{AskFrame}
use Rattle.session_frame.specs.declared.ReportFrame.{ReportFrame}
use Rattle.session_reply.specs.Turns.{unasked_change, request_of, request_area}
use Rattle.session_reply.proofs.turns.request_of.Goals as goal

-- every other frame
module _ (unsound : Bool) (m w : ℕ) (frozen : Bool) (f : File) (ch : Channel) (p : Post) (area words : List ℕ) where
  unrequested : (frame : Frame) → ((x : AskFrame) → frame ≡ Ask x → ⊥) → ((x : ReportFrame) → frame ≡ Report x → ⊥) → (request_of unsound m w frozen frame f ch p area words ≡ unasked_change f ch p) × (request_area unsound m w frame f ch area words ≡ area)
  unfolding request_of request_area
  unrequested Malformed n0 n1 = (refl, refl)
  unrequested (Fresh x) n0 n1 = (refl, refl)
  unrequested (Open x) n0 n1 = (refl, refl)
  unrequested (Close x) n0 n1 = (refl, refl)
  unrequested (Ask x) n0 n1 = absurd (n0 x refl)
  unrequested (Report x) n0 n1 = absurd (n1 x refl)
  unrequested (Get x) n0 n1 = (refl, refl)
  unrequested (Put x) n0 n1 = (refl, refl)
  unrequested (Seal x) n0 n1 = (refl, refl)
  unrequested (Skip x) n0 n1 = (refl, refl)
  unrequested Freeze n0 n1 = (refl, refl)
  unrequested Thaw n0 n1 = (refl, refl)
  unrequested Return n0 n1 = (refl, refl)
  unrequested Running n0 n1 = (refl, refl)

pub returns-in-Ask : goal.returns-in-Ask
unfolding request_of request_area
returns-in-Ask c = record { value = rw c.in-Ask.is c.asked.ensures; area_after = rw c.in-Ask.is }

pub returns-in-Report : goal.returns-in-Report
unfolding request_of request_area
returns-in-Report c = record { value = rw c.in-Report.is c.reported.ensures.value; area_after = rw c.in-Report.is c.reported.ensures.area_after }

pub returns-in_default : goal.returns-in_default
returns-in_default c = let r = unrequested c.args.unsound c.args.m c.args.w c.args.frozen c.args.f c.args.c c.args.p c.args.area.now c.args.words.now c.args.frame c.in_default.not-Ask c.in_default.not-Report in
    record { value = c.unasked.ensures ∙ sym r.0; area_after = sym r.1 }
