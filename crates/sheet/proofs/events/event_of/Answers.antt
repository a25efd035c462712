-- `sheet::events::event_of` meets its contract, a case each. Assumes nothing.
use mathlib.Core.Path.{◌≡◌, refl, sym, ◌∙◌, ap}
use mathlib.Core.List.{List}
use Prim.Native.Nat.{ℕ}
use Rattle.session_frame.specs.declared.Frame.{Frame}
use Rattle.session_frame.specs.declared.Frame.TheVariants.{Malformed, Fresh, Open, Close, Ask, Report, Get, Put, Seal, Skip, Freeze, Thaw, Return, Running}
use Rattle.session_frame.specs.declared.FreshFrame.{FreshFrame}
use Rattle.session_frame.specs.declared.AskFrame.{AskFrame}
use Rattle.session_frame.specs.declared.ReportFrame.{ReportFrame}
use Rattle.state.specs.declared.State.{State}
use mathlib.Core.Bool.{Bool}
use Rattle.sheet.specs.Events.{no_event, start_event, event_of}
use Rattle.sheet.proofs.events.event_of.Goals as goal

-- every other frame
module _ (s : State) (text : List ℕ) where
  plain : (frame : Frame) → ((x : FreshFrame) → frame ≡ Fresh x → ⊥) → ((x : AskFrame) → frame ≡ Ask x → ⊥) → ((x : ReportFrame) → frame ≡ Report x → ⊥) → event_of s frame text ≡ no_event
  plain Malformed n0 n1 n2 = refl
  plain (Fresh x) n0 n1 n2 = absurd (n0 x refl)
  plain (Open x) n0 n1 n2 = refl
  plain (Close x) n0 n1 n2 = refl
  plain (Ask x) n0 n1 n2 = absurd (n1 x refl)
  plain (Report x) n0 n1 n2 = absurd (n2 x refl)
  plain (Get x) n0 n1 n2 = refl
  plain (Put x) n0 n1 n2 = refl
  plain (Seal x) n0 n1 n2 = refl
  plain (Skip x) n0 n1 n2 = refl
  plain Freeze n0 n1 n2 = refl
  plain Thaw n0 n1 n2 = refl
  plain Return n0 n1 n2 = refl
  plain Running n0 n1 n2 = refl

pub returns-in-Fresh : goal.returns-in-Fresh
returns-in-Fresh c = rw c.in-Fresh.is (c.start_event.ensures ∙ ap (λ (b : Bool). start_event b) c.is_pair-accepted.ensures)

pub returns-in-Ask : goal.returns-in-Ask
returns-in-Ask c = rw (c.in-Ask.is, sym c.is_pair-accepted.ensures) c.ask_event.ensures

pub returns-in-Report : goal.returns-in-Report
returns-in-Report c = rw (c.in-Report.is, sym c.is_pair-accepted.ensures, sym c.is_repeated-repeated.ensures) c.report_event.ensures

pub returns-in_default : goal.returns-in_default
returns-in_default c = c.no_event.ensures ∙ sym (plain c.args.s c.args.text.now c.args.f c.in_default.not-Fresh c.in_default.not-Ask c.in_default.not-Report)
