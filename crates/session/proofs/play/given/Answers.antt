-- `session::play::given` meets its contract, a case each. Assumes nothing.
use mathlib.Core.Path.{◌≡◌, refl, sym, ap, ◌∙◌}
use mathlib.Core.List.{List, []}
use Rattle.session_frame.specs.declared.Frame.{Frame}
use Rattle.session_frame.specs.declared.Frame.TheVariants.{Malformed, Fresh, Open, Close, Ask, Report, Get, Put, Seal, Skip, Freeze, Thaw, Return, Running}
use Rattle.session_frame.specs.declared.ReportFrame.{ReportFrame}
use Rattle.session_frame.specs.declared.PutFrame.{PutFrame}
use Prim.Native.Nat.{ℕ}
use lib.ListN.{length}
use Rattle.area.specs.Parts.{paste}
use Rattle.area.proofs.Pastes.{paste_nothing}
use Rattle.session_frame.specs.Frames.{words_from}
use Rattle.session.specs.Rooms.{given_in}
use Rattle.session.proofs.play.given.Goals as goal

-- every other frame brings no words
wordless : (frame : Frame) (line : List ℕ) (room : ℕ) → ((x : ReportFrame) → frame ≡ Report x → ⊥) → ((x : PutFrame) → frame ≡ Put x → ⊥) → given_in frame line room ≡ []
unfolding given_in
wordless Malformed line room r p = refl
wordless (Fresh x) line room r p = refl
wordless (Open x) line room r p = refl
wordless (Close x) line room r p = refl
wordless (Ask x) line room r p = refl
wordless (Report x) line room r p = absurd (r x refl)
wordless (Get x) line room r p = refl
wordless (Put x) line room r p = absurd (p x refl)
wordless (Seal x) line room r p = refl
wordless (Skip x) line room r p = refl
wordless Freeze line room r p = refl
wordless Thaw line room r p = refl
wordless Return line room r p = refl
wordless Running line room r p = refl

pub returns-in-Report : goal.returns-in-Report
unfolding given_in
returns-in-Report c = let a = c.args in
    let start = c.words_at.ensures in
    let words = c.words_into.ensures in record { value = rw c.in-Report.is (words.value ∙ ap (λ (k : ℕ). length (words_from a.line.now k (length a.room.now))) start); room_after = rw c.in-Report.is (words.room_after ∙ ap (λ (k : ℕ). paste 0 (words_from a.line.now k (length a.room.now)) a.room.now) start) }

pub returns-in-Put : goal.returns-in-Put
unfolding given_in
returns-in-Put c = record { value = rw c.in-Put.is c.words_into-in-Put.ensures.value; room_after = rw c.in-Put.is c.words_into-in-Put.ensures.room_after }

pub returns-in_default : goal.returns-in_default
returns-in_default c =
    let none = wordless c.args.f c.args.line.now (length c.args.room.now) c.in_default.not-Report c.in_default.not-Put in
    record { value = rw none; room_after = rw none (sym (paste_nothing 0 c.args.room.now)) }
