-- `session_reply::changes::got_answer` meets its contract, by whether it is an error, from the contract of `got_number`. Assumes nothing.
use mathlib.Core.Path.{◌≡◌, refl, sym, ap, ◌∙◌}
use Rattle.word.specs.declared.Checked.{Checked}
use Rattle.file_input.specs.declared.Got.{Got}
use Rattle.file_input.specs.declared.Got.TheVariants.{Record, Leftover, Error, End, Nothing}
use Rattle.file_input.specs.Gets.{got_number}
use Rattle.session_frame.specs.declared.Answer.TheVariants as answer
use Rattle.session_reply.specs.Replies.{got_answer}
use Rattle.session_reply.proofs.changes.got_answer.Goals as goal

-- all but an error
plain : (g : Got) → ((x : Checked) → g ≡ Error x → ⊥) → got_answer g ≡ answer.Got (got_number g)
plain (Record start n) e = refl
plain (Leftover start n) e = refl
plain (Error x) e = absurd (e x refl)
plain End e = refl
plain Nothing e = refl

pub returns-in-Error : goal.returns-in-Error
returns-in-Error c = simp (c.in-Error.is, c.got_number-number.ensures)

pub returns-in_default : goal.returns-in_default
returns-in_default c = ap answer.Got c.got_number-number.ensures ∙ sym (plain c.args.g c.in_default.not-Error)
