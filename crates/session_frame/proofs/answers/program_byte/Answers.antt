-- `session_frame::answers::program_byte` meets its contract, by whether it is the main program. Assumes nothing.
use mathlib.Core.Path.{sym, ◌∙◌}
use Rattle.session_frame.specs.Fields.{program_byte}
use Rattle.session_frame.proofs.answers.program_byte.Goals as goal

pub returns-then-is_main : goal.returns-then-is_main
unfolding program_byte
returns-then-is_main c = rw (sym c.is_main.ensures ∙ c.if-is_main.true)

pub returns : goal.returns
unfolding program_byte
returns c = rw (sym c.is_main.ensures ∙ c.if-is_main.false)
