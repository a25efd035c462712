-- `session_frame::answers::returned` meets its contract, byte by byte. Assumes nothing.
use mathlib.Core.Path.{◌≡◌, refl}
use mathlib.Core.Bool.{Bool, true, false, cond}
use mir.Val.{bool_byte}
use Rattle.session_frame.proofs.answers.returned.Goals as goal

flag : (b : Bool) → bool_byte b ≡ cond b 1 0
flag true = refl
flag false = refl

pub returns : goal.returns
returns c = rw (c.from-entered.ensures, flag c.args.entered, c.program_byte-channel.ensures, c.program_byte-unit.ensures, c.program_byte-routine.ensures)
