-- `session_frame::frames::is_text` meets its contract, by whether the line is too long. Assumes nothing.
use mathlib.Core.Path.{sym}
use Rattle.session_frame.proofs.Laws.Sizes.{text_long, text_short}
use Rattle.session_frame.proofs.frames.is_text.Goals as goal

pub returns-then-n-gt-LONGEST : goal.returns-then-n-gt-LONGEST
returns-then-n-gt-LONGEST c = sym (text_long c.args.line.now c.if-n-gt-LONGEST.true)

pub returns : goal.returns
returns c = rw c.all_digits.ensures (sym (text_short c.args.line.now c.if-n-gt-LONGEST.false))
