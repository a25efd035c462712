-- `session_frame::frames::words_at` meets its contract, by whether there is a length. Assumes nothing.
use mathlib.Core.Path.{sym}
use Rattle.session_frame.proofs.Laws.Sizes.{words_plain, words_measured}
use Rattle.session_frame.proofs.frames.words_at.Goals as goal

pub returns-then-q-eq-NO_LENGTH : goal.returns-then-q-eq-NO_LENGTH
returns-then-q-eq-NO_LENGTH c = sym (words_plain c.args.q c.if-q-eq-NO_LENGTH.true)

pub returns : goal.returns
returns c = sym (words_measured c.args.q c.if-q-eq-NO_LENGTH.false)
