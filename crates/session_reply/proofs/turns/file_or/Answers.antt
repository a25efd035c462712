-- `session_reply::turns::file_or` meets its contract, branch by branch. Assumes nothing.
use mathlib.Core.Path.{sym, ◌∙◌}
use borrow.Author.Tests.{lt-ltb, le-ltb}
use Rattle.area.proofs.Marks.{cond_true, cond_false}
use Rattle.session_reply.specs.Places.{file_or}
use Rattle.session_reply.proofs.turns.file_or.Goals as goal

pub returns-then-i-lt-FILES : goal.returns-then-i-lt-FILES
unfolding file_or
returns-then-i-lt-FILES c = sym (cond_true _ _ (lt-ltb c.args.i 16 c.if-i-lt-FILES.true))

pub returns : goal.returns
unfolding file_or
returns c = c.closed_file.ensures ∙ sym (cond_false _ _ (le-ltb c.args.i 16 c.if-i-lt-FILES.false))
