-- `session_reply::turns::index_in` meets its contract, branch by branch. Assumes nothing.
use borrow.Author.Rules.{rules}
use mathlib.Core.Path.{sym}
use borrow.Author.Tests.{lt-ltb, le-ltb}
use Rattle.area.proofs.Marks.{cond_true, cond_false}
use Rattle.session_reply.specs.Places.{place_of}
use Rattle.session_reply.proofs.turns.index_in.Goals as goal

pub returns-then-i-n : goal.returns-then-i-n
unfolding place_of
returns-then-i-n c = (sym (cond_true _ _ (lt-ltb c.args.i c.args.n c.if-i-n.true)), search rules)

pub returns : goal.returns
unfolding place_of
returns c = (sym (cond_false _ _ (le-ltb c.args.i c.args.n c.if-i-n.false)), search rules)
