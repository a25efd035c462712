-- `session_reply::changes::answer_or` meets its contract, by whether the call is refused. Assumes nothing.
use mathlib.Core.Path.{sym}
use borrow.Author.Tests.{eq-eqb, ne_eqb}
use Rattle.area.proofs.Marks.{cond_true, cond_false}
use Rattle.session_reply.proofs.changes.answer_or.Goals as goal

pub returns-then-refusal-eq0 : goal.returns-then-refusal-eq0
returns-then-refusal-eq0 c = sym (cond_true _ _ (eq-eqb c.args.refusal 0 c.if-refusal-eq0.true))

pub returns : goal.returns
returns c = sym (cond_false _ _ (ne_eqb c.args.refusal 0 c.if-refusal-eq0.false))
