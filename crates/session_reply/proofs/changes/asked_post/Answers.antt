-- `session_reply::changes::asked_post` meets its contract, by whether the ask is refused. Assumes nothing.
use borrow.Author.Tests.{ne_eqb}
use Rattle.session_reply.specs.Changes.{asked_post}
use Rattle.session_reply.proofs.changes.asked_post.Goals as goal

pub returns-then-refusal-ne0 : goal.returns-then-refusal-ne0
unfolding asked_post
returns-then-refusal-ne0 c = rw (ne_eqb c.args.refusal 0 c.if-refusal-ne0.true)

pub returns : goal.returns
unfolding asked_post
returns c = rw (c.if-refusal-ne0.false, c.due_of.ensures)
