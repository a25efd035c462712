-- `session_reply::changes::reported_post` meets its contract, by whether the report answers a request that names a routine. Assumes nothing.
use mathlib.Core.Path.{sym, ◌∙◌}
use Rattle.session_reply.specs.Changes.{reported_post}
use Rattle.session_reply.proofs.changes.reported_post.Goals as goal

pub returns-then-is_named_answer : goal.returns-then-is_named_answer
unfolding reported_post
returns-then-is_named_answer c = rw (sym c.is_named_answer.ensures ∙ c.if-is_named_answer.true, c.nothing_due.ensures)

pub returns : goal.returns
unfolding reported_post
returns c = rw (sym c.is_named_answer.ensures ∙ c.if-is_named_answer.false)
