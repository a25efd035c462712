-- `session_reply::changes::is_named_answer` meets its contract, from what its callees found. Assumes nothing.
use Rattle.session_reply.specs.Changes.{is_named_answer}
use Rattle.session_reply.proofs.changes.is_named_answer.Goals as goal

pub returns : goal.returns
unfolding is_named_answer
returns c = rw (c.answers_request.ensures, c.is_due.ensures)
