-- `session_reply::changes::running` meets its contract, by the inner form. Assumes nothing.
use Rattle.session_reply.proofs.Done.{running_as}
use Rattle.session_reply.proofs.changes.running.Goals as goal

pub returns : goal.returns
returns c = running_as c.args.unsound c.args.r _ _ c.running_on-x.ensures c.answer_or.ensures
