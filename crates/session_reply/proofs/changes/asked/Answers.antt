-- `session_reply::changes::asked` meets its contract, by the inner form. Assumes nothing.
use Rattle.session_reply.proofs.Done.{asked_as}
use Rattle.session_reply.proofs.changes.asked.Goals as goal

pub returns : goal.returns
returns c = asked_as c.args.unsound c.args.frozen c.args.f c.args.c c.args.p c.args.q _ _ _ _ c.is_due-waits.ensures c.ask_on-x.ensures c.answer_or.ensures c.asked_post.ensures
