-- `session_reply::changes::got` meets its contract, by the inner form and whether the area is short. Assumes nothing.
use Rattle.session_reply.proofs.Done.{got_as}
use Rattle.session_reply.proofs.changes.got.Goals as goal

pub returns : goal.returns
returns c = got_as c.args.unsound c.args.m c.args.w c.args.f c.args.file c.args.area.now _ _ _ _ _ _ c.is_short-short.ensures c.get_on-x.ensures c.got_answer-told.ensures c.answer_or.ensures c.got_start.ensures c.got_count.ensures
