-- `session_reply::changes::opened` meets its contract, by what its callees found. Assumes nothing.
use Rattle.session_reply.proofs.Done.{opened_as}
use Rattle.session_reply.proofs.changes.opened.Goals as goal

pub returns : goal.returns
returns c = opened_as c.args.unsound c.args.w c.args.free c.args.files c.args.f c.args.c c.args.q _ _ _ _ _ c.is_bound-bound.ensures c.free_in-found.ensures c.wish_of-wish.ensures c.open_on-x.ensures c.quiet.ensures
