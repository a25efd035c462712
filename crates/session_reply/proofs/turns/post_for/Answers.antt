-- `session_reply::turns::post_for` meets its contract, at the numbers of its channel and unit. Assumes nothing.
use Rattle.session_reply.proofs.Done.{post_as}
use Rattle.session_reply.proofs.turns.post_for.Goals as goal

pub returns : goal.returns
returns c = post_as c.args.frame c.args.i c.args.old _ c.file_or-f.ensures c.args.r _ _ c.channel_number-j.ensures c.unit_number-u.ensures _ c.post_at.ensures
