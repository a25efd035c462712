-- `session_reply::turns::binding_on` meets its contract. Numbers in range choose nothing; all others are as the callees found. Assumes nothing.
use Rattle.session_reply.proofs.Done.{binding_as, binding_within}
use Rattle.session_reply.specs.Places.{file_kept}
use Rattle.session_reply.proofs.turns.binding_on.Goals as goal

pub returns-then-i-j : goal.returns-then-i-j
returns-then-i-j c = binding_within c.args.frame c.args.i c.args.old _ c.file_or-f.ensures _ c.args.was c.channel_number-j.ensures c.if-i-j.true c.args.unsound c.args.w c.args.free c.args.files _ c.binding_of.ensures

pub returns : goal.returns
unfolding file_kept
returns c = binding_as c.args.frame c.args.i c.args.old _ c.file_or-f.ensures _ c.args.was _ c.channel_number-j.ensures c.channel_or-c.ensures c.args.unsound c.args.w c.args.free c.args.files _ _ c.binding_of-x.ensures c.kept-file.ensures
