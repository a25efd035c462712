-- `session_reply::turns::request_on` meets its contract. Numbers in range choose nothing; all others are as the callees found. Assumes nothing.
use Rattle.session_reply.proofs.Done.{request_as, request_area_lem, request_within, request_area_within}
use Rattle.session_reply.specs.Places.{file_kept, channel_kept}
use Rattle.session_reply.proofs.turns.request_on.Goals as goal

pub returns-then-i-j : goal.returns-then-i-j
returns-then-i-j c = record { value = request_within c.args.frame c.args.i c.args.old _ c.file_or-f.ensures _ c.args.was c.channel_number-j.ensures c.if-i-j.true c.args.unsound c.args.m c.args.w c.args.frozen c.args.p c.args.area.now c.args.words.now _ c.request_of.ensures.value; area_after = request_area_within c.args.frame c.args.i c.args.old _ c.file_or-f.ensures _ c.args.was c.channel_number-j.ensures c.if-i-j.true c.args.unsound c.args.m c.args.w c.args.frozen c.args.p c.args.area.now c.args.words.now _ c.request_of.ensures.area_after }

pub returns : goal.returns
unfolding file_kept channel_kept
returns c = record { value = request_as c.args.frame c.args.i c.args.old _ c.file_or-f.ensures _ c.args.was _ c.channel_number-j.ensures c.channel_or-c.ensures c.args.unsound c.args.m c.args.w c.args.frozen c.args.p c.args.area.now c.args.words.now _ _ _ c.request_of-x.ensures.value c.kept-file.ensures c.kept-channel.ensures; area_after = request_area_lem c.args.frame c.args.i c.args.old _ c.file_or-f.ensures _ c.args.was _ c.channel_number-j.ensures c.channel_or-c.ensures c.args.unsound c.args.m c.args.w c.args.frozen c.args.p c.args.area.now c.args.words.now _ c.request_of-x.ensures.area_after }
