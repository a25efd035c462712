-- `session_reply::changes::filled` meets its contract, by the inner form and whether the area is short. Assumes nothing.
use Rattle.session_reply.proofs.Done.{filled_as, filled_area_lem}
use Rattle.session_reply.proofs.changes.filled.Goals as goal

pub returns : goal.returns
returns c = record { value = filled_as c.args.unsound c.args.m c.args.w c.args.f c.args.file c.args.area.now c.args.words.now _ _ _ c.is_short-short.ensures c.put_on-x.ensures.value c.quiet.ensures; area_after = filled_area_lem c.args.unsound c.args.m c.args.w c.args.f c.args.file c.args.area.now c.args.words.now _ _ c.is_short-short.ensures c.put_on-x.ensures.area_after }
