-- `session_reply::changes::sealed` meets its contract, by the inner form and whether the area is short. Assumes nothing.
use Rattle.session_reply.proofs.Done.{sealed_as, sealed_area_lem}
use Rattle.session_reply.proofs.changes.sealed.Goals as goal

pub returns : goal.returns
returns c = record { value = sealed_as c.args.unsound c.args.m c.args.w c.args.f c.args.file c.args.area.now _ _ _ c.is_short-short.ensures c.seal_on-x.ensures.value c.quiet.ensures; area_after = sealed_area_lem c.args.unsound c.args.m c.args.w c.args.f c.args.file c.args.area.now _ _ c.is_short-short.ensures c.seal_on-x.ensures.area_after }
