-- `session_reply::changes::reported` meets its contract, by the inner form and whether the area is short. Assumes nothing.
use Rattle.session_reply.proofs.Done.{reported_as, reported_area_lem}
use mathlib.Core.Path.{ap, ◌∙◌}
use Rattle.session_reply.specs.Replies.{answer_or}
use Rattle.session_reply.proofs.changes.reported.Goals as goal

pub returns : goal.returns
returns c = record { value = reported_as c.args.unsound c.args.m c.args.w c.args.frozen c.args.f c.args.c c.args.p c.args.q c.args.area.now c.args.words.now _ _ _ _ _ c.is_short-short.ensures c.report_on-x.ensures.value (c.answer_or.ensures ∙ ap (answer_or c.report_on-x.result.refusal) c.report_answer-told.ensures) c.reported_post.ensures c.is_named_answer.ensures; area_after = reported_area_lem c.args.unsound c.args.m c.args.w c.args.f c.args.c c.args.q c.args.area.now c.args.words.now _ _ c.is_short-short.ensures c.report_on-x.ensures.area_after }
