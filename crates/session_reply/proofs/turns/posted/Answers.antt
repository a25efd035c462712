-- `session_reply::turns::posted` meets its contract, by whether the scheduler looks. Assumes nothing.
use mathlib.Core.Path.{sym, ap, ◌∙◌}
use Rattle.routines.specs.declared.Routines.{Routines}
use Rattle.routines.specs.Changes.{looked_in}
use Rattle.session_reply.proofs.Done.{with_post_as}
use Rattle.session_reply.proofs.Posting.{posted_look, posted_plain}
use Rattle.session_reply.proofs.turns.posted.Goals as goal

pub returns-then-looks : goal.returns-then-looks
returns-then-looks c = c.looked.ensures ∙ ap (λ (t : Routines). looked_in t c.args.frozen) (with_post_as c.args.frame c.args.i c.args.old _ c.file_or-f.ensures c.args.r _ _ c.channel_number-j.ensures c.unit_number-u.ensures _ c.args.p c.with_post-t.ensures) ∙ sym (posted_look c.args.r c.args.frozen _ _ c.args.p c.args.looks c.if-looks.true)

pub returns : goal.returns
returns c = with_post_as c.args.frame c.args.i c.args.old _ c.file_or-f.ensures c.args.r _ _ c.channel_number-j.ensures c.unit_number-u.ensures _ c.args.p c.with_post-t.ensures ∙ sym (posted_plain c.args.r c.args.frozen _ _ c.args.p c.args.looks c.if-looks.false)
