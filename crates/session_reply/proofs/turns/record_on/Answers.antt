-- `session_reply::turns::record_on` meets its contract. Numbers in range choose nothing; all others are as the callees found. Assumes nothing.
use Rattle.session_reply.proofs.Done.{record_as, record_area_lem, record_within, record_area_within}
use borrow.Author.Tests.{lt-ltb}
use Rattle.session_reply.specs.Places.{file_kept}
use Rattle.session_reply.proofs.turns.record_on.Goals as goal

pub returns-then-i-lt-FILES : goal.returns-then-i-lt-FILES
returns-then-i-lt-FILES c = record { value = record_within c.args.i c.args.old (lt-ltb c.args.i 16 c.if-i-lt-FILES.true) c.args.unsound c.args.m c.args.w c.args.frame c.args.area.now c.args.words.now _ c.record_of.ensures.value; area_after = record_area_within c.args.i c.args.old (lt-ltb c.args.i 16 c.if-i-lt-FILES.true) c.args.unsound c.args.m c.args.w c.args.frame c.args.area.now c.args.words.now _ c.record_of.ensures.area_after }

pub returns : goal.returns
unfolding file_kept
returns c = record { value = record_as c.args.frame c.args.i c.args.old _ c.file_or-f.ensures c.args.unsound c.args.m c.args.w c.args.area.now c.args.words.now _ _ c.record_of-x.ensures.value c.kept-file.ensures; area_after = record_area_lem c.args.frame c.args.i c.args.old _ c.file_or-f.ensures c.args.unsound c.args.m c.args.w c.args.area.now c.args.words.now _ c.record_of-x.ensures.area_after }
