-- `sheet::calls::played` meets its contract, from those of its callees. Assumes nothing.
use Rattle.sheet.proofs.Steps.{played_is}
use Rattle.sheet.proofs.calls.played.Goals as goal

pub returns : goal.returns
returns c = let both = played_is c.args.d _ c.args.line.now _ c.frame_of-f.ensures _ _ _ _ _ c.answer_line-r.ensures.state_value c.answer_line-r.ensures.length_value c.answer_line-r.ensures.area_after c.answer_line-r.ensures.words_after c.answer_line-r.ensures.out_after _ c.answer_line-r.ensures.line_unchanged _ c.front.ensures _ c.event_of-e.ensures _ c.followed.ensures in record { value = both.0; area_after = both.1.0; words_after = both.1.1.0; out_after = both.1.1.1.0; line_unchanged = both.1.1.1.1 }
