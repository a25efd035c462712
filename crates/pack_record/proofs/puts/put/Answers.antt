-- `pack_record::put` meets its contract: the change of the one file is stored, or the call is refused. Assumes nothing.
use mathlib.Core.Path.{◌∙◌}
use Rattle.pack_record.proofs.OutputSteps.{put_area_lem, put_state}
use Rattle.pack_record.proofs.puts.put.Goals as goal

pub returns : goal.returns
returns c = let a = c.args in record {
  value = c.answer_of.ensures ∙ put_state a.s a.area.now a.file _ _ c.is_misused-c1.ensures c.file_at-f.ensures a.words.now c.put_on-x.result c.put_on-x.ensures.value;
  area_after = put_area_lem a.s a.area.now a.file _ _ c.is_misused-c1.ensures c.file_at-f.ensures a.words.now c.put_on-x.result c.put_on-x.ensures.value _ c.put_on-x.ensures.area_after;
}
