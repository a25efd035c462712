-- `pack_record::seal` meets its contract: the change of the one file is stored, or the call is refused. Assumes nothing.
use mathlib.Core.Path.{◌∙◌}
use Rattle.pack_record.proofs.OutputSteps.{seal_area, seal_state}
use Rattle.pack_record.proofs.seals.seal.Goals as goal

pub returns : goal.returns
returns c = let a = c.args in record {
  value = c.answer_of.ensures ∙ seal_state a.s a.area.now a.file _ _ c.is_misused-c1.ensures c.file_at-f.ensures c.seal_on-x.result c.seal_on-x.ensures.value;
  area_after = seal_area a.s a.area.now a.file _ _ c.is_misused-c1.ensures c.file_at-f.ensures c.seal_on-x.result c.seal_on-x.ensures.value _ c.seal_on-x.ensures.area_after;
}
