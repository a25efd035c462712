-- `pack_request::calls::report` meets its contract: the file and the channel are looked up, and the change is stored. Assumes nothing.
use mathlib.Core.Path.{◌∙◌}
use Rattle.pack_request.proofs.Wholes.{report_whole, report_area}
use Rattle.pack_request.proofs.calls.report.Goals as goal

pub returns : goal.returns
returns c = let a = c.args in record { value = report_whole a.s a.area.now a.channel a.unit a.outcome a.length a.words.now _ _ _ _ _ c.file_of-i.ensures c.file_at-f.ensures c.channel_at-c.ensures c.is_sound-whole.ensures c.area_short-short.ensures _ _ _ c.report_on-x.ensures.value c.reported_routines-routines.ensures c.changed_state.ensures; area_after = c.report_on-x.ensures.area_after ∙ report_area a.s a.area.now a.channel a.unit a.outcome a.length a.words.now _ _ _ _ _ c.file_of-i.ensures c.file_at-f.ensures c.channel_at-c.ensures c.is_sound-whole.ensures c.area_short-short.ensures }
