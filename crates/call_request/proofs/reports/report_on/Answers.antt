-- `call_request::reports::report_on` meets its contract: what the report makes of the unit, put on the channel. Assumes nothing.
use mathlib.Core.Path.{◌≡◌, sym, ap, ◌∙◌}
use Rattle.channel.specs.declared.Unit.{Unit}
use Rattle.channel.specs.Units.{unit_at}
use Rattle.channel_turns.specs.Desks.{desk_of}
use Rattle.call_request.specs.declared.ReportMove.{ReportMove}
use Rattle.call_request.specs.Effects.{is_delivery}
use Rattle.call_request.specs.Moves.{report_moved, report_moved_area}
use Rattle.call_request.proofs.Moved.{report_from, report_from_lem, report_area, moved_room}
use Rattle.call_request.proofs.reports.report_on.Goals as goal

pub reported_file-requires : goal.reported_file-requires
reported_file-requires c = λ brings. moved_room c.args.wrong c.args.f _ _ c.args.unit c.args.outcome c.args.length c.args.w c.args.frozen c.args.area.now c.args.words.now (ap (λ (x : ReportMove). is_delivery x.effect) (sym c.report_moved-x.ensures.value) ∙ brings)

pub returns : goal.returns
returns c = let long = c.well_formed.1.1.0.1.1.0.1.0.1 in let is : c.report_moved-x.result ≡ report_moved c.args.wrong c.args.f (unit_at c.args.c c.args.unit) (desk_of c.args.c) c.args.unit c.args.outcome c.args.length c.args.w c.args.frozen c.args.area.now c.args.words.now = rw (← c.unit_of-y.ensures, ← c.desk_of-d.ensures) c.report_moved-x.ensures.value in record { value = rw (c.moved_to.ensures, c.reported_file.ensures) (ap (report_from c.args.f c.args.c c.args.unit _) is ∙ sym (report_from_lem c.args.wrong c.args.f c.args.c long c.args.unit c.args.outcome c.args.length c.args.w c.args.frozen c.args.area.now c.args.words.now)); area_after = c.report_moved-x.ensures.area_after ∙ ap (λ (y : Unit). report_moved_area c.args.wrong c.args.f y.turn c.args.unit c.args.outcome c.args.length c.args.w c.args.area.now c.args.words.now) c.unit_of-y.ensures ∙ sym (report_area c.args.wrong c.args.f c.args.c c.args.unit c.args.outcome c.args.length c.args.w c.args.area.now c.args.words.now) }
