-- `call_request::blocks::reported_file` meets its contract, a case each. Assumes nothing.
use mathlib.Core.Path.{ap}
use Rattle.call_request.specs.Effects.{is_delivery}
use Rattle.call_request.specs.Report.{reported_file}
use Rattle.call_request.proofs.blocks.reported_file.Goals as goal

pub with_delivery-requires : goal.with_delivery-requires
with_delivery-requires c = c.requires (ap is_delivery c.in-Delivers.is)

pub returns-in-Delivers : goal.returns-in-Delivers
returns-in-Delivers c = rw c.in-Delivers.is c.with_delivery.ensures

pub returns-in-MeetsMark : goal.returns-in-MeetsMark
unfolding reported_file
returns-in-MeetsMark c = rw c.in-MeetsMark.is c.met_mark.ensures

pub returns-in-GivesBack : goal.returns-in-GivesBack
unfolding reported_file
returns-in-GivesBack c = rw c.in-GivesBack.is c.gave_back.ensures

pub returns-in-Sends : goal.returns-in-Sends
unfolding reported_file
returns-in-Sends c = rw c.in-Sends.is c.after_write.ensures

pub returns-in-Keeps : goal.returns-in-Keeps
unfolding reported_file
returns-in-Keeps c = rw c.in-Keeps.is
