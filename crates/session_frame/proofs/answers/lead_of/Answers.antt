-- `session_frame::answers::lead_of` meets its contract, case by case. Assumes nothing.
use mathlib.Core.Path.{sym, ap, ◌∙◌}
use Rattle.session_frame.specs.Leads.{lead_of}
use Rattle.session_frame.proofs.answers.lead_of.Goals as goal

pub returns-in-Refused : goal.returns-in-Refused
returns-in-Refused c = c.brief.ensures ∙ sym (ap lead_of c.in-Refused.is)

pub returns-in-Done : goal.returns-in-Done
returns-in-Done c = c.brief-in-Done.ensures ∙ sym (ap lead_of c.in-Done.is)

pub returns-in-Asked : goal.returns-in-Asked
returns-in-Asked c = c.brief-in-Asked.ensures ∙ sym (ap lead_of c.in-Asked.is)

pub returns-in-Reported : goal.returns-in-Reported
returns-in-Reported c = c.brief-in-Reported.ensures ∙ sym (ap lead_of c.in-Reported.is)

pub returns-in-Delivered : goal.returns-in-Delivered
returns-in-Delivered c = c.full.ensures ∙ sym (ap lead_of c.in-Delivered.is)

pub returns-in-Got : goal.returns-in-Got
returns-in-Got c = c.brief-in-Got.ensures ∙ sym (ap lead_of c.in-Got.is)

pub returns-in-GotError : goal.returns-in-GotError
returns-in-GotError c = c.full-in-GotError.ensures ∙ sym (ap lead_of c.in-GotError.is)

pub returns-in-Returned : goal.returns-in-Returned
returns-in-Returned c = c.returned.ensures ∙ sym (ap lead_of c.in-Returned.is)

pub returns-in-Runs : goal.returns-in-Runs
returns-in-Runs c = c.runs.ensures ∙ sym (ap lead_of c.in-Runs.is)
