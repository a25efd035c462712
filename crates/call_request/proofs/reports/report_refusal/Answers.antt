-- `call_request::reports::report_refusal` meets its contract, from the contracts of its callees, a row at a time. Assumes nothing.
use Rattle.area.specs.Refusals.{lowest}
use Rattle.call_request.proofs.reports.report_refusal.Goals as goal

pub returns : goal.returns
unfolding lowest
returns c = simp (c.row-5.ensures, c.row-4.ensures, c.row-3.ensures, c.row-2.ensures, c.row.ensures, c.length_wrong-long.ensures, c.takes_no_words-silent.ensures, c.refusal_number-number.ensures, c.is_delivery-brings.ensures)
