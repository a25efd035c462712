-- `length_wrong` meets its contract: its definition, of what its callee ensures.
-- Assumes nothing.
use Rattle.call_request.specs.Report.{length_wrong}
use Rattle.call_request.proofs.reports.length_wrong.Goals as goal

pub returns : goal.returns
unfolding length_wrong
returns c = rw c.takes_no_words-silent.ensures
