-- `refused` meets its contract: its definition, of what its callees ensure. Assumes nothing.

use Rattle.call_request.proofs.reports.refused.Goals as goal

pub returns : goal.returns
returns c = rw (c.rest.ensures, c.not_checked.ensures)
