-- `session_reply::turns::unit_number` meets its contract, a case each. Assumes nothing.

use Rattle.session_reply.proofs.turns.unit_number.Goals as goal

pub returns-in-Open : goal.returns-in-Open
returns-in-Open c = rw c.in-Open.is

pub returns-in-Report : goal.returns-in-Report
returns-in-Report c = rw c.in-Report.is
