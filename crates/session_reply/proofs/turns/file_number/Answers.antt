-- `session_reply::turns::file_number` meets its contract, a case each. Assumes nothing.

use Rattle.session_reply.proofs.turns.file_number.Goals as goal

pub returns-in-Open : goal.returns-in-Open
returns-in-Open c = rw c.in-Open.is

pub returns-in-Ask : goal.returns-in-Ask
returns-in-Ask c = rw c.in-Ask.is

pub returns-in-Report : goal.returns-in-Report
returns-in-Report c = rw c.in-Report.is c.file_of.ensures
