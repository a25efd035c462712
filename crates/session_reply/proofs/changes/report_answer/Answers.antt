-- `session_reply::changes::report_answer` meets its contract, by whether a block is delivered. Assumes nothing.
use mathlib.Core.Path.{sym, ap}
use Rattle.session_reply.specs.Replies.{report_answer}
use Rattle.session_reply.proofs.changes.report_answer.Goals as goal
use Rattle.std.specs.declared.option.Option.{Option}
use Rattle.word.specs.declared.Checked.{Checked}

pub returns-in-None : goal.returns-in-None
returns-in-None c = sym (ap (λ (d : Option Checked). report_answer c.args.res d c.args.working) c.in-None.is)

pub returns-in-Some : goal.returns-in-Some
returns-in-Some c = sym (ap (λ (d : Option Checked). report_answer c.args.res d c.args.working) c.in-Some.is)
