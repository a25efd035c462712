-- `session_reply::changes::quiet` meets its contract. Assumes nothing.
use mathlib.Core.Path.{ap}
use Rattle.session_frame.specs.declared.Answer.{Answer}
use Rattle.session_reply.proofs.changes.quiet.Goals as goal

pub returns : goal.returns
returns c = ap (λ (x : Answer). record { answer = x; start = 0; count = 0; file = c.args.f }) c.answer_or.ensures
