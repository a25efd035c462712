-- `session::slow::new_talk` meets its contract, because its parts do. Assumes nothing.
use mathlib.Core.Path.{ap₂}
use mathlib.Core.Bool.{false}
use Rattle.session_line.specs.declared.Line.{Line}
use Rattle.state.specs.declared.State.{State}
use Rattle.session.specs.Talks.{talk_with}
use Rattle.session.proofs.slow.new_talk.Goals as goal

pub returns : goal.returns
returns c = ap₂ (λ (s : State) (l : Line). talk_with s l false) c.before_start.ensures c.no_line.ensures
