-- `simulator::plorrettix_start` meets its contract. By the size of the area. Assumes nothing.
use native.Mathlib.Omega.{arith}
use mathlib.Core.List.{[]}
use Rattle.simulator.specs.Calls.{start_call, refused_call}
use Rattle.simulator.proofs.Answers.{as_started, start_other, start_given}
use Rattle.simulator.proofs.plorrettix_start.Goals as goal

pub returns-then-state-ne-IMAGE : goal.returns-then-state-ne-IMAGE
returns-then-state-ne-IMAGE c = let both = as_started (start_call c.args.state.now) (refused_call 1 c.args.state.now []) (start_other c.args.state.now (λ e. omega (arith, e, c.if-state-ne-IMAGE))) in record { value = both.0; state_after = both.1 }

pub returns : goal.returns
returns c = let both = start_given c.args.state.now _ _ (omega (arith, c.if-state-ne-IMAGE)) c.before_start-s.ensures c.put_image.ensures in record { value = both.0; state_after = both.1 }
