-- `simulator::plorrettix_check` meets its contract: it is that of `block_bytes::check_bytes`. Assumes nothing.
use Rattle.block_bytes.specs.declared.Verdict.{Verdict}
use Rattle.simulator.proofs.Signs.{result_back}
use Rattle.simulator.specs.Calls.{result_of}
use mathlib.Core.Path.{ap, ◌∙◌}
use native.Mathlib.Omega.{arith}
use Rattle.simulator.proofs.plorrettix_check.Goals as goal

pub returns : goal.returns
returns c = record { value = result_back c.check_bytes-v.result.refusal c.check_bytes-v.result.error (omega arith) (omega arith) _ c.result_of.ensures ∙ ap (λ (v : Verdict). result_of v.refusal v.error) c.check_bytes-v.ensures.value; found_after = c.check_bytes-v.ensures.found_after }
