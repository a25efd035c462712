-- `simulator::plorrettix_seal` meets its contract: it is that of `block_bytes::seal_bytes`. Assumes nothing.
use Prim.Native.Nat.{ℕ}
use Rattle.simulator.proofs.Signs.{result_back}
use Rattle.simulator.specs.Calls.{result_of}
use mathlib.Core.Path.{ap, ◌∙◌}
use native.Mathlib.Omega.{arith}
use Rattle.simulator.proofs.plorrettix_seal.Goals as goal

pub returns : goal.returns
returns c = record { value = result_back c.seal_bytes-refusal.result 0 (omega arith) (omega arith) _ c.result_of.ensures ∙ ap (λ (n : ℕ). result_of n 0) c.seal_bytes-refusal.ensures.value; block_after = c.seal_bytes-refusal.ensures.block_after }
