-- `simulator::result_of` meets its contract: a number of one byte, or minus one, fits. Assumes nothing.
use Rattle.simulator.proofs.Signs.{not_refused, refused_fits, refused_as}
use native.Mathlib.Omega.{arith}
use Rattle.simulator.proofs.result_of.Goals as goal

pub returns-then-refusal-eq0 : goal.returns-then-refusal-eq0
returns-then-refusal-eq0 c = let a = c.args in not_refused a.refusal a.value (omega arith) (omega arith) c.if-refusal-eq0.true

pub overflow_sub-result : goal.overflow_sub-result
overflow_sub-result c = let a = c.args in refused_fits a.refusal a.value (omega arith) (omega arith) c.if-refusal-eq0.false

pub returns : goal.returns
returns c = let a = c.args in refused_as a.refusal a.value (omega arith) (omega arith) c.if-refusal-eq0.false
