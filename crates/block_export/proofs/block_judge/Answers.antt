-- `block_export::block_judge` meets its contract, from the contract of `block::judge`. Assumes nothing.
use mathlib.Core.Path.{ap}
use Prim.Native.Nat.{◌+◌, ◌*◌}
use Rattle.block.specs.declared.blocks.Judged.{Judged}
use Rattle.block_export.proofs.block_judge.Goals as goal

pub returns : goal.returns
returns c = ap (λ (j : Judged). j.refusal * 256 + j.found.error) c.judge-j.ensures
