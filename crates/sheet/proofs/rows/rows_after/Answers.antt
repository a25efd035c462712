-- `sheet::rows::rows_after` meets its contract, from that of `row_after`. What is done and what is left give the whole. Assumes nothing.
use mathlib.Core.Path.{refl, ◌∙◌}
use native.Mathlib.Omega.{arith}
use lib.ListN.{length-set}
use Rattle.area.proofs.Maps.{map_step, map_done}
use Rattle.sheet.specs.Rows.{row_after}
use borrow.Author.Rules.{rules}
use Rattle.sheet.proofs.rows.rows_after.Goals as goal

pub loop-i-init : goal.loop-i-init
loop-i-init c = (search rules, refl)

pub loop-i-preserved : goal.loop-i-preserved
loop-i-preserved c = (length-set c.loop-i.rows c.loop-i.i _ ∙ c.loop-i.invariant.0, rw c.row_after.ensures (map_step (row_after c.args.e c.args.k) _ c.loop-i.rows c.loop-i.i _ (omega arith) c.loop-i.invariant.1))

pub returns : goal.returns
returns c = map_done (row_after c.args.e c.args.k) _ c.loop-i.rows c.loop-i.i (omega arith) c.loop-i.invariant.1
