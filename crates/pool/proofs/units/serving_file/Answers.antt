-- `pool::serving_file` meets its contract, branch by branch, from the contract of `serves`. Assumes nothing.
use borrow.Author.Rules.{rules}
use mathlib.Core.Path.{refl, sym, ◌∙◌}
use Rattle.area.proofs.Marks.{first_hit, first_miss, first_done}
use Rattle.pool.specs.Free.{file_count}
use Rattle.pool.specs.Serving.{serving_file}
use Rattle.pool.proofs.units.serving_file.Goals as goal

pub loop-i-init : goal.loop-i-init
unfolding serving_file
loop-i-init c = (search rules, refl)

pub returns-then-serves : goal.returns-then-serves
returns-then-serves c = first_hit _ file_count _ _ c.loop-i-test.true c.loop-i.invariant.1 (sym c.serves.ensures ∙ c.if-serves.true)

pub loop-i-preserved : goal.loop-i-preserved
loop-i-preserved c = (c.loop-i.invariant.0, first_miss _ file_count _ _ c.loop-i-test.true c.loop-i.invariant.1 (sym c.serves.ensures ∙ c.if-serves.false))

pub returns : goal.returns
returns c = first_done _ file_count _ _ c.loop-i-test.false c.loop-i.invariant.1
