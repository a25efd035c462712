-- `pack_routine::running_on` meets its contract: refused, or what runs. Assumes nothing.
use mathlib.Core.Path.{sym, ◌∙◌}
use Rattle.area.specs.Refusals.{lowest}
use Rattle.pack_routine.specs.Ons.{running_rows}
use Rattle.pack_routine.proofs.OnLaws.{running_off, running_done}
use Rattle.pack_routine.proofs.ons.running_on.Goals as goal

pub returns-then-no-ne0 : goal.returns-then-no-ne0
unfolding lowest running_rows
returns-then-no-ne0 c = let a = c.args in
    c.refused.ensures ∙ sym (running_off a.wrong a.r _ c.row-no.ensures c.if-no-ne0.true)

pub returns : goal.returns
unfolding lowest running_rows
returns c = let a = c.args in
    sym (running_done a.wrong a.r _ c.row-no.ensures c.if-no-ne0.false)
