-- `channel::fresh` meets its contract: the units before i are as the mask says, and with the rest of the mask they give the whole.
-- Assumes nothing.
use mathlib.Core.Path.{◌∙◌, ap}
use mathlib.Core.List.{List}
use native.Mathlib.Omega.{arith}
use lib.ListN.{length-set}
use Rattle.channel.specs.declared.Unit.{Unit}
use Rattle.channel.specs.Units.{unit_count, fresh_with, fresh_of}
use Rattle.channel.proofs.Laws.Units.{fresh_step, fresh_done}
use Rattle.channel.proofs.units.fresh.Goals as goal

pub loop-i-preserved : goal.loop-i-preserved
loop-i-preserved c = let x = c in (
  length-set x.loop-i.units x.loop-i.i _ ∙ x.loop-i.invariant.0,
  rw c.idle_unit.ensures
      (fresh_step x.args.mask unit_count x.loop-i.units _ x.loop-i.i x.loop-i.invariant.0 (omega arith) x.loop-i.invariant.1),
)

pub returns : goal.returns
unfolding fresh_of fresh_with
returns c = ap (λ (us : List Unit). record { units = us; mark = 0; urgent = 0 })
    (fresh_done c.args.mask unit_count c.loop-i.units _ c.loop-i.i c.loop-i.invariant.0 (omega arith) c.loop-i.invariant.1)
