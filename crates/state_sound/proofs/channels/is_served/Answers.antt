-- `state_sound::is_served` meets its contract, branch by branch, from the contract of `serves`. Assumes nothing.
use mathlib.Core.Path.{refl, sym, ◌∙◌}
use Prim.Native.Nat.{◌≤◌, ◌<◌}
use native.Mathlib.Omega.{arith}
use lib.ListN.{length}
use Rattle.area.proofs.Walks.{any_hit, any_miss, any_done}
use Rattle.file.specs.Sizes.{closed_file}
use Rattle.pool.specs.Serving.{serves}
use Rattle.state_sound.proofs.channels.is_served.Goals as goal

pub loop-f-init : goal.loop-f-init
loop-f-init c = refl

pub returns-then-serves : goal.returns-then-serves
returns-then-serves c = let h : c.loop-f.f-index < length c.args.files = omega arith in
    any_hit (serves c.args.number c.args.unit) _ closed_file _ _ h c.loop-f.invariant (sym c.serves.ensures ∙ c.if-serves.true)

pub loop-f-preserved : goal.loop-f-preserved
loop-f-preserved c = let h : c.loop-f.f-index < length c.args.files = omega arith in
    any_miss (serves c.args.number c.args.unit) _ closed_file _ _ h c.loop-f.invariant (sym c.serves.ensures ∙ c.if-serves.false)

pub returns : goal.returns
returns c = let h : length c.args.files ≤ c.loop-f.f-index = omega arith in
    any_done (serves c.args.number c.args.unit) _ closed_file _ _ h c.loop-f.invariant
