-- `state_sound::each_sound` meets its contract, branch by branch, from the contract of `file_sound`. Assumes nothing.
use mathlib.Core.Path.{refl, sym, ◌∙◌}
use Prim.Native.Nat.{◌≤◌, ◌<◌}
use native.Mathlib.Omega.{arith}
use lib.ListN.{length}
use Rattle.area.proofs.Walks.{all_hit, all_miss, all_done}
use Rattle.file.specs.Sizes.{closed_file}
use Rattle.state_sound.proofs.files.each_sound.Goals as goal

pub loop-f-init : goal.loop-f-init
loop-f-init c = refl

pub returns-then-not-file_sound : goal.returns-then-not-file_sound
returns-then-not-file_sound c = let h : c.loop-f.f-index < length c.args.files = omega arith in
    all_hit _ _ _ _ _ h c.loop-f.invariant (sym c.file_sound.ensures ∙ c.if-not-file_sound.true)

pub loop-f-preserved : goal.loop-f-preserved
loop-f-preserved c = let h : c.loop-f.f-index < length c.args.files = omega arith in
    all_miss _ _ _ _ _ h c.loop-f.invariant (sym c.file_sound.ensures ∙ c.if-not-file_sound.false)

pub returns : goal.returns
returns c = let h : length c.args.files ≤ c.loop-f.f-index = omega arith in
    all_done _ _ closed_file _ _ h c.loop-f.invariant
