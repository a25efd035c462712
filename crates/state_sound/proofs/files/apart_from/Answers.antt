-- `state_sound::apart_from` meets its contract, branch by branch, from the contract of `are_apart`. Assumes nothing.
use borrow.Author.Rules.{rules}
use mathlib.Core.Path.{refl, sym, ◌∙◌}
use Prim.Native.Nat.{◌≤◌, ◌<◌}
use native.Mathlib.Omega.{arith}
use lib.ListN.{length}
use Rattle.area.proofs.Walks.{all_hit, all_miss, all_done}
use Rattle.file.specs.Sizes.{closed_file}
use Rattle.state_sound.proofs.files.apart_from.Goals as goal

pub loop-i-init : goal.loop-i-init
loop-i-init c = (search rules, refl)

pub returns-then-not-are_apart : goal.returns-then-not-are_apart
returns-then-not-are_apart c = let h : c.loop-i.i < length c.args.files = omega arith in
    all_hit _ _ _ _ _ h c.loop-i.invariant.1 (sym c.are_apart.ensures ∙ c.if-not-are_apart.true)

pub loop-i-preserved : goal.loop-i-preserved
loop-i-preserved c = let h : c.loop-i.i < length c.args.files = omega arith in
    (c.loop-i.invariant.0, all_miss _ _ _ _ _ h c.loop-i.invariant.1 (sym c.are_apart.ensures ∙ c.if-not-are_apart.false))

pub returns : goal.returns
returns c = let h : length c.args.files ≤ c.loop-i.i = omega arith in
    all_done _ _ closed_file _ _ h c.loop-i.invariant.1
