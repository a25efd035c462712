-- `state_sound::all_apart` meets its contract, branch by branch, from the contract of `apart_from`. Assumes nothing.
use borrow.Author.Rules.{rules}
use mathlib.Core.Path.{refl, sym, ◌∙◌}
use Prim.Native.Nat.{◌≤◌, ◌<◌}
use native.Mathlib.Omega.{arith}
use lib.ListN.{length}
use Rattle.area.proofs.Walks.{pairs_hit, pairs_miss, pairs_done}
use Rattle.file.specs.Sizes.{closed_file}
use Rattle.state_sound.proofs.files.all_apart.Goals as goal

pub loop-i-init : goal.loop-i-init
loop-i-init c = (search rules, refl)

pub returns-then-not-apart_from : goal.returns-then-not-apart_from
returns-then-not-apart_from c = let h : c.loop-i.i < length c.args.files = omega arith in
    pairs_hit _ _ _ _ _ h c.loop-i.invariant.1 (sym c.apart_from.ensures ∙ c.if-not-apart_from.true)

pub loop-i-preserved : goal.loop-i-preserved
loop-i-preserved c = let h : c.loop-i.i < length c.args.files = omega arith in
    (c.loop-i.invariant.0, pairs_miss _ _ _ _ _ h c.loop-i.invariant.1 (sym c.apart_from.ensures ∙ c.if-not-apart_from.false))

pub returns : goal.returns
returns c = let h : length c.args.files ≤ c.loop-i.i = omega arith in
    pairs_done _ _ closed_file _ _ h c.loop-i.invariant.1
