-- `state_sound::channels_right` meets its contract, channel by channel, from the contract of `channel_right`. Assumes nothing.
use borrow.Author.Rules.{rules}
use mathlib.Core.Path.{refl, sym, ◌∙◌}
use Prim.Native.Nat.{◌≤◌, ◌<◌}
use native.Mathlib.Omega.{arith}
use lib.ListN.{length}
use Rattle.area.proofs.Numbered.{from_hit, from_miss, from_done}
use Rattle.state.specs.Places.{no_channel}
use Rattle.state_sound.proofs.channels.channels_right.Goals as goal

pub loop-i-init : goal.loop-i-init
loop-i-init c = (search rules, refl)

pub returns-then-not-channel_right : goal.returns-then-not-channel_right
returns-then-not-channel_right c = let h : c.loop-i.i < length c.args.channels = omega arith in
    from_hit _ _ _ _ _ h c.loop-i.invariant.1 (sym c.channel_right.ensures ∙ c.if-not-channel_right.true)

pub loop-i-preserved : goal.loop-i-preserved
loop-i-preserved c = let h : c.loop-i.i < length c.args.channels = omega arith in
    (c.loop-i.invariant.0, from_miss _ _ _ _ _ h c.loop-i.invariant.1 (sym c.channel_right.ensures ∙ c.if-not-channel_right.false))

pub returns : goal.returns
returns c = let h : length c.args.channels ≤ c.loop-i.i = omega arith in
    from_done _ _ no_channel _ _ h c.loop-i.invariant.1
