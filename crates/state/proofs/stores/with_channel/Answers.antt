-- `state::with_channel` meets its contract, branch by branch. Assumes nothing.
use mathlib.Core.Path.{◌≡◌, refl, sym}
use lib.ListN.{length}
use native.Mathlib.Omega.{arith}
use Rattle.state.specs.Places.{channel_count}
use Rattle.state.proofs.Stored.{with_channel_beyond}
use Rattle.state.specs.Stores.{with_channel}
use mathlib.Core.Path.{refl}
use Rattle.state.proofs.stores.with_channel.Goals as goal

pub returns-then-c-ge-CHANNELS : goal.returns-then-c-ge-CHANNELS
returns-then-c-ge-CHANNELS c = let long : length c.args.s.channels ≡ channel_count = c.well_formed.0.1.1.1.1.1.0.1.0.1 in
    sym (with_channel_beyond c.args.s c.args.c c.args.x (omega arith))

pub returns : goal.returns
unfolding with_channel
returns c = refl
