-- `state_image::units::put_channel` meets its contract. Its own numbers and its units are put one after the other (`channel_put`). Assumes nothing.
use native.Mathlib.Omega.{arith}
use mathlib.Core.Path.{ap, ◌∙◌}
use mathlib.Core.List.{List}
use Prim.Native.Nat.{ℕ}
use Rattle.area.specs.Parts.{pasted_in}
use Rattle.state_image.proofs.Joined.{channel_put}
use Rattle.state_image.proofs.units.put_channel.Goals as goal

pub returns : goal.returns
returns c = channel_put c.args.n c.args.at c.args.c c.args.out.now _ _ (omega (arith, c.requires)) (c.put_bytes.ensures ∙ ap (λ (ys : List ℕ). pasted_in c.args.at ys c.args.out.now) c.channel_row-own.ensures) c.put_units.ensures
