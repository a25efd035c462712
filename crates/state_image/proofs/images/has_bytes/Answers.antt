-- `state_image::images::has_bytes` meets its contract. The state is put into a room of its size, which is then compared. Assumes nothing.
use mathlib.Core.Path.{ap}
use mathlib.Core.List.{List}
use Prim.Native.Nat.{ℕ}
use lib.ListN.{length-replicate}
use Rattle.channel.specs.Units.{unit_count}
use Rattle.codec.specs.Codecs.{same}
use Rattle.state_image.specs.Images.{state_size}
use Rattle.state_image.proofs.Joined.{state_alone}
use Rattle.state_image.proofs.images.has_bytes.Goals as goal

pub returns : goal.returns
returns c = rw (c.are_same.ensures, c.put_state.ensures) (ap (λ (l : List ℕ). same l c.args.b.now) (state_alone unit_count c.args.s _ (length-replicate {A = ℕ} (state_size unit_count) 0)))
