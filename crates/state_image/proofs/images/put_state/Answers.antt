-- `state_image::images::put_state` meets its contract. Its own numbers, the channels, the files and the routines are put one after the other (`state_put`). Assumes nothing.
use Prim.Native.Nat.{ℕ}
use Rattle.area.specs.Parts.{pasted_in}
use Rattle.state_image.proofs.Joined.{state_put}
use mathlib.Core.List.{List}
use mathlib.Core.Path.{ap, ◌∙◌}
use native.Mathlib.Omega.{arith}
use Rattle.state_image.proofs.images.put_state.Goals as goal

pub returns : goal.returns
returns c = let a = c.args in state_put a.n a.s a.out.now _ _ _ _ (omega (arith, c.requires.1)) (c.put_bytes.ensures ∙ ap (λ (ys : List ℕ). pasted_in 0 ys a.out.now) c.state_row-own.ensures) c.put_channels.ensures c.put_files.ensures c.put_routines.ensures
