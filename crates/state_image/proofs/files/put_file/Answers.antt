-- `state_image::files::put_file` meets its contract. Its own numbers and its buffers are put one after the other (`file_put`). Assumes nothing.
use native.Mathlib.Omega.{arith}
use mathlib.Core.Path.{ap, ◌∙◌}
use mathlib.Core.List.{List}
use Prim.Native.Nat.{ℕ}
use Rattle.area.specs.Parts.{pasted_in}
use Rattle.state_image.proofs.Joined.{file_put}
use Rattle.state_image.proofs.files.put_file.Goals as goal

pub returns : goal.returns
returns c = file_put c.args.at c.args.f c.args.out.now _ _ _ (omega (arith, c.requires)) (c.put_bytes.ensures ∙ ap (λ (ys : List ℕ). pasted_in c.args.at ys c.args.out.now) c.file_row-own.ensures) c.put_buffer.ensures c.put_buffer-2.ensures
