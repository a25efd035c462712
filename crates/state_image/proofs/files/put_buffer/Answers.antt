-- `state_image::files::put_buffer` meets its contract. Its row fits, so it is put whole. Assumes nothing.
use native.Mathlib.Omega.{arith}
use Rattle.area.proofs.Pastes.{paste_fitting}
use Rattle.state_image.specs.Files.{buffer_bytes}
use Rattle.state_image.proofs.files.put_buffer.Goals as goal

pub returns : goal.returns
returns c = rw (c.put_bytes.ensures, c.buffer_row-bytes.ensures, c.full_arrival-a.ensures, c.full_place-place.ensures, c.slot_words-words.ensures, c.slot_kind-kind.ensures) (paste_fitting c.args.at (buffer_bytes c.args.b) c.args.out.now (omega (arith, c.requires)))
