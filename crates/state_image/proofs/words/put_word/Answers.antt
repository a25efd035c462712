-- `state_image::words::put_word` meets its contract. Its bytes fit, so they are put whole. Assumes nothing.
use native.Mathlib.Omega.{arith}
use Rattle.area.proofs.Pastes.{paste_fitting}
use Rattle.codec.specs.Rows.{eight_bytes}
use Rattle.state_image.proofs.words.put_word.Goals as goal

pub returns : goal.returns
returns c = rw (c.put_bytes.ensures, c.word_bytes-bytes.ensures) (paste_fitting c.args.at (eight_bytes c.args.x) c.args.out.now (omega (arith, c.requires)))
