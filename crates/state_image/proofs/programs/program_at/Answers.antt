-- `state_image::programs::program_at` meets its contract, byte by byte. Assumes nothing.
use lib.Seq.{get_or-drop}
use native.Mathlib.Nat.{add-zero}
use Rattle.state_image.proofs.programs.program_at.Goals as goal

pub returns : goal.returns
returns c = simp (get_or-drop, add-zero)
