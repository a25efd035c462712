use mathlib.Core.Path.{◌≡◌}
use Prim.Native.Nat.{◌*◌}
use lib.ListN.{length}
use Rattle.area.specs.Parts.{paste}
use Rattle.session_frame.specs.Fields.{words_of}
use Rattle.block_bytes.proofs.Bringing.{Brings}
use Rattle.block_bytes.proofs.bytes.words_in.Given as goal

abbrev pub invariant-loop-i : goal.invariant-loop-i
invariant-loop-i l = (length l.room ≡ length l.initial.room) × Brings l.bytes l.room (paste 0 (words_of l.bytes) l.initial.room) (l.i * 5) l.i
