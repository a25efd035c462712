use mathlib.Core.Path.{◌≡◌}
use Prim.Native.Nat.{◌/◌}
use lib.ListN.{length}
use Rattle.area.specs.Parts.{paste}
use Rattle.session_frame.specs.Frames.{words_from}
use Rattle.session_frame.proofs.Laws.Words.{Fills}
use Rattle.session_frame.proofs.frames.words_into.Given as goal

abbrev pub invariant-loop-i : goal.invariant-loop-i
invariant-loop-i l = (l.n ≡ length l.line / 2) × (length l.room ≡ length l.initial.room)
    × Fills l.line l.room (paste 0 (words_from l.line l.start (length l.initial.room)) l.initial.room) l.at l.i (length l.initial.room) (length (words_from l.line l.start (length l.initial.room)))
