use mathlib.Core.Path.{◌≡◌}
use Prim.Native.Nat.{◌*◌, ◌≤◌}
use lib.ListN.{length, drop}
use Rattle.area.specs.Parts.{paste}
use Rattle.session_frame.specs.Digits.{byte_digits, concat_map}
use Rattle.session_frame.proofs.answers.write_lead.Given as goal

abbrev pub invariant-loop-byte : goal.invariant-loop-byte
invariant-loop-byte l = (l.to ≡ 2 * l.byte-index) × (length l.out ≡ length l.initial.out) × (2 * length l.bytes ≤ length l.initial.out)
    × (paste l.to (concat_map byte_digits (drop l.byte-index l.bytes)) l.out ≡ paste 0 (concat_map byte_digits l.bytes) l.initial.out)
