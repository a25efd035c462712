use mathlib.Core.Path.{◌≡◌}
use Prim.Native.Nat.{◌+◌, ◌*◌, ◌≤◌}
use lib.ListN.{length, drop}
use Rattle.area.specs.Parts.{paste}
use Rattle.session_frame.specs.Digits.{concat_map}
use Rattle.session_frame.specs.Fields.{word_digits}
use Rattle.session_frame.proofs.answers.put_words.Given as goal

abbrev pub invariant-loop-word : goal.invariant-loop-word
invariant-loop-word l = (l.to ≡ l.at + 10 * l.word-index) × (length l.out ≡ length l.initial.out) × (l.at + 10 * length l.words ≤ length l.initial.out)
    × (paste l.to (concat_map word_digits (drop l.word-index l.words)) l.out ≡ paste l.at (concat_map word_digits l.words) l.initial.out)
