use Rattle.std.proofs.Common.{◌≡◌, ◌+◌, ◌%◌, ◌^◌, ◌<◌, ◌&&◌, drop}
use Rattle.area.specs.Lists.{all_of}
use Rattle.area.specs.Parts.{is_word}
use Rattle.area.proofs.Tall.{low36}
use Rattle.word.specs.Totals.{total}
use Rattle.word.proofs.sums.tallied.Given as goal

abbrev pub invariant-loop-word : goal.invariant-loop-word
invariant-loop-word l = (l.total < 2 ^ 64) × ((l.total + total (drop l.word-index l.words)) % 2 ^ 64 ≡ total l.words % 2 ^ 64) ×
    ((low36 l.any && all_of is_word (drop l.word-index l.words)) ≡ all_of is_word l.words)
