use Rattle.std.proofs.Common.{◌≡◌, ◌^◌, ◌<◌}
use Rattle.std.specs.Slice.Iter.{chunks_rest, chunks_size}
use Rattle.area.specs.Lists.{all_of}
use Rattle.area.specs.Parts.{is_word}
use Rattle.word.specs.Sums.{sum_from, logical_sum}
use Rattle.word.proofs.sums.logical_sum.Given as goal

abbrev pub invariant-loop-stretch : goal.invariant-loop-stretch
invariant-loop-stretch l =
    goal.iterator-loop-stretch.can_next l.stretch-iterator
    × goal.iterator-loop-stretch.is_finite l.stretch-iterator
    × (chunks_size l.stretch-iterator ≡ 2 ^ 20)
    × (l.sum < 2 ^ 36)
    × (all_of is_word (chunks_rest l.stretch-iterator) ≡ all_of is_word l.words)
    × (sum_from l.sum (chunks_rest l.stretch-iterator) ≡ logical_sum l.words)
