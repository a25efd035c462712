-- It ends: each case moves on in the text.
use Rattle.std.specs.Prelude.{length}
use Rattle.word_cases.proofs.main.Given as goal

abbrev pub decreases-loop-numbers : goal.decreases-loop-numbers
decreases-loop-numbers l = length l.numbers.rest.now
