-- What is left of the text is never more than at first.
use Rattle.std.specs.Prelude.{◌≤◌, length}
use Rattle.word_cases.proofs.Numbers.fill.Given as goal

abbrev pub invariant-loop-place : goal.invariant-loop-place
invariant-loop-place l = length l.self.rest.now ≤ length l.initial.self.rest.now
