use Rattle.tape.proofs.Laws.Writes.{Put}
use Rattle.tape.proofs.write.write_words.Given as goal

abbrev pub invariant-loop-i : goal.invariant-loop-i
invariant-loop-i l = Put l.initial.area l.at l.bcd l.words l.area l.i
