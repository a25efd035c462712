use Rattle.tape.proofs.Laws.Words.{Brought}
use Rattle.tape.proofs.read.block_words.Given as goal

abbrev pub invariant-loop-i : goal.invariant-loop-i
invariant-loop-i l = Brought l.image l.initial.area l.place l.n l.at l.area l.i
