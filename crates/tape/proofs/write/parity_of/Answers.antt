-- `tape::write::parity_of` meets its contract, by the two parities. Assumes nothing.
use Rattle.tape.specs.Characters.{parity_of}
use borrow.Author.Rules.{rules}
use Rattle.tape.proofs.write.parity_of.Goals as goal

pub returns-then-bcd : goal.returns-then-bcd
unfolding parity_of
returns-then-bcd c = (rw (c.if-bcd.true, c.ones_of-n.ensures.0), search rules)

pub returns-else-bcd : goal.returns-else-bcd
unfolding parity_of
returns-else-bcd c = (rw (c.if-bcd.false, c.ones_of-n.ensures.0), search rules)
