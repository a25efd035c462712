-- `session_frame::frames::value` meets its contract, by the three cases of a character. Assumes nothing.
use borrow.Author.Rules.{rules}
use mathlib.Core.Path.{sym}
use native.Mathlib.Omega.{arith}
use Rattle.session_frame.proofs.Laws.Values.{value_decimal, value_letter, value_other, decimal_range, letter_range}
use Rattle.session_frame.proofs.frames.value.Goals as goal

pub overflow_sub-result : goal.overflow_sub-result
overflow_sub-result c = (decimal_range c.args.c c.if-c.true).0

pub returns-then-c : goal.returns-then-c
returns-then-c c = (sym (value_decimal c.args.c c.if-c.true), omega (arith, decimal_range c.args.c c.if-c.true))

pub overflow_sub-result-then-c-2 : goal.overflow_sub-result-then-c-2
overflow_sub-result-then-c-2 c = omega (arith, letter_range c.args.c c.if-c-2.true)

pub returns-then-c-2 : goal.returns-then-c-2
returns-then-c-2 c = let a = c.args in
    let range = letter_range a.c c.if-c-2.true in
    (omega (arith, value_letter a.c c.if-c.false c.if-c-2.true, range), omega (arith, range))

pub returns : goal.returns
returns c = (sym (value_other c.args.c c.if-c.false c.if-c-2.false), search rules)
