-- `planner::greedy::wanted` meets its contract: event by event, by the laws of `Rises`. Assumes nothing.
use mathlib.Core.Path.{sym, ap, ◌∙◌}
use native.Mathlib.Omega.{arith}
use Rattle.planner.specs.Greedy.{first_free}
use Rattle.planner.proofs.Rises.{wants_closing, wants_single, wants_double}
use borrow.Author.Rules.{rules}
use Rattle.planner.proofs.greedy.wanted.Goals as goal

pub returns-then-not-opens : goal.returns-then-not-opens
returns-then-not-opens c = let at-args = c.args in
    let at-opens = c.opens in
    (wants_closing at-args.owner at-args.e (sym at-opens.ensures ∙ c.if-not-opens.true), search rules)

pub returns-then-e-lt-DOUBLE : goal.returns-then-e-lt-DOUBLE
returns-then-e-lt-DOUBLE c = let at-args = c.args in
    let at-first-free = c.first_free-first in
    (wants_single at-args.owner at-args.e _ at-first-free.ensures.0 c.if-e-lt-DOUBLE.true, omega (arith, at-first-free.ensures.1))

pub returns : goal.returns
returns c = let at-args = c.args in
    let at-file-of = c.file_of-v in
    let at-first-free = c.first_free-first in
    let at-first-free2 = c.first_free-second in
    let at-taken = c.taken-one in
    let at-opens = c.opens in
    let at-if1 = c.if-not-opens in
    let at-if2 = c.if-e-lt-DOUBLE in (
      c.max.ensures ∙ wants_double at-args.owner at-args.e _ at-file-of.ensures.0 _ _ at-first-free.ensures.0 (at-first-free2.ensures.0 ∙ ap first_free at-taken.ensures) (sym at-opens.ensures ∙ at-if1.false) at-if2.false,
      omega (arith, at-first-free.ensures.1, at-first-free2.ensures.1, c.max.ensures),
    )
