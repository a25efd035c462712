-- `planner::greedy::owners_after` meets its contract: event by event, by the laws of `Rises`. Assumes nothing.
use mathlib.Core.Path.{sym, ap, ◌∙◌}
use Rattle.planner.specs.Greedy.{taken}
use Rattle.planner.proofs.Rises.{after_closing, after_single, after_double}
use Rattle.planner.proofs.greedy.owners_after.Goals as goal

pub returns-then-not-opens : goal.returns-then-not-opens
returns-then-not-opens c = let at-args = c.args in
    let at-file-of = c.file_of-v in
    let at-opens = c.opens in
    let at-if1 = c.if-not-opens in
    c.freed.ensures ∙ after_closing at-args.owner at-args.e _ at-file-of.ensures.0 (sym at-opens.ensures ∙ at-if1.true)

pub returns-then-e-lt-DOUBLE : goal.returns-then-e-lt-DOUBLE
returns-then-e-lt-DOUBLE c = let at-taken = c.taken-one in
    let at-args = c.args in
    let at-file-of = c.file_of-v in
    at-taken.ensures ∙ after_single at-args.owner at-args.e _ at-file-of.ensures.0 c.if-e-lt-DOUBLE.true

pub returns : goal.returns
returns c = let at-taken = c.taken-one in
    let at-args = c.args in
    let at-file-of = c.file_of-v in
    let at-opens = c.opens in
    let at-if1 = c.if-not-opens in
    let at-if2 = c.if-e-lt-DOUBLE in
    c.taken.ensures
    ∙ (ap (taken _) at-taken.ensures ∙ after_double at-args.owner at-args.e _ at-file-of.ensures.0 (sym at-opens.ensures ∙ at-if1.false) at-if2.false)
