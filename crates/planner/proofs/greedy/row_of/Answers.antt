-- `planner::greedy::row_of` meets its contract: for a single and a double opening, by the laws of `Rises`. Assumes nothing.
use mathlib.Core.Path.{ap, ◌∙◌}
use Rattle.planner.specs.Greedy.{first_free}
use Rattle.planner.proofs.Rises.{row_single, row_double}
use Rattle.planner.proofs.greedy.row_of.Goals as goal

pub returns-then-e-lt-DOUBLE : goal.returns-then-e-lt-DOUBLE
returns-then-e-lt-DOUBLE c = let at-args = c.args in
    let at-file-of = c.file_of-file in
    let at-first-free = c.first_free-first in
    row_single at-args.owner at-args.e _ at-file-of.ensures.0 _ at-first-free.ensures.0 c.if-e-lt-DOUBLE.true

pub returns : goal.returns
returns c = let at-args = c.args in
    let at-file-of = c.file_of-file in
    let at-first-free = c.first_free-first in
    let at-taken = c.taken-one in
    let at-if1 = c.if-e-lt-DOUBLE in
    row_double at-args.owner at-args.e _ at-file-of.ensures.0 _ _ at-first-free.ensures.0 (c.first_free-second.ensures.0 ∙ ap first_free at-taken.ensures) at-if1.false
