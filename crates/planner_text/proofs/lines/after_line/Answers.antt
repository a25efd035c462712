-- `planner_text::lines::after_line` meets its contract: with a line feed and without. Assumes nothing.
use native.Mathlib.Omega.{arith}
use Rattle.planner_text.proofs.Steps.{after_some, after_none}
use Rattle.planner_text.proofs.lines.after_line.Goals as goal

pub returns-then-n-left : goal.returns-then-n-left
returns-then-n-left c = let at-args = c.args in
    let at-up-to = c.up_to-n in
    (after_some at-args.text.now at-args.at _ at-up-to.ensures.0, omega arith, omega arith)

pub returns : goal.returns
returns c = let at-args = c.args in
    let at-up-to = c.up_to-n in
    (after_none at-args.text.now at-args.at _ at-up-to.ensures.0 (omega arith), omega arith, omega arith)
