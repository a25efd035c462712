-- `planner::walk::event_fault` meets its contract: for a closing, a missing row and a row. Assumes nothing.
use mathlib.Core.Path.{sym, ◌∙◌}
use Rattle.planner.proofs.Turns.{fault_closing, fault_missing, fault_row}
use borrow.Author.Rules.{rules}
use Rattle.planner.proofs.walk.event_fault.Goals as goal

pub returns-then-not-opens : goal.returns-then-not-opens
returns-then-not-opens c = fault_closing _ _ _ _ (sym c.opens.ensures ∙ c.if-not-opens.true)

pub returns-then-rows-n : goal.returns-then-rows-n
returns-then-rows-n c = fault_missing _ _ _ _ _ (sym c.opens.ensures ∙ c.if-not-opens.false) c.if-rows-n.true

pub returns : goal.returns
returns c = let at-args = c.args in
    let at-opens = c.opens in
    let at-if1 = c.if-not-opens in
    c.row_fault.ensures ∙ fault_row _ _ _ at-args.rows.now at-args.n (sym at-opens.ensures ∙ at-if1.false) (search rules)
