-- `sheet::rows::listed_after` meets its contract, branch by branch. Assumes nothing.
use native.Mathlib.Omega.{arith}
use Rattle.sheet.proofs.Steps.{listed_same, listed_full, listed_more}
use Rattle.sheet.proofs.rows.listed_after.Goals as goal

pub returns-then-not-e : goal.returns-then-not-e
returns-then-not-e c = listed_same c.args.e c.args.k c.args.l _ c.rows_after-rows.ensures c.if-not-e.true

pub returns-then-l-ge-LISTED : goal.returns-then-l-ge-LISTED
returns-then-l-ge-LISTED c = listed_full c.args.e c.args.k c.args.l _ c.rows_after-rows.ensures c.if-not-e.false (omega arith)

pub overflow_add-result : goal.overflow_add-result
overflow_add-result c = omega arith

pub returns : goal.returns
returns c = listed_more c.args.e c.args.k c.args.l _ c.rows_after-rows.ensures c.if-not-e.false (omega arith) _ c.new_row.ensures _ c.row_in.ensures
