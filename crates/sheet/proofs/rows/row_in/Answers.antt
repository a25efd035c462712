-- `sheet::rows::row_in` meets its contract, branch by branch. Assumes nothing.
use mathlib.Core.Path.{sym}
use native.Mathlib.Omega.{arith}
use borrow.Author.Tests.{lt-leb}
use Rattle.area.proofs.Marks.{cond_false}
use Rattle.sheet.specs.Rows.{most_listed, row_in}
use Rattle.sheet.proofs.Steps.{in_beyond}
use Rattle.sheet.proofs.rows.row_in.Goals as goal

pub returns-then-i-ge-LISTED : goal.returns-then-i-ge-LISTED
returns-then-i-ge-LISTED c = in_beyond _ c.args.i _ (omega arith)

pub returns : goal.returns
unfolding row_in
returns c = sym (cond_false _ _ (lt-leb most_listed c.args.i (omega arith)))
