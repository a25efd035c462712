-- `sheet::calls::new_desk` meets its contract, from those of its parts. Assumes nothing.

use Rattle.sheet.proofs.calls.new_desk.Goals as goal

pub returns : goal.returns
returns c = simp (c.before_start.ensures, c.no_line.ensures, c.no_line-2.ensures, c.none_listed.ensures)
