-- `planner_text::lines::read_proposal` meets its contract: from the first line, and from the lines after it. Assumes nothing.
use mathlib.Core.Path.{ap, ◌∙◌}
use mathlib.Core.List.{map}
use lib.ListN.{length, take}
use Rattle.planner_text.specs.Texts.{size_of, row_of, rows_in}
use Rattle.planner_text.proofs.Steps.{first_line_lem}
use Rattle.planner_text.proofs.lines.read_proposal.Goals as goal

pub returns : goal.returns
unfolding rows_in
returns c = let at-size-of = c.size_of-size in
    let at_first = c.first in
    let at-args = c.args in
    let at-read-rows = c.read_rows-count in
    let at-after-first = c.after_first-at in record {
      size_value = at-size-of.ensures ∙ ap size_of (at_first.ensures ∙ first_line_lem at-args.text.now);
      rows_after = at-read-rows.ensures.rows_after ∙ ap (λ ls. take (length at-args.rows.now) (map row_of ls)) at-after-first.ensures.0;
      count_in_bounds = at-read-rows.ensures.upper_bound;
    }
