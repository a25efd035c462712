-- `planner_text::lines::read_list` meets its contract: from the first line, and from the lines after it. Assumes nothing.
use mathlib.Core.Path.{ap, ◌∙◌}
use mathlib.Core.List.{map}
use lib.ListN.{length, take}
use Rattle.planner_text.specs.Texts.{limit_of, event_of, events_in}
use Rattle.planner_text.proofs.Steps.{first_line_lem}
use Rattle.planner_text.proofs.lines.read_list.Goals as goal

pub returns : goal.returns
unfolding events_in
returns c = let at-limit-of = c.limit_of-limit in
    let at_first = c.first in
    let at-args = c.args in
    let at-read-events = c.read_events-count in
    let at-after-first = c.after_first-at in record {
      limit_value = at-limit-of.ensures ∙ ap limit_of (at_first.ensures ∙ first_line_lem at-args.text.now);
      events_after = at-read-events.ensures.events_after ∙ ap (λ ls. take (length at-args.events.now) (map event_of ls)) at-after-first.ensures.0;
      count_in_bounds = at-read-events.ensures.upper_bound;
    }
