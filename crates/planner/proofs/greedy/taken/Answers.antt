-- `planner::greedy::taken` meets its contract: a store past the end is none. Assumes nothing.
use mathlib.Core.Path.{sym, ap, ◌∙◌}
use lib.ListN.{set}
use lib.Seq.{set_out}
use Rattle.planner.specs.Greedy.{taken}
use borrow.Author.Rules.{rules}
use Rattle.planner.proofs.greedy.taken.Goals as goal

pub returns-then-at-lt-FILES : goal.returns-then-at-lt-FILES
unfolding taken
returns-then-at-lt-FILES c = ap (λ b. set c.args.owner b c.args.v) c.first_free-at.ensures.0

pub returns-else-at-lt-FILES : goal.returns-else-at-lt-FILES
unfolding taken
returns-else-at-lt-FILES c = let at-args = c.args in
    let at-first-free = c.first_free-at in
    sym (set_out _ _ _ (search rules)) ∙ ap (λ b. set at-args.owner b at-args.v) at-first-free.ensures.0
