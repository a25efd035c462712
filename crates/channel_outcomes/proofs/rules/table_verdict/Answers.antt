-- `table_verdict` meets its contract: the code's table judges as document 01's table does, and what is repeated has room to count.
-- Assumes nothing.
use Rattle.channel_outcomes.proofs.Laws.Rules.{entry_at, verdict_beyond, not_allowed, has_ended, is_repeated_lem, repeat_room}
use mathlib.Core.Path.{sym, ◌∙◌, ap}
use Rattle.channel_outcomes.specs.declared.Verdict.TheVariants.{Repeats, Ends}
use Rattle.channel_outcomes.proofs.rules.table_verdict.Goals as goal

pub returns-then-outcome-ge-OUTCOMES : goal.returns-then-outcome-ge-OUTCOMES
returns-then-outcome-ge-OUTCOMES c = sym (verdict_beyond c.args.q c.args.outcome c.if-outcome-ge-OUTCOMES.true)

pub returns-then-limit : goal.returns-then-limit
returns-then-limit c = let a = c.args in
    sym (not_allowed a.q a.outcome _ c.if-outcome-ge-OUTCOMES.false (entry_at a.q a.outcome _ c.row.ensures) c.if-limit.true)

pub returns-then-ends : goal.returns-then-ends
returns-then-ends c = let a = c.args in
    ap Ends c.ending.ensures
    ∙ sym (has_ended a.q a.outcome _ c.if-outcome-ge-OUTCOMES.false (entry_at a.q a.outcome _ c.row.ensures) c.if-limit.false (sym c.ends.ensures ∙ c.if-ends.true))

pub next_attempt-requires : goal.next_attempt-requires
next_attempt-requires c = let a = c.args in
    repeat_room a.q a.outcome _ c.if-outcome-ge-OUTCOMES.false (entry_at a.q a.outcome _ c.row.ensures) (sym c.ends.ensures ∙ c.if-ends.false)

pub returns : goal.returns
returns c = let a = c.args in
    ap Repeats c.next_attempt.ensures
    ∙ sym (is_repeated_lem a.q a.outcome _ c.if-outcome-ge-OUTCOMES.false (entry_at a.q a.outcome _ c.row.ensures) c.if-limit.false (sym c.ends.ensures ∙ c.if-ends.false))
