-- "Requests, reports, turns" (document 01): a report on one channel. Assumes nothing.
use Rattle.std.specs.Prelude.{ℕ, Bool, true, false, not, cond, ◌&&◌, ◌||◌, is_some}
use Rattle.channel.specs.declared.Request.{Request}
use Rattle.channel.specs.declared.Turn.{Turn}
use Rattle.channel.specs.declared.Turn.TheVariants.{Idle, Waiting, Displaced, Working}
use Rattle.channel.specs.declared.Channel.{Channel}
use Rattle.channel_outcomes.specs.declared.Ending.{Ending}
use Rattle.channel_outcomes.specs.declared.Verdict.{Verdict}
use Rattle.channel_outcomes.specs.declared.Verdict.TheVariants.{Refused, Repeats, Ends}
use Rattle.channel_turns.specs.declared.Reported.{Reported}
use Rattle.channel_outcomes.specs.Positions.{position_after, noted_by}
use Rattle.channel_outcomes.specs.Rules.{verdict_of}
use Rattle.channel_turns.specs.Scans.{next_unit, priority_in}
use Rattle.channel.specs.Units.{size, turn_at, position_at, operation_at, with_unit, with_marks}
use Rattle.channel_turns.specs.Starts.{start_of}

-- "11 | report: the channel is not working for that unit"
abbrev pub judge_turn : Turn → ℕ → ℕ → Verdict
judge_turn Idle outcome length = Refused 11
judge_turn (Waiting q) outcome length = Refused 11
judge_turn (Displaced q) outcome length = Refused 11
judge_turn (Working q) outcome length = verdict_of q outcome length

-- what a report comes to, with an outcome and a length
unfoldable pub judge_of : Channel → ℕ → ℕ → ℕ → Verdict
judge_of c u outcome length = judge_turn (turn_at c u) outcome length

-- "a waiting priority request starts, displacing an incomplete ordinary one; else the incomplete operation continues";
-- "a priority operation is not displaced"; under a freeze "an incomplete operation then waits like a displaced one"
unfoldable pub goes_on : Channel → Bool → Bool → Bool
goes_on c priority frozen = not frozen && (priority || not (is_some (priority_in c)))

-- "A displaced operation keeps its attempt and incomplete-word counts."
abbrev pub incomplete_turn : Bool → Request → Turn
incomplete_turn true q = Working q
incomplete_turn false q = Displaced q

-- the operation makes a further attempt, or has passed over a noise record (document 02, M-106); either way the activity has ended
unfoldable pub repeat_of : Channel → ℕ → Request → Bool → Channel
repeat_of c u q frozen = start_of (with_unit c u (incomplete_turn (goes_on c q.priority frozen) q) (noted_by (position_at c u) q)) frozen

abbrev pub is_ordinary : Turn → Bool
is_ordinary Idle = false
is_ordinary (Waiting q) = not q.priority
is_ordinary (Displaced q) = not q.priority
is_ordinary (Working q) = not q.priority

abbrev pub holds_priority : Turn → Bool
holds_priority Idle = false
holds_priority (Waiting q) = q.priority
holds_priority (Displaced q) = q.priority
holds_priority (Working q) = q.priority

-- "one unit above that of the last .. operation to end": an end moves a mark to the unit above, of n, if it is of the mark's own kind
abbrev pub mark_moved : Bool → ℕ → ℕ → ℕ → ℕ
mark_moved own n u mark = cond own (next_unit n u) mark

-- the end of an ordinary operation moves the mark of the ordinary ones,
unfoldable pub mark_after : Channel → ℕ → ℕ
mark_after c u = mark_moved (is_ordinary (turn_at c u)) (size c) u c.mark

-- and that of a priority operation the mark of the priority ones, "a mark of their own"
unfoldable pub urgent_after : Channel → ℕ → ℕ
urgent_after c u = mark_moved (holds_priority (turn_at c u)) (size c) u c.urgent

-- "Good reads, marks read, and writes and marks ended 01 or 04 move [the position]" (document 02, M-106)
unfoldable pub end_of : Channel → ℕ → Ending → Bool → Channel
end_of c u e frozen =
    start_of (with_marks (with_unit c u Idle (position_after (operation_at c u) e (position_at c u))) (mark_after c u) (urgent_after c u)) frozen

-- "the report is booked", and the channel goes on
unfoldable pub book_of : Channel → ℕ → Verdict → Bool → Channel
book_of c u (Refused n) frozen = c
book_of c u (Repeats q) frozen = repeat_of c u q frozen
book_of c u (Ends e) frozen = end_of c u e frozen

unfoldable pub report_of : Channel → ℕ → ℕ → ℕ → Bool → Reported
report_of c u outcome length frozen =
    record { verdict = judge_of c u outcome length; channel = book_of c u (judge_of c u outcome length) frozen }
