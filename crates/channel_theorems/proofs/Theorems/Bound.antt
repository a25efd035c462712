-- Demand 3's bound is met: with two units and no priority request the answer is the 402nd report. M-112's is met: with three units the
-- answer to a priority request is the 604th. Assumes nothing.
use mathlib.Core.Path.{◌≡◌, refl}
use mathlib.Core.List.{[], ◌∷◌, ◌++◌}
use Rattle.area.specs.Lists.{any_of, first_along}
use Rattle.channel_outcomes.specs.Rules.{redundancy, row_of, is_allowed, is_permanent, is_noise, past_noise, next_attempt, ending_of, table_verdict, verdict_of, no_length}
use Rattle.channel_outcomes.specs.Positions.{noted_by, record_passed, mark_passed}
use Rattle.channel.specs.Units.{with_unit, operation_at, fresh_with, accepts_at}
use Rattle.channel_turns.specs.Scans.{scan_from, working_in, priority_in, ordinary_in, next_turn}
use Rattle.channel_turns.specs.Turns.{judge_of, goes_on, repeat_of, mark_after, urgent_after, end_of, book_of, report_of}
use Rattle.channel_turns.specs.Starts.{start_of, thaw_of, ask_of}
use Rattle.channel_theorems.specs.History.{report, step, fresh, run, count, a_report, an_answer_to}
use Rattle.channel_theorems.specs.Bound.{two_ask, all_but_one, three_ask, all_but_last}

-- after 401 accepted reports unit 1 has no answer, and the 402nd answers it
pub bound_met : (count a_report two_ask all_but_one ≡ 401) × (count (an_answer_to 1) two_ask all_but_one ≡ 0) × (count (an_answer_to 1) two_ask (all_but_one ++ (report 1 redundancy no_length ∷ [])) ≡ 1)
unfolding two_ask all_but_one first_along any_of row_of is_allowed is_permanent is_noise past_noise next_attempt ending_of table_verdict verdict_of noted_by record_passed mark_passed with_unit operation_at fresh_with accepts_at scan_from working_in priority_in ordinary_in next_turn start_of thaw_of ask_of judge_of goes_on repeat_of mark_after urgent_after end_of book_of report_of step fresh run count
bound_met = (refl, refl, refl)

-- after 603 accepted reports unit 2 has no answer, and the 604th answers it
pub urgent_bound_met : (count a_report three_ask all_but_last ≡ 603) × (count (an_answer_to 2) three_ask all_but_last ≡ 0)
    × (count (an_answer_to 2) three_ask (all_but_last ++ (report 2 redundancy no_length ∷ [])) ≡ 1)
unfolding three_ask all_but_last first_along any_of row_of is_allowed is_permanent is_noise past_noise next_attempt ending_of table_verdict verdict_of noted_by record_passed mark_passed with_unit operation_at fresh_with accepts_at scan_from working_in priority_in ordinary_in next_turn start_of thaw_of ask_of judge_of goes_on repeat_of mark_after urgent_after end_of book_of report_of step fresh run count
urgent_bound_met = (refl, refl, refl)
