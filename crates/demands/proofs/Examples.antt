-- Document 01's marked examples hold: one claim over the whole table. Assumes nothing.
use mathlib.Core.Path.{◌≡◌, refl}
use Prim.Native.Nat.{ℕ}
use Rattle.area.specs.Lists.{any_of, all_of, all_pairs, count_of, first_along, count_along}
use Rattle.area.specs.Parts.{paste, pasted_in}
use Rattle.area.specs.Refusals.{lowest}
use Rattle.area.specs.Numbered.{all_from}
use Rattle.word.specs.Sums.{carry_back, sum_from, logical_sum, first_half, last_half, folded}
use Rattle.word.specs.CheckWords.{address, check_word}
use Rattle.block.specs.Blocks as blocks
use Rattle.word.specs.Checks as checks
use Rattle.channel_outcomes.specs.Positions.{cleaner_due, noted_by, record_passed, mark_passed}
use Rattle.channel_outcomes.specs.Rules.{row_of, is_allowed, is_permanent, is_noise, past_noise, next_attempt, ending_of, table_verdict, verdict_of, repeated_number}
use Rattle.channel.specs.Units.{with_unit, fresh_with, bits_from, fresh_of, has_request, accepts_at, operation_at}
use Rattle.channel_turns.specs.Scans.{scan_from, working_in, priority_in, ordinary_in, next_turn}
use Rattle.channel_turns.specs.Turns.{judge_of, goes_on, repeat_of, mark_after, urgent_after, end_of, book_of}
use Rattle.channel_turns.specs.Starts.{start_of, ask_of}
use Rattle.file.specs.Sides.{empty_side, taken_side, part_side, oldest}
use Rattle.file.specs.Fills.{filled_at, emptied_at, without_oldest}
use Rattle.file_input.specs.Delivers.{took_buffer, delivered, gave_back, met_mark}
use Rattle.file_output.specs.Puts.{put_side, put_start, added, after_put}
use Rattle.file_output.specs.Parts.{part_start, part_length, is_complete, sealed_file}
use Rattle.file_output.specs.Sends.{send_start, send_words, after_write}
use Rattle.file.specs.Arrivals.{is_arrival}
use Rattle.file.specs.Sizes.{opened_file}
use Rattle.pool.specs.Free.{lowest_free, free_count, free_of}
use Rattle.pool.specs.Masks.{free_after}
use Rattle.area.specs.Masks.{mask_along}
use Rattle.pool.specs.Serving.{serving_file}
use Rattle.routines.specs.Ranks.{due_named, under, main_alone}
use Rattle.routines.specs.Waits.{highest_on, highest_from, highest}
use Rattle.routines.specs.Schedule as schedule
use Rattle.routines.specs.Right as right
use Rattle.routines.specs.Posts.{no_routines, with_post}
use Rattle.routines.specs.Changes.{asked_in, made_due_in, cleared_in, scheduled_in, looked_in, answered_in, gave_back_in}
use Rattle.routines_sound.specs.Beside.{routines_beside}
use Rattle.call_request.specs.Named.{reported_routines}
use Rattle.state_sound.specs.Files.{is_blank}
use Rattle.state.specs.Places.{before_start}
use Rattle.state.specs.Stores.{with_file, with_channel, with_routines}
use Rattle.state_sound.specs.Soundness.{position_right, numbers_in_range, no_buffer_held_twice, each_has_its_own, requests_fit, channels_work, reads_alone_take, writes_have_blocks, full_blocks_right, part_buffers_right, places_right, attempts_in_limit, sound, free_mask_right, routines_right}
use Rattle.pack_start.specs.Fresh.{fresh_rows, fresh_state, fresh_by}
use Rattle.call_open.specs.Open.{open_rows, open_on}
use Rattle.pack_open.specs.Open.{open_by}
use Rattle.pack_request.specs.Changes.{changed_state}
use Rattle.call_request.specs.Ask.{op_of, ask_refusal, asked_file, asked_channel, ask_on}
use Rattle.pack_request.specs.Calls.{ask_by, report_by, report_by_area}
use Rattle.call_request.specs.Report.{length_wrong, report_refusal, reported_file, reported_area, report_on, report_on_area}
use Rattle.call_record.specs.Blocks.{sealed_in, sealed_area}
use Rattle.call_record.specs.Put.{put_rows, put_refusal, filled_area, put_area, put_on, put_on_area}
use Rattle.pack_record.specs.Puts.{put_by, put_by_area}
use Rattle.pack.specs.Calls.{answer_of}
use Rattle.demands.specs.Examples.{play, repeated_from, table, all_shown, all_wanted}

pub examples : all_shown table ≡ all_wanted table
unfolding play repeated_from table any_of all_of all_pairs count_of first_along count_along paste pasted_in lowest all_from carry_back sum_from logical_sum first_half last_half folded address check_word blocks.block_seal_refusal blocks.with_check_word blocks.sealed_block blocks.judge_refusal checks.error_of checks.check_of checks.is_checked blocks.judged_block row_of is_allowed is_permanent is_noise past_noise next_attempt ending_of table_verdict verdict_of cleaner_due repeated_number noted_by record_passed mark_passed with_unit length_wrong position_right fresh_with bits_from fresh_of has_request accepts_at operation_at scan_from working_in priority_in ordinary_in next_turn start_of ask_of judge_of goes_on repeat_of mark_after urgent_after end_of book_of empty_side taken_side part_side oldest filled_at emptied_at without_oldest took_buffer delivered gave_back met_mark put_side put_start added part_start part_length is_complete sealed_file after_put send_start send_words after_write opened_file lowest_free free_count serving_file is_blank before_start with_file with_channel numbers_in_range no_buffer_held_twice each_has_its_own requests_fit channels_work reads_alone_take writes_have_blocks full_blocks_right part_buffers_right places_right attempts_in_limit sound fresh_rows fresh_state fresh_by free_of open_rows open_on open_by changed_state op_of ask_refusal asked_file asked_channel ask_on ask_by report_refusal reported_file reported_area report_on report_on_area report_by report_by_area sealed_in sealed_area put_rows put_refusal filled_area put_area put_on put_on_area put_by put_by_area answer_of free_mask_right free_after mask_along is_arrival due_named under main_alone highest_on highest_from highest schedule.enters schedule.interrupted_by schedule.look_of schedule.enters_on_return schedule.resumed_of schedule.given_back right.descends right.programs_right right.is_settled right.units_known right.post_right right.posts_right right.routines_right no_routines with_post asked_in made_due_in cleared_in scheduled_in looked_in answered_in gave_back_in routines_beside reported_routines routines_right with_routines
examples = refl
