-- Each call's rows of the refusal table (document 01, "Refusal numbers"), for the state that is passed and the area that is lent.
-- Assumes nothing.
use Rattle.std.specs.Prelude.{ℕ, Bool, not, List, [], ◌∷◌, eqb, length}
use Rattle.area.specs.Lists.{any_of}
use Rattle.area.specs.Refusals.{Rows}
use Rattle.file_input.specs.Gets.{get_from}
use Rattle.pool.specs.Serving.{is_bound}
use Rattle.state.specs.declared.State.{State}
use Rattle.state.specs.Places.{file_at, channel_at}
use Rattle.state_sound.specs.Soundness.{sound}
use Rattle.pack_record.specs.Misused.{misused}
use Rattle.pack_start.specs.Fresh.{fresh_rows}
use Rattle.call_open.specs.Open.{wish_of, open_rows}
use Rattle.pool.specs.Free.{free_of}
use Rattle.pack_open.specs.Open.{open_off}
use Rattle.call_open.specs.Close.{close_rows}
use Rattle.pack_open.specs.Close.{close_off}
use Rattle.pack_start.specs.Freeze.{state_rows}
use Rattle.call_request.specs.Ask.{ask_rows}
use Rattle.pack_request.specs.Calls.{ask_wrong, ask_waits, file_of, report_wrong}
use Rattle.call_request.specs.Report.{report_rows}
use Rattle.pack_routine.specs.Ons.{return_rows, running_rows}
use Rattle.call_record.specs.Get as gets
use Rattle.call_record.specs.Skip.{skip_rows}
use Rattle.pack_record.specs.Skips.{skip_misused}
use Rattle.call_record.specs.Put.{put_rows}
use Rattle.call_record.specs.Seal.{seal_rows}
use Rattle.pack.specs.Calls.{Call, fresh, opening, close, ask, report, get, put, seal, skip, freeze, thaw, return, running}

-- the numbers of the table; "There is no refusal 14"; "refused 18 with none running" (document 02, M-110)
unfoldable pub table_numbers : List ℕ
table_numbers = 1 ∷ 2 ∷ 3 ∷ 4 ∷ 5 ∷ 6 ∷ 7 ∷ 8 ∷ 9 ∷ 10 ∷ 11 ∷ 12 ∷ 13 ∷ 15 ∷ 18 ∷ []

abbrev pub is_table_number : ℕ → Bool
is_table_number n = any_of (eqb n) table_numbers

unfoldable pub rows_of : State → List ℕ → Call → Rows
rows_of s area (fresh m w masks) = fresh_rows (not (sound s)) m w masks (length area)
rows_of s area (opening file channel unit flags size rlen) =
    open_rows (open_off s file channel unit flags) (is_bound s.files channel unit) (file_at s file) (channel_at s channel)
    (free_of s.m s.files) s.w (wish_of channel unit flags size rlen)
rows_of s area (close file) = close_rows (close_off s file) (file_at s file) (channel_at s (file_at s file).channel)
rows_of s area (ask file op priority naming) = ask_rows (ask_wrong s file) (file_at s file) (channel_at s (file_at s file).channel) op priority naming (ask_waits s file)
rows_of s area (report channel unit outcome len words) =
    report_rows (report_wrong s (length area) channel) (file_at s (file_of s channel unit)) (channel_at s channel) unit outcome len s.w area words
rows_of s area (get file) = gets.get_rows (misused s (length area) file) (file_at s file) (get_from s.w (file_at s file)).got area
rows_of s area (put file words) = put_rows (misused s (length area) file) (file_at s file) s.w area words
rows_of s area (seal file) = seal_rows (misused s (length area) file) (file_at s file) s.w area
rows_of s area (skip file) = skip_rows (skip_misused s file) (file_at s file)
rows_of s area freeze = state_rows s
rows_of s area thaw = state_rows s
rows_of s area return = return_rows (not (sound s)) s.routines
rows_of s area running = running_rows (not (sound s))
