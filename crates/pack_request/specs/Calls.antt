-- Ask and report on a whole state (document 01, "Refusal numbers"): what row 1 says of it, and the state after the call. Assumes nothing.
use Rattle.std.specs.Prelude.{ℕ, Bool, not, ◌||◌, List, leb, length}
use Rattle.pool.specs.Serving.{file_serving}
use Rattle.state.specs.declared.State.{State}
use Rattle.pool.specs.Free.{file_count}
use Rattle.state.specs.Places.{channel_count, file_at, channel_at, area_short}
use Rattle.state_sound.specs.Soundness.{sound}
use Rattle.call_request.specs.declared.AskChange.{AskChange}
use Rattle.call_request.specs.declared.ReportChange.{ReportChange}
use Rattle.call_request.specs.Ask.{ask_on}
use Rattle.call_request.specs.Report.{report_on, report_on_area}
use Rattle.call_request.specs.Named.{asked_routines, reported_routines}
use Rattle.routines.specs.declared.Naming.{Naming}
use Rattle.routines.specs.declared.Routines.{Routines}
use Rattle.routines.specs.Posts.{waits_in}
use Rattle.pack_request.specs.declared.Asking.{Asking}
use Rattle.pack_request.specs.declared.Reporting.{Reporting}
use Rattle.pack_request.specs.Changes.{changed_state}

-- ---- ask

-- what row 1 says of the state and of the file's number: "Files 0 to 15."
abbrev pub ask_wrong : State → ℕ → Bool
ask_wrong s file = not (sound s) || leb file_count file

-- whether a routine waits at the file's unit
abbrev pub ask_waits : State → ℕ → Bool
ask_waits s file = waits_in s.routines (file_at s file).channel (file_at s file).unit

-- what changes: the file, the channel that it is open on, and what the request of its unit names
abbrev pub ask_change : State → ℕ → ℕ → ℕ → Naming → AskChange
ask_change s file op priority naming =
    ask_on (ask_wrong s file) (file_at s file) (channel_at s (file_at s file).channel) op priority naming (ask_waits s file) s.frozen

abbrev pub asked_all : State → ℕ → Naming → Routines
asked_all s file naming = asked_routines s.routines (file_at s file).channel (file_at s file).unit naming

unfoldable pub ask_by : State → ℕ → ℕ → ℕ → Naming → Asking
ask_by s file op priority naming =
    let x = ask_change s file op priority naming in
    record {
      refusal = x.refusal;
      working = x.working;
      state = changed_state s file (file_at s file).channel x.refusal x.file x.channel (asked_all s file naming);
    }

-- ---- report

-- the file that is open on unit u of channel c; past the last file if there is none
abbrev pub file_of : State → ℕ → ℕ → ℕ
file_of s c u = file_serving s.files c u

-- what row 1 says of the state, of an area of n words and of the channel's number: "Channels 0 to 4"
abbrev pub report_wrong : State → ℕ → ℕ → Bool
report_wrong s n c = not (sound s) || (area_short s n || leb channel_count c)

-- what changes: the channel, the file that its unit serves, and the routines
abbrev pub report_change : State → List ℕ → ℕ → ℕ → ℕ → ℕ → List ℕ → ReportChange
report_change s area c u outcome len words =
    report_on (report_wrong s (length area) c) (file_at s (file_of s c u)) (channel_at s c) u outcome len s.w s.frozen area words

unfoldable pub report_by : State → List ℕ → ℕ → ℕ → ℕ → ℕ → List ℕ → Reporting
report_by s area c u outcome len words =
    let x = report_change s area c u outcome len words in
    record {
      refusal = x.refusal;
      result = x.result;
      delivery = x.delivery;
      working = x.working;
      start = x.start;
      count = x.count;
      state = changed_state s (file_of s c u) c x.refusal x.file x.channel (reported_routines s.routines s.frozen c u x.result);
    }

unfoldable pub report_by_area : State → List ℕ → ℕ → ℕ → ℕ → ℕ → List ℕ → List ℕ
report_by_area s area c u outcome len words =
    report_on_area (report_wrong s (length area) c) (file_at s (file_of s c u)) (channel_at s c) u outcome len s.w area words
