-- The calls on a state, from what their code looks up. Assumes nothing.
use mathlib.Core.Path.{◌≡◌}
use mathlib.Core.Bool.{Bool, not, ◌||◌}
use mathlib.Core.List.{List}
use Prim.Native.Nat.{ℕ}
use lib.Dec.{ltb, leb}
use lib.ListN.{length}
use Rattle.pool.specs.Free.{file_count}
use Rattle.channel.specs.declared.Channel.{Channel}
use Rattle.file.specs.declared.File.{File}
use Rattle.routines.specs.declared.Naming.{Naming}
use Rattle.routines.specs.declared.Routines.{Routines}
use Rattle.routines.specs.Posts.{waits_in}
use Rattle.state.specs.declared.State.{State}
use Rattle.state.specs.Places.{file_at, channel_at, area_short, channel_count}
use Rattle.state_sound.specs.Soundness.{sound}
use Rattle.call_request.specs.declared.AskChange.{AskChange}
use Rattle.pack_request.specs.declared.Asking.{Asking}
use Rattle.call_request.specs.declared.ReportChange.{ReportChange}
use Rattle.pack_request.specs.declared.Reporting.{Reporting}
use Rattle.pack_request.specs.Changes.{changed_state}
use Rattle.call_request.specs.Ask.{ask_on}
use Rattle.call_request.specs.Named.{asked_routines, reported_routines}
use Rattle.pack_request.specs.Calls.{ask_by, file_of, report_by, report_by_area}
use Rattle.call_request.specs.Report.{report_on, report_on_area}

pub ask_whole : (s : State) (file op priority : ℕ) (naming : Naming) (f : File) (c : Channel) (waits whole : Bool) (x : AskChange) (r : Routines) (t : State)
    → f ≡ file_at s file → c ≡ channel_at s f.channel → waits ≡ waits_in s.routines f.channel f.unit → whole ≡ sound s
    → x ≡ ask_on (not whole || leb file_count file) f c op priority naming waits s.frozen
    → r ≡ asked_routines s.routines f.channel f.unit naming
    → t ≡ changed_state s file f.channel x.refusal x.file x.channel r
    → ◌≡◌ {A = Asking} (record { refusal = x.refusal; working = x.working; state = t }) (ask_by s file op priority naming)
unfolding ask_by
ask_whole s file op priority naming f c waits whole x r t isF isC isWaits isW isX isR isT = rw (isT, isX, isR, isC, isWaits, isW, isF)

module _ (s : State) (area : List ℕ) (channel unit outcome len : ℕ) (words : List ℕ) (i : ℕ) (f : File) (c : Channel) (whole short : Bool)
    (isI : i ≡ file_of s channel unit) (isF : f ≡ file_at s i) (isC : c ≡ channel_at s channel) (isW : whole ≡ sound s) (isS : short ≡ area_short s (length area)) where
  pub report_whole : (x : ReportChange) (r : Routines) (t : State) → x ≡ report_on (not whole || (short || leb channel_count channel)) f c unit outcome len s.w s.frozen area words
      → r ≡ reported_routines s.routines s.frozen channel unit x.result
      → t ≡ changed_state s i channel x.refusal x.file x.channel r
      → ◌≡◌ {A = Reporting} (record { refusal = x.refusal; result = x.result; delivery = x.delivery; working = x.working; start = x.start; count = x.count; state = t })
      (report_by s area channel unit outcome len words)
  unfolding report_by
  report_whole x r t isX isR isT = rw (isT, isR, isX, isC, isW, isS, isF, isI)

  pub report_area : report_on_area (not whole || (short || leb channel_count channel)) f c unit outcome len s.w area words ≡ report_by_area s area channel unit outcome len words
  unfolding report_by_area
  report_area = rw (isC, isW, isS, isF, isI)
