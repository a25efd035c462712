-- What a call is to a channel: nothing, or one event of the channel's own history. Assumes nothing.
use mathlib.Core.Path.{◌≡◌, refl, sym, ap, subst, ◌∙◌}
use mathlib.Core.Bool.{Bool, true, false, ◌&&◌}
use mathlib.Core.Option.{Option, none, some}
use mathlib.Core.List.{List, [], ◌∷◌, map}
use Prim.Native.Nat.{ℕ, zero, suc}
use native.Mathlib.Decide.{ℕ_discrete}
use lib.Dec.{eqb}
use borrow.Author.Tests.{eq-eqb, ne_eqb}
use Rattle.area.specs.Lists.{first_along}
use Rattle.channel.specs.declared.Channel.{Channel}
use Rattle.channel.specs.Units.{fresh_with, bits_from, fresh_of}
use Rattle.channel_turns.specs.Scans.{scan_from, working_in, priority_in, ordinary_in, next_turn}
use Rattle.channel_turns.specs.Turns.{judge_of}
use Rattle.channel_turns.specs.Starts.{start_of, thaw_of}
use Rattle.channel_theorems.specs.History as history
use Rattle.channel_theorems.specs.History.{Station, station, accepted, report_answer, step}
use Rattle.channel_theorems.specs.Lifted.{Shown, Agrees}
use Rattle.routines.specs.declared.Naming.{Naming}
use Rattle.state.specs.declared.State.{State}
use Rattle.state.specs.Places.{no_channel, file_at, channel_in, channel_at}
use Rattle.pack_start.specs.Freeze.{frozen_state, thawed_state, freeze_by, thaw_by}
use Rattle.call_request.specs.Ask.{op_of, is_priority}
use Rattle.pack_request.specs.Calls.{ask_by, report_by}
use Rattle.pack_open.proofs.OpenTheorems.{open_frame}
use Rattle.pack_open.proofs.CloseTheorems.{close_frame}
use Rattle.pack_start.proofs.FreezeTheorems.{freeze_refused, freeze_state, thaw_refused, thaw_state}
use Rattle.pack_request.proofs.AskTheorems.{ask_exactly, ask_frame, ask_event_lem}
use Rattle.pack_request.proofs.ReportTheorems.{report_exactly, report_frame, report_event_lem}
use Rattle.pack_request.specs.declared.Reporting.{Reporting}
use Rattle.pack_routine.proofs.Theorems.{return_frame, running_frame}
use Rattle.pack_record.proofs.GetTheorems.{get_frame}
use Rattle.pack_record.proofs.SkipTheorems.{skip_frame}
use Rattle.pack_record.proofs.PutTheorems.{put_frame}
use Rattle.pack_record.proofs.SealTheorems.{seal_frame}
use Rattle.pack.specs.Calls.{Call, fresh, opening, close, ask, report, get, put, seal, skip, freeze, thaw, return, running, answer_of}
use Rattle.pack.specs.Histories.{is_accepted}
use Rattle.pack.proofs.Kept.{Good}

-- channel c of a state, and whether the pack is frozen
abbrev pub station_at : ℕ → State → Station
station_at c s = station (channel_at s c) s.frozen

-- ---- what a call is to channel c

abbrev pub event_if : Bool → history.Event → history.Answer → Option Shown
event_if true event told = some (record { event = event; answer = told })
event_if false event told = none

abbrev pub seen : ℕ → State → List ℕ → Call → Option Shown
seen c s area (fresh m w masks) = none
seen c s area (opening file channel unit flags size rlen) = none
seen c s area (close file) = none
seen c s area (ask file op priority naming) =
    event_if (is_accepted (answer_of s area (ask file op priority naming)) && eqb (file_at s file).channel c)
    (history.ask (file_at s file).unit (op_of op) (is_priority priority)) accepted
seen c s area (report channel unit outcome len words) =
    event_if (is_accepted (answer_of s area (report channel unit outcome len words)) && eqb channel c)
    (history.report unit outcome len) (report_answer (judge_of (channel_at s channel) unit outcome len))
seen c s area (get file) = none
seen c s area (put file words) = none
seen c s area (seal file) = none
seen c s area (skip file) = none
seen c s area freeze = event_if (is_accepted (answer_of s area freeze)) history.freeze accepted
seen c s area thaw = event_if (is_accepted (answer_of s area thaw)) history.thaw accepted
seen c s area return = none
seen c s area running = none

-- the state after a call; a fresh start is left out, for a history has one alone
abbrev pub next_of : State → List ℕ → Call → State
next_of s area (fresh m w masks) = s
next_of s area (opening file channel unit flags size rlen) = (answer_of s area (opening file channel unit flags size rlen)).state
next_of s area (close file) = (answer_of s area (close file)).state
next_of s area (ask file op priority naming) = (answer_of s area (ask file op priority naming)).state
next_of s area (report channel unit outcome len words) = (answer_of s area (report channel unit outcome len words)).state
next_of s area (get file) = (answer_of s area (get file)).state
next_of s area (put file words) = (answer_of s area (put file words)).state
next_of s area (seal file) = (answer_of s area (seal file)).state
next_of s area (skip file) = (answer_of s area (skip file)).state
next_of s area freeze = (answer_of s area freeze).state
next_of s area thaw = (answer_of s area thaw).state
next_of s area return = (answer_of s area return).state
next_of s area running = (answer_of s area running).state

-- ---- the channel's own step agrees

same_station : (c : ℕ) (s : State) {cs : List Channel} {frozen : Bool} → cs ≡ s.channels → frozen ≡ s.frozen
    → station (channel_in cs c) frozen ≡ station_at c s
same_station c s {frozen = frozen} e k = ap (λ (xs : List Channel). station (channel_in xs c) frozen) e ∙ ap (station (channel_at s c)) k

-- a thaw happens on every channel, and to what stands past the last it does nothing
thaw_none : thaw_of no_channel ≡ no_channel
unfolding thaw_of start_of working_in next_turn priority_in ordinary_in scan_from first_along fresh_of fresh_with bits_from
thaw_none = refl

thaw_each : (cs : List Channel) (c : ℕ) → channel_in (map thaw_of cs) c ≡ thaw_of (channel_in cs c)
thaw_each [] c = sym thaw_none
thaw_each (x ∷ cs) zero = refl
thaw_each (x ∷ cs) (suc c) = thaw_each cs c

module _ (c : ℕ) (s : State) (area : List ℕ) where
  freeze_agrees : Agrees (station_at c s) (seen c s area freeze) (station_at c (answer_of s area freeze).state)
  unfolding answer_of step frozen_state
  freeze_agrees = go (ℕ_discrete (freeze_by s).refusal 0)
    where
      go : Dec ((freeze_by s).refusal ≡ 0) → Agrees (station_at c s) (seen c s area freeze) (station_at c (answer_of s area freeze).state)
      go (yes e) = rw (eq-eqb (freeze_by s).refusal 0 e, freeze_state s e)
      go (no h) = rw (ne_eqb (freeze_by s).refusal 0 h, freeze_refused s h)

  thaw_agrees : Agrees (station_at c s) (seen c s area thaw) (station_at c (answer_of s area thaw).state)
  unfolding answer_of step thawed_state
  thaw_agrees = go (ℕ_discrete (thaw_by s).refusal 0)
    where
      go : Dec ((thaw_by s).refusal ≡ 0) → Agrees (station_at c s) (seen c s area thaw) (station_at c (answer_of s area thaw).state)
      go (yes e) = rw (eq-eqb (thaw_by s).refusal 0 e, thaw_state s e, thaw_each s.channels c)
      go (no h) = rw (ne_eqb (thaw_by s).refusal 0 h, thaw_refused s h)

  ask_agrees : (file op priority : ℕ) (naming : Naming)
      → Agrees (station_at c s) (seen c s area (ask file op priority naming)) (station_at c (answer_of s area (ask file op priority naming)).state)
  unfolding answer_of
  ask_agrees file op priority naming = go (ℕ_discrete (ask_by s file op priority naming).refusal 0) (ℕ_discrete (file_at s file).channel c)
    where
      To : Type 0
      To = Agrees (station_at c s) (seen c s area (ask file op priority naming)) (station_at c (answer_of s area (ask file op priority naming)).state)

      go : Dec ((ask_by s file op priority naming).refusal ≡ 0) → Dec ((file_at s file).channel ≡ c) → To
      go (yes e) (yes k) =
          rw (eq-eqb (ask_by s file op priority naming).refusal 0 e, eq-eqb (file_at s file).channel c k) (subst (λ (d : ℕ). Agrees (station_at d s)
          (some (record { event = history.ask (file_at s file).unit (op_of op) (is_priority priority); answer = accepted }))
          (station_at d (ask_by s file op priority naming).state)) k
          (ask_event_lem s file op priority naming e))
      go (yes e) (no k) =
          let F = ask_frame s file op priority naming in
          rw (eq-eqb (ask_by s file op priority naming).refusal 0 e, ne_eqb (file_at s file).channel c k) (rw (F.frozen, F.channels c (λ q. k (sym q))))
      go (no h) k = rw (ne_eqb (ask_by s file op priority naming).refusal 0 h, ((ask_exactly s file op priority naming).alone h).0)

  module _ (g : Good s) where
    report_agrees : (channel unit outcome len : ℕ) (words : List ℕ)
        → Agrees (station_at c s) (seen c s area (report channel unit outcome len words))
        (station_at c (answer_of s area (report channel unit outcome len words)).state)
    unfolding answer_of
    report_agrees channel unit outcome len words = go (ℕ_discrete (report_by s area channel unit outcome len words).refusal 0) (ℕ_discrete channel c)
      where
        To : Type 0
        To =
            Agrees (station_at c s) (seen c s area (report channel unit outcome len words))
            (station_at c (answer_of s area (report channel unit outcome len words)).state)

        go : Dec ((report_by s area channel unit outcome len words).refusal ≡ 0) → Dec (channel ≡ c) → To
        go (yes e) (yes k) =
            rw (eq-eqb (report_by s area channel unit outcome len words).refusal 0 e, eq-eqb channel c k)
            (subst (λ (d : ℕ). Agrees (station_at d s)
            (some (record { event = history.report unit outcome len; answer = report_answer (judge_of (channel_at s channel) unit outcome len) }))
            (station_at d (report_by s area channel unit outcome len words).state)) k
            (report_event_lem s area channel unit outcome len words g.sixteen e).event)
        go (yes e) (no k) =
            let F = report_frame s area channel unit outcome len words in
            rw (eq-eqb (report_by s area channel unit outcome len words).refusal 0 e, ne_eqb channel c k) (rw (F.frozen, F.channels c (λ q. k (sym q))))
        go (no h) k =
            rw (ne_eqb (report_by s area channel unit outcome len words).refusal 0 h)
            (ap (λ (r : Reporting). station_at c r.state) ((report_exactly s area channel unit outcome len words).alone h).answer)

    -- each call does to channel c nothing, or one event of it
    pub call_agrees : (call : Call) → Agrees (station_at c s) (seen c s area call) (station_at c (next_of s area call))
    unfolding answer_of
    call_agrees (fresh m w masks) = refl
    call_agrees (opening file channel unit flags size rlen) =
        let F = open_frame s file channel unit flags size rlen in
        same_station c s F.channels F.frozen
    call_agrees (close file) = let F = close_frame s file in same_station c s F.channels F.frozen
    call_agrees (ask file op priority naming) = ask_agrees file op priority naming
    call_agrees (report channel unit outcome len words) = report_agrees channel unit outcome len words
    call_agrees (get file) = let F = get_frame s area file in same_station c s F.1 F.4
    call_agrees (put file words) = let F = put_frame s area file words in same_station c s F.1 F.4
    call_agrees (seal file) = let F = seal_frame s area file in same_station c s F.1 F.4
    call_agrees (skip file) = let F = skip_frame s file in same_station c s F.1 F.4
    call_agrees freeze = freeze_agrees
    call_agrees thaw = thaw_agrees
    call_agrees return = let F = return_frame s in same_station c s F.channels F.frozen
    call_agrees running = let F = running_frame s in same_station c s F.channels F.frozen
