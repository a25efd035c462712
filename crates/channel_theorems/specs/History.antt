-- Histories of one channel, and what demand 3 promises of them. Assumes nothing.
use Rattle.std.specs.Prelude.{◌≡◌, Bool, true, false, ◌&&◌, ◌||◌, List, [], ◌∷◌, ℕ, ◌+◌, ◌*◌, ◌≤◌, ◌<◌, eqb, is_some}
use Rattle.area.specs.Lists.{one_if, count_of}
use Rattle.channel.specs.declared.Op.{Op}
use Rattle.channel.specs.declared.Unit.{Unit}
use Rattle.channel.specs.declared.Channel.{Channel}
use Rattle.channel_outcomes.specs.declared.Verdict.{Verdict}
use Rattle.channel_outcomes.specs.declared.Verdict.TheVariants.{Refused, Repeats, Ends}
use Rattle.channel_turns.specs.declared.Asked.{Asked}
use Rattle.channel_turns.specs.declared.Reported.{Reported}
use Rattle.channel_outcomes.specs.Rules.{most_reports}
use Rattle.channel.specs.Units.{fresh_with}
use Rattle.channel_turns.specs.Scans.{working_in}
use Rattle.channel_turns.specs.Turns.{holds_priority, report_of}
use Rattle.channel_turns.specs.Starts.{thaw_of, ask_of}

-- ---- what is done to a channel

-- a channel, and whether the pack is frozen
pub record Station : Type 0 where
  pub channel : Channel
  pub frozen : Bool

abbrev pub station : Channel → Bool → Station
station c frozen = record { channel = c; frozen = frozen }

pub data Event : Type 0 where
  -- unit, operation, priority
  ask : ℕ → Op → Bool → Event
  -- unit, outcome, length
  report : ℕ → ℕ → ℕ → Event
  freeze thaw : Event

pub data Answer : Type 0 where
  refused accepted repeated answered : Answer

pub record Step : Type 0 where
  pub answer : Answer
  pub after : Station

abbrev pub step_to : Answer → Station → Step
step_to answer after = record { answer = answer; after = after }

-- the answers of an ask and of a report
abbrev pub ask_answer : Bool → Answer
ask_answer true = accepted
ask_answer false = refused

abbrev pub report_answer : Verdict → Answer
report_answer (Refused n) = refused
report_answer (Repeats q) = repeated
report_answer (Ends e) = answered

abbrev pub ask_step : Bool → Asked → Step
ask_step frozen a = step_to (ask_answer a.accepted) (station a.channel frozen)

abbrev pub report_step : Bool → Reported → Step
report_step frozen r = step_to (report_answer r.verdict) (station r.channel frozen)

-- one call: the functions `ask`, `report` and `thaw`; "Freeze stops starts on all channels; reports are still booked"
unfoldable pub step : Station → Event → Step
step s (ask u op priority) = ask_step s.frozen (ask_of s.channel u op priority s.frozen)
step s (report u outcome length) = report_step s.frozen (report_of s.channel u outcome length s.frozen)
step s freeze = step_to accepted (station s.channel true)
step s thaw = step_to accepted (station (thaw_of s.channel) false)

-- a fresh start declares units and thaws
unfoldable pub fresh : List Bool → Station
fresh declared = station (fresh_with declared) false

-- ---- histories

-- where the calls lead
unfoldable pub run : Station → List Event → Station
run s [] = s
run s (e ∷ h) = run (step s e).after h

-- how many of the calls are of the kind that the test tells by the call and its answer
unfoldable pub count : (Event → Answer → Bool) → Station → List Event → ℕ
count kind s [] = 0
count kind s (e ∷ h) = one_if (kind e (step s e).answer) + count kind (step s e).after h

abbrev pub is_accepted : Answer → Bool
is_accepted refused = false
is_accepted accepted = true
is_accepted repeated = false
is_accepted answered = false

abbrev pub is_answered : Answer → Bool
is_answered refused = false
is_answered accepted = false
is_answered repeated = false
is_answered answered = true

-- an accepted report, of any unit
abbrev pub a_report : Event → Answer → Bool
a_report e refused = false
a_report e accepted = false
a_report e repeated = true
a_report e answered = true

-- an accepted report of unit u
abbrev pub a_report_of : ℕ → Event → Answer → Bool
a_report_of u (ask x op p) a = false
a_report_of u (report x o l) a = eqb x u && a_report (report x o l) a
a_report_of u freeze a = false
a_report_of u thaw a = false

-- an accepted priority request
abbrev pub a_priority : Event → Answer → Bool
a_priority (ask x op p) a = p && is_accepted a
a_priority (report x o l) a = false
a_priority freeze a = false
a_priority thaw a = false

-- an accepted request of unit u
abbrev pub a_request_of : ℕ → Event → Answer → Bool
a_request_of u (ask x op p) a = eqb x u && is_accepted a
a_request_of u (report x o l) a = false
a_request_of u freeze a = false
a_request_of u thaw a = false

-- an answer to the request of unit u
abbrev pub an_answer_to : ℕ → Event → Answer → Bool
an_answer_to u (ask x op p) a = false
an_answer_to u (report x o l) a = eqb x u && is_answered a
an_answer_to u freeze a = false
an_answer_to u thaw a = false

-- ---- what demand 3 speaks of

-- the channel is working or frozen
abbrev pub is_alive : Station → Bool
is_alive s = s.frozen || is_some (working_in s.channel)

-- the priority requests without an answer
unfoldable pub urgent_in : Channel → ℕ
urgent_in c = count_of (λ (x : Unit). holds_priority x.turn) c.units

-- the declared units of a fresh start
unfoldable pub declared_in : List Bool → ℕ
declared_in declared = count_of (λ (b : Bool). b) declared

-- A request of unit u is answered by the time that `most` reports have been accepted: d is the state which the call left that was
-- accepted, and `later` is any calls after it.
pub record KeptWithin (most u : ℕ) (d : Station) (later : List Event) : Type 0 where
  -- it is answered at most once: a second answer to the unit is to a later request of it
  pub once : count (an_answer_to u) d later ≤ 1 + count (a_request_of u) d later
  -- until it is answered the channel is working or frozen,
  pub alive : count (an_answer_to u) d later ≡ 0 → is_alive (run d later) ≡ true
  -- no other request of the unit is accepted,
  pub sole : count (an_answer_to u) d later ≡ 0 → count (a_request_of u) d later ≡ 0
  -- and fewer reports than that have been accepted
  pub soon : count (an_answer_to u) d later ≡ 0 → count a_report d later < most

-- Demand 3, with 201 for its 101 (M-106), of an ordinary request on a channel with U declared units: s is the state when the request was accepted. It is answered by the
-- time that 201 × (U + P) reports have been accepted, where P counts the priority requests that had no answer when it was accepted and
-- those that were accepted since.
abbrev pub Kept : ℕ → ℕ → Station → Station → List Event → Type 0
Kept U u s d later = KeptWithin (most_reports * (U + (urgent_in s.channel + count a_priority d later))) u d later

-- M-112, of a priority request: "answered by the time 101 × U + 1 reports have been accepted on its channel (201 for 101 with
-- M-106)"
abbrev pub KeptUrgent : ℕ → ℕ → Station → List Event → Type 0
KeptUrgent U u d later = KeptWithin (most_reports * U + 1) u d later
