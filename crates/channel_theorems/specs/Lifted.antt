-- Demand 3, and M-112, in a system of which the channel is a part: each call of the system is, to the channel, nothing or one event.
-- Assumes nothing.
use Rattle.std.specs.Prelude.{◌≡◌, Bool, true, List, [], ◌∷◌, ℕ, ◌+◌, ◌*◌, ◌≤◌, ◌<◌}
use Rattle.std.proofs.Math.Option.{Option, none, some}
use Rattle.channel_outcomes.specs.Rules.{most_reports}
use Rattle.channel_theorems.specs.History.{Station, Event, Answer, step_to, step, a_report, a_priority, a_request_of, an_answer_to, is_alive, urgent_in}
use Rattle.area.specs.Lists.{one_if}

-- what a call of the system is to the channel: an event, and the answer that it got
pub record Shown : Type 0 where
  pub event : Event
  pub answer : Answer

-- a call that is nothing to the channel leaves it; one that is an event does what the channel's own step does
abbrev pub Agrees : Station → Option Shown → Station → Type 0
Agrees s none d = d ≡ s
Agrees s (some x) d = step s x.event ≡ step_to x.answer d

-- a system: its states and calls, what a call leads to, the channel's part of a state, and what a call is to the channel
pub record System : Type 1 where
  pub State : Type 0
  pub Call : Type 0
  pub next : State → Call → State
  pub part : State → Station
  pub shown : State → Call → Option Shown

-- where calls lead
unfoldable pub run_in : (S : System) → S.State → List S.Call → S.State
run_in S s [] = s
run_in S s (k ∷ h) = run_in S (S.next s k) h

abbrev pub count_shown : (Event → Answer → Bool) → Option Shown → ℕ
count_shown kind none = 0
count_shown kind (some x) = one_if (kind x.event x.answer)

-- how many of the calls are, to the channel, of the kind that the test tells
unfoldable pub count_in : (S : System) → (Event → Answer → Bool) → S.State → List S.Call → ℕ
count_in S kind s [] = 0
count_in S kind s (k ∷ h) = count_shown kind (S.shown s k) + count_in S kind (S.next s k) h

-- the four promises of `KeptWithin`, of the system's own history
pub record KeptWithinIn (S : System) (most u : ℕ) (d : S.State) (later : List S.Call) : Type 0 where
  pub once : count_in S (an_answer_to u) d later ≤ 1 + count_in S (a_request_of u) d later
  pub alive : count_in S (an_answer_to u) d later ≡ 0 → is_alive (S.part (run_in S d later)) ≡ true
  pub sole : count_in S (an_answer_to u) d later ≡ 0 → count_in S (a_request_of u) d later ≡ 0
  pub soon : count_in S (an_answer_to u) d later ≡ 0 → count_in S a_report d later < most

-- demand 3, and M-112 of a priority request
abbrev pub KeptIn : (S : System) → ℕ → ℕ → S.State → S.State → List S.Call → Type 0
KeptIn S U u s d later = KeptWithinIn S (most_reports * (U + (urgent_in (S.part s).channel + count_in S a_priority d later))) u d later

abbrev pub KeptUrgentIn : (S : System) → ℕ → ℕ → S.State → List S.Call → Type 0
KeptUrgentIn S U u d later = KeptWithinIn S (most_reports * U + 1) u d later
