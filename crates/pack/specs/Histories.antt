-- Histories: one call after the other, each given the state that the call before it left, and what is counted in them. Assumes nothing.
use Rattle.std.specs.Prelude.{ℕ, ◌+◌, Bool, true, false, not, cond, ◌&&◌, ◌||◌, List, [], ◌∷◌, eqb}
use Rattle.area.specs.Lists.{one_if, count_of}
use Rattle.channel.specs.declared.Unit.{Unit}
use Rattle.state.specs.declared.State.{State}
use Rattle.state.specs.Places.{file_at, channel_at}
use Rattle.call_request.specs.Ask.{is_priority}
use Rattle.pack.specs.Calls.{Call, fresh, opening, close, ask, report, get, put, seal, skip, freeze, thaw, return, running, Added, nothing, working, reported, got, returned, runs, Answer, answer_of}

-- a call, with the area as the caller lends it then: the caller may write it between calls
pub record Lent : Type 0 where
  pub call : Call
  pub area : List ℕ

abbrev pub answer_to : State → Lent → Answer
answer_to s x = answer_of s x.area x.call

-- the state that calls lead to
unfoldable pub after : State → List Lent → State
after s [] = s
after s (x ∷ h) = after (answer_to s x).state h

-- ---- what is counted

abbrev pub is_accepted : Answer → Bool
is_accepted a = eqb a.refusal 0

-- how many accepted calls of a history are of a kind, which is told by the state before the call, the call, and its answer
unfoldable pub count : (State → Call → Answer → Bool) → State → List Lent → ℕ
count kind s [] = 0
count kind s (x ∷ h) = one_if (is_accepted (answer_to s x) && kind s x.call (answer_to s x)) + count kind (answer_to s x).state h

-- of a fresh start, a report (its channel and unit) and an ask (its file and priority): what a test says; of any other call false
abbrev pub of_fresh : Call → Bool
of_fresh (fresh m w masks) = true
of_fresh (opening file channel unit flags size rlen) = false
of_fresh (close file) = false
of_fresh (ask file op priority naming) = false
of_fresh (report channel unit outcome len words) = false
of_fresh (get file) = false
of_fresh (put file words) = false
of_fresh (seal file) = false
of_fresh (skip file) = false
of_fresh freeze = false
of_fresh thaw = false
of_fresh return = false
of_fresh running = false

abbrev pub of_report : (ℕ → ℕ → Bool) → Call → Bool
of_report test (fresh m w masks) = false
of_report test (opening file channel unit flags size rlen) = false
of_report test (close file) = false
of_report test (ask file op priority naming) = false
of_report test (report channel unit outcome len words) = test channel unit
of_report test (get file) = false
of_report test (put file words) = false
of_report test (seal file) = false
of_report test (skip file) = false
of_report test freeze = false
of_report test thaw = false
of_report test return = false
of_report test running = false

abbrev pub of_ask : (ℕ → ℕ → Bool) → Call → Bool
of_ask test (fresh m w masks) = false
of_ask test (opening file channel unit flags size rlen) = false
of_ask test (close file) = false
of_ask test (ask file op priority naming) = test file priority
of_ask test (report channel unit outcome len words) = false
of_ask test (get file) = false
of_ask test (put file words) = false
of_ask test (seal file) = false
of_ask test (skip file) = false
of_ask test freeze = false
of_ask test thaw = false
of_ask test return = false
of_ask test running = false

-- fresh starts
abbrev pub fresh_start : State → Call → Answer → Bool
fresh_start s call a = of_fresh call

-- reports on channel c
abbrev pub is_report_on : ℕ → State → Call → Answer → Bool
is_report_on c s call a = of_report (λ channel unit. eqb channel c) call

-- "results are 00 repeated, .."; "the report's result is 07 in place of 00": every other result answers the request
abbrev pub is_repeat : ℕ → Bool
is_repeat result = eqb result 0 || eqb result 7

abbrev pub is_answer : Added → Bool
is_answer nothing = false
is_answer (working u) = false
is_answer (reported result error u) = not (is_repeat result)
is_answer (got g) = false
is_answer (returned entered p) = false
is_answer (runs p) = false

-- answers to the request of unit u on channel c
abbrev pub is_answer_for : ℕ → ℕ → State → Call → Answer → Bool
is_answer_for c u s call a = of_report (λ channel unit. eqb channel c && (eqb unit u && is_answer a.added)) call

-- priority requests on channel c
abbrev pub is_priority_on : ℕ → State → Call → Answer → Bool
is_priority_on c s call a = of_ask (λ file priority. eqb (file_at s file).channel c && is_priority priority) call

-- requests of unit u on channel c
abbrev pub is_request_of : ℕ → ℕ → State → Call → Answer → Bool
is_request_of c u s call a = of_ask (λ file priority. eqb (file_at s file).channel c && eqb (file_at s file).unit u) call

-- the declared units of channel c
abbrev pub declared_on : State → ℕ → ℕ
declared_on s c = count_of (λ (x : Unit). x.declared) (channel_at s c).units
