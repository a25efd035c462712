-- From acceptance to its answer an operation takes at most as many reports as its row of the table has attempts and noise records, at most 201,
-- however often it is displaced; and demand 3's bound holds at the answer itself. Assumes nothing.
use mathlib.Core.Path.{◌≡◌}
use mathlib.Core.Bool.{Bool, true, false}
use mathlib.Core.List.{List, [], ◌∷◌, ◌++◌}
use Prim.Native.Nat.{ℕ, ◌+◌, ◌≤◌, ◌<◌}
use native.Mathlib.Omega.{arith}
use Rattle.channel.specs.declared.Op.{Op}
use Rattle.channel_outcomes.specs.Rules.{most_reports, row_of}
use Rattle.channel_theorems.specs.History.{Station, Event, ask, Answer, accepted, step, fresh, run, count, a_report, a_report_of, an_answer_to, KeptWithin}
use Rattle.area.specs.Lists.{one_if}
use Rattle.channel_theorems.proofs.Theorems.Sound.{Sound, limit_most, noise_most, sound_step, sound_run}
use Rattle.channel_theorems.proofs.Theorems.Calls.{took}
use Rattle.channel_theorems.proofs.Theorems.Attempts.{tried_first, tried_run, tried_left}
use Rattle.channel_theorems.proofs.Theorems.Fresh.{sound_fresh}

-- while it has no answer, fewer reports of its unit have been accepted than its row has attempts and noise records
pub within_limit : (declared : List Bool) (before : List Event) (u : ℕ) (op : Op) (priority : Bool) (later : List Event)
    → (step (run (fresh declared) before) (ask u op priority)).answer ≡ accepted
    → count (an_answer_to u) (step (run (fresh declared) before) (ask u op priority)).after later ≡ 0
    → count (a_report_of u) (step (run (fresh declared) before) (ask u op priority)).after later < (row_of op).attempts + (row_of op).noise
unfolding fresh
within_limit declared before u op priority later e z =
    let first = tried_first s u op priority (step s (ask u op priority)) (took s (ask u op priority)) e in
    let k = tried_left u op (0 + count (a_report_of u) d later) (run d later).channel (sound_run d later sound).ok (tried_run u op 0 d later z first) in
    omega arith
  where
    s : Station
    s = run (fresh declared) before

    d : Station
    d = (step s (ask u op priority)).after

    sound : Sound d.channel
    sound = sound_step s (ask u op priority) (sound_run (fresh declared) before (sound_fresh declared))

-- a call more adds one at most
one_most : (b : Bool) → one_if b ≤ 1
one_most true = omega arith
one_most false = omega arith

count_snoc : (kind : Event → Answer → Bool) (s : Station) (h : List Event) (e : Event) → count kind s (h ++ (e ∷ [])) ≤ 1 + count kind s h
unfolding count
count_snoc kind s [] e = omega (arith, one_most (kind e (step s e).answer))
count_snoc kind s (f ∷ h) e = omega (arith, count_snoc kind (step s f).after h e)

-- so the report that answers it is at most the last of them, the 201st of a read and the 27th of a write or mark
pub limit_at_answer : (declared : List Bool) (before : List Event) (u : ℕ) (op : Op) (priority : Bool) (later : List Event) (e : Event)
    → (step (run (fresh declared) before) (ask u op priority)).answer ≡ accepted
    → count (an_answer_to u) (step (run (fresh declared) before) (ask u op priority)).after later ≡ 0
    → (count (a_report_of u) (step (run (fresh declared) before) (ask u op priority)).after (later ++ (e ∷ [])) ≤ (row_of op).attempts + (row_of op).noise)
    × ((row_of op).attempts + (row_of op).noise ≤ most_reports)
limit_at_answer declared before u op priority later e a z =
    let l = within_limit declared before u op priority later a z in
    let s = count_snoc (a_report_of u) (step (run (fresh declared) before) (ask u op priority)).after later e in
    (omega arith, omega (arith, limit_most op, noise_most op))

-- the same of demand 3 and of M-112: the call e that answers is among the first accepted reports, as many as the bound says
pub answered_by : {most u : ℕ} {d : Station} {later : List Event} → KeptWithin most u d later → (e : Event) → count (an_answer_to u) d later ≡ 0
    → count a_report d (later ++ (e ∷ [])) ≤ most
answered_by {d = d} {later = later} k e z =
    let a = k.soon z in
    let b = count_snoc a_report d later e in
    omega arith
