-- The pack as a system around one channel, and histories without a second fresh start as histories of that system. Assumes nothing.
use mathlib.Core.Path.{◌≡◌, refl, sym, ap, ◌∙◌}
use mathlib.Core.Bool.{Bool, true, ◌&&◌}
use mathlib.Core.List.{List, [], ◌∷◌}
use Prim.Native.Nat.{ℕ}
use native.Mathlib.Omega.{arith}
use borrow.Author.Tests.{eq-eqb}
use Rattle.channel_outcomes.specs.declared.Ending.TheVariants.{Good}
use Rattle.channel_theorems.specs.History as history
use Rattle.channel_theorems.specs.Lifted.{System, run_in, count_shown, count_in}
use Rattle.state.specs.declared.State.{State}
use Rattle.pack.specs.Calls.{Call, fresh, opening, close, ask, report, get, put, seal, skip, freeze, thaw, return, running, Answer, answer_of}
use Rattle.pack.specs.Histories.{Lent, answer_to, after, is_accepted, count, fresh_start}
use Rattle.area.specs.Lists.{one_if}
use Rattle.pack.proofs.Refused.{call_alone_lem}
use Rattle.pack.proofs.Kept as kept
use Rattle.pack.proofs.Kept.{call_kept}
use Rattle.pack.proofs.Seen.{station_at, seen, next_of}

-- ---- the pack as a system around channel c

abbrev pub pack_around : ℕ → System
pack_around c = record {
  State = State;
  Call = Lent;
  next = λ s x. next_of s x.area x.call;
  part = station_at c;
  shown = λ s x. seen c s x.area x.call;
}

pub good_next : (s : State) (x : Lent) → kept.Good s → kept.Good (next_of s x.area x.call)
good_next s x g = go x.call
  where
    go : (call : Call) → kept.Good (next_of s x.area call)
    go (fresh m w masks) = g
    go (opening file channel unit flags size rlen) = call_kept s x.area g (opening file channel unit flags size rlen)
    go (close file) = call_kept s x.area g (close file)
    go (ask file op priority naming) = call_kept s x.area g (ask file op priority naming)
    go (report channel unit outcome len words) = call_kept s x.area g (report channel unit outcome len words)
    go (get file) = call_kept s x.area g (get file)
    go (put file words) = call_kept s x.area g (put file words)
    go (seal file) = call_kept s x.area g (seal file)
    go (skip file) = call_kept s x.area g (skip file)
    go freeze = call_kept s x.area g freeze
    go thaw = call_kept s x.area g thaw
    go return = call_kept s x.area g return
    go running = call_kept s x.area g running

-- ---- a history without a second fresh start is one of that system

-- a fresh start that is not accepted leaves the state
pub next_same : (s : State) (area : List ℕ) (call : Call) → one_if (is_accepted (answer_of s area call) && fresh_start s call (answer_of s area call)) ≡ 0
    → next_of s area call ≡ (answer_of s area call).state
next_same s area (fresh m w masks) z =
    sym (ap (λ (a : Answer). a.state) (call_alone_lem s area (fresh m w masks) (λ e. refute (is_accepted a) (eq-eqb a.refusal 0 e) z)))
  where
    a : Answer
    a = answer_of s area (fresh m w masks)

    refute : (b : Bool) → b ≡ true → one_if (b && true) ≡ 0 → ⊥
    refute b e q = let k : one_if (b && true) ≡ 1 = rw e in omega arith
next_same s area (opening file channel unit flags size rlen) z = refl
next_same s area (close file) z = refl
next_same s area (ask file op priority naming) z = refl
next_same s area (report channel unit outcome len words) z = refl
next_same s area (get file) z = refl
next_same s area (put file words) z = refl
next_same s area (seal file) z = refl
next_same s area (skip file) z = refl
next_same s area freeze z = refl
next_same s area thaw z = refl
next_same s area return z = refl
next_same s area running z = refl

module _ (c : ℕ) where
  pub run_same : (s : State) (h : List Lent) → count fresh_start s h ≡ 0 → run_in (pack_around c) s h ≡ after s h
  unfolding run_in after count
  run_same s [] z = refl
  run_same s (x ∷ h) z =
      let here = next_same s x.area x.call (omega arith) in
      ap (λ (t : State). run_in (pack_around c) t h) here ∙ run_same (answer_to s x).state h (omega arith)

  -- a kind of call that is, call by call, a kind of event
  unfoldable pub Matches : (State → Call → Answer → Bool) → (history.Event → history.Answer → Bool) → Type 0
  Matches kind event = (s : State) (area : List ℕ) → kept.Good s → (call : Call)
      → count_shown event (seen c s area call) ≡ one_if (is_accepted (answer_of s area call) && kind s call (answer_of s area call))

  pub count_same : (kind : State → Call → Answer → Bool) (event : history.Event → history.Answer → Bool) → Matches kind event
      → (s : State) (h : List Lent)
      → kept.Good s → count fresh_start s h ≡ 0 → count_in (pack_around c) event s h ≡ count kind s h
  unfolding count_in count Matches
  count_same kind event m s [] g z = refl
  count_same kind event m s (x ∷ h) g z =
      let here = next_same s x.area x.call (omega arith) in
      let a = m s x.area g x.call in
      let b : count_in (pack_around c) event (next_of s x.area x.call) h ≡ count_in (pack_around c) event (answer_to s x).state h =
      ap (λ (t : State). count_in (pack_around c) event t h) here in
      let d = count_same kind event m (answer_to s x).state h (call_kept s x.area g x.call) (omega arith) in
      omega arith
