-- What holds of every open file and its ledger holds after every call, and so over every history. Assumes nothing.
use mathlib.Core.Path.{◌≡◌, sym, subst}
use mathlib.Core.Bool.{Bool, cond}
use mathlib.Core.List.{List, [], ◌∷◌}
use Prim.Native.Nat.{ℕ}
use native.Mathlib.Decide.{ℕ_discrete}
use borrow.Author.Tests.{eq-eqb, ne_eqb}
use Rattle.state.specs.declared.State.{State}
use Rattle.pack_start.specs.declared.Masks.{Masks}
use Rattle.pack.specs.Calls.{Call, fresh, opening, close, ask, report, get, put, seal, skip, freeze, thaw, return, running, Answer, answer_of}
use Rattle.pack.specs.Histories.{is_accepted}
use Rattle.pack.proofs.Refused.{call_alone_lem}
use Rattle.pack.proofs.Kept.{call_kept, good_start}
use Rattle.demands_ledger.specs.Ledgers.{Ledger, blank_ledger, entered, noted, state_after, area_after, ledger_after}
use Rattle.demands_ledger.proofs.Frames.{Kept}
use Rattle.demands_ledger.proofs.Moves.{put_kept, seal_kept, get_kept, skip_kept}
use Rattle.demands_ledger.proofs.Starts.{fresh_kept, open_kept, close_kept, ask_kept, freeze_kept, thaw_kept, return_kept, running_kept}
use Rattle.demands_ledger.proofs.Reported.{report_kept}

module _ (s : State) (area : List ℕ) (ledgers : ℕ → Ledger) (K : Kept s area ledgers) where
  pub accepted_kept : (call : Call) → (answer_of s area call).refusal ≡ 0
      → Kept (answer_of s area call).state (answer_of s area call).area (λ i. entered i call (answer_of s area call) (ledgers i))
  unfolding answer_of
  accepted_kept (fresh m w masks) z = fresh_kept s area m w masks (call_kept s area K.good (fresh m w masks)) z
  accepted_kept (opening file channel unit flags size rlen) z = open_kept s area ledgers K file channel unit flags size rlen z
  accepted_kept (close file) z = close_kept s area ledgers K file z
  accepted_kept (ask file op priority naming) z = ask_kept s area ledgers K file op priority naming z
  accepted_kept (report channel unit outcome len words) z = report_kept s area ledgers K channel unit outcome len words z
  accepted_kept (get file) z = get_kept s area ledgers K file z
  accepted_kept (put file words) z = put_kept s area ledgers K file words z
  accepted_kept (seal file) z = seal_kept s area ledgers K file z
  accepted_kept (skip file) z = skip_kept s area ledgers K file z
  accepted_kept freeze z = freeze_kept s area ledgers K
  accepted_kept thaw z = thaw_kept s area ledgers K
  accepted_kept return z = return_kept s area ledgers K
  accepted_kept running z = running_kept s area ledgers K

  -- a refused call enters no ledger and changes nothing
  pub noted_kept : (call : Call)
      → Kept (answer_of s area call).state (answer_of s area call).area (λ i. noted i call (answer_of s area call) (ledgers i))
  noted_kept call = go (ℕ_discrete a.refusal 0)
    where
      a : Answer
      a = answer_of s area call

      To : Bool → Type 0
      To t =
          Kept (answer_of s area call).state (answer_of s area call).area
          (λ i. cond t (entered i call (answer_of s area call) (ledgers i)) (ledgers i))

      go : Dec ((answer_of s area call).refusal ≡ 0) → To (is_accepted (answer_of s area call))
      go (yes z) = subst To (sym (eq-eqb (answer_of s area call).refusal 0 z)) (accepted_kept call z)
      go (no h) =
          subst To (sym (ne_eqb (answer_of s area call).refusal 0 h))
          (subst (λ (x : Answer). Kept x.state x.area ledgers) (sym (call_alone_lem s area call h)) K)

-- ---- every history in which the pack alone writes the area

pub always : (s : State) (area : List ℕ) (ledgers : ℕ → Ledger) → Kept s area ledgers → (calls : List Call)
    → Kept (state_after s area calls) (area_after s area calls) (λ i. ledger_after i s area (ledgers i) calls)
unfolding state_after area_after ledger_after
always s area ledgers K [] = K
always s area ledgers K (call ∷ calls) =
    always (answer_of s area call).state (answer_of s area call).area (λ i. noted i call (answer_of s area call) (ledgers i))
    (noted_kept s area ledgers K call) calls

-- from a fresh start
pub started : (s : State) (area : List ℕ) (m w : ℕ) (masks : Masks) → (answer_of s area (fresh m w masks)).refusal ≡ 0
    → Kept (answer_of s area (fresh m w masks)).state area (λ i. blank_ledger)
unfolding answer_of
started s area m w masks z = fresh_kept s area m w masks (good_start s area m w masks z) z
