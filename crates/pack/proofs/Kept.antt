-- Whatever is called, a sound state of sixteen files leads to one: over any history. Assumes nothing.
use mathlib.Core.Path.{◌≡◌, refl, sym, ap, subst, ◌∙◌}
use mathlib.Core.Bool.{Bool, true, false, cond}
use mathlib.Core.List.{List, [], ◌∷◌}
use Prim.Native.Nat.{ℕ}
use native.Mathlib.Decide.{ℕ_discrete}
use lib.Dec.{eqb}
use lib.ListN.{length, length-set}
use Rattle.file.specs.declared.File.{File}
use Rattle.pool.specs.Free.{file_count}
use Rattle.state.specs.declared.State.{State}
use Rattle.state.specs.Places.{before_start}
use Rattle.state.specs.Stores.{with_file}
use Rattle.state_sound.specs.Soundness.{sound}
use Rattle.state_sound.proofs.Wholes.{before_start_sound}
use Rattle.pack_start.specs.declared.Masks.{Masks}
use Rattle.pack_start.specs.Fresh.{fresh_state, fresh_by}
use Rattle.pack_open.specs.Open.{open_change, open_by}
use Rattle.pack_open.specs.Close.{close_change, close_by}
use Rattle.pack_record.specs.Gets.{get_change, get_by}
use Rattle.pack_record.specs.Skips.{skip_change, skip_by}
use Rattle.pack_record.specs.Puts.{put_change, put_by}
use Rattle.pack_record.specs.Seals.{seal_change, seal_by}
use Rattle.pack_start.proofs.FreshTheorems.{fresh_refused, fresh_accepted, fresh_judged, fresh_kept}
use Rattle.pack_open.proofs.OpenTheorems.{open_kept}
use Rattle.pack_open.proofs.CloseTheorems.{close_kept}
use Rattle.pack_start.proofs.FreezeTheorems.{freeze_kept, freeze_frame, thaw_kept, thaw_frame}
use Rattle.pack_request.proofs.AskTheorems.{ask_kept, ask_frame}
use Rattle.pack_request.proofs.ReportTheorems.{report_kept, report_frame}
use Rattle.pack_routine.proofs.Theorems.{return_kept, return_frame, running_kept, running_frame}
use Rattle.pack_record.proofs.GetTheorems.{get_kept}
use Rattle.pack_record.proofs.SkipTheorems.{skip_kept}
use Rattle.pack_record.proofs.PutTheorems.{put_kept}
use Rattle.pack_record.proofs.SealTheorems.{seal_kept}
use Rattle.pack.specs.Calls.{Call, fresh, opening, close, ask, report, get, put, seal, skip, freeze, thaw, return, running, answer_of}
use Rattle.pack.specs.Histories.{Lent, after}

-- what holds of every state that calls lead to from a fresh start
pub record Good (s : State) : Type 0 where
  pub right : sound s ≡ true
  pub sixteen : length s.files ≡ file_count

-- ---- one call

stored_length : (b : Bool) (s : State) (i : ℕ) (f : File) → length (cond b (with_file s i f) s).files ≡ length s.files
unfolding with_file
stored_length true s i f = length-set s.files i f
stored_length false s i f = refl

good_fresh : (s : State) (n m w : ℕ) (masks : Masks) → Good s → Good (fresh_by s n m w masks).state
unfolding fresh_state
good_fresh s n m w masks g = go (ℕ_discrete (fresh_by s n m w masks).refusal 0)
  where
    go : Dec ((fresh_by s n m w masks).refusal ≡ 0) → Good (fresh_by s n m w masks).state
    go (yes e) = record { right = fresh_kept s n m w masks e; sixteen = ap (λ (t : State). length t.files) (fresh_accepted s n m w masks e) }
    go (no h) = subst Good (sym (fresh_refused s n m w masks h)) g

module _ (s : State) (area : List ℕ) (g : Good s) where
  open_length : (file channel unit flags size rlen : ℕ) → length (open_by s file channel unit flags size rlen).state.files ≡ length s.files
  unfolding open_by
  open_length file channel unit flags size rlen =
      stored_length (eqb (open_change s file channel unit flags size rlen).refusal 0) s file (open_change s file channel unit flags size rlen).file

  close_length : (file : ℕ) → length (close_by s file).state.files ≡ length s.files
  unfolding close_by
  close_length file = stored_length (eqb (close_change s file).refusal 0) s file (close_change s file).file

  get_length : (file : ℕ) → length (get_by s area file).state.files ≡ length s.files
  unfolding get_by
  get_length file = stored_length (eqb (get_change s area file).refusal 0) s file (get_change s area file).file

  put_length : (file : ℕ) (words : List ℕ) → length (put_by s area file words).state.files ≡ length s.files
  unfolding put_by
  put_length file words = stored_length (eqb (put_change s area file words).refusal 0) s file (put_change s area file words).file

  seal_length : (file : ℕ) → length (seal_by s area file).state.files ≡ length s.files
  unfolding seal_by
  seal_length file = stored_length (eqb (seal_change s area file).refusal 0) s file (seal_change s area file).file

  skip_length : (file : ℕ) → length (skip_by s file).state.files ≡ length s.files
  unfolding skip_by
  skip_length file = stored_length (eqb (skip_change s file).refusal 0) s file (skip_change s file).file

  pub call_kept : (call : Call) → Good (answer_of s area call).state
  unfolding answer_of
  call_kept (fresh m w masks) = good_fresh s (length area) m w masks g
  call_kept (opening file channel unit flags size rlen) = record {
    right = open_kept s file channel unit flags size rlen g.sixteen g.right;
    sixteen = open_length file channel unit flags size rlen ∙ g.sixteen;
  }
  call_kept (close file) = record { right = close_kept s file g.right; sixteen = close_length file ∙ g.sixteen }
  call_kept (ask file op priority naming) =
      record { right = ask_kept s file op priority naming g.right; sixteen = (ask_frame s file op priority naming).file_count ∙ g.sixteen }
  call_kept (report channel unit outcome len words) = record {
    right = report_kept s area channel unit outcome len words g.sixteen g.right;
    sixteen = (report_frame s area channel unit outcome len words).file_count ∙ g.sixteen;
  }
  call_kept (get file) = record { right = get_kept s area file g.right; sixteen = get_length file ∙ g.sixteen }
  call_kept (put file words) = record { right = put_kept s area file words g.right; sixteen = put_length file words ∙ g.sixteen }
  call_kept (seal file) = record { right = seal_kept s area file g.right; sixteen = seal_length file ∙ g.sixteen }
  call_kept (skip file) = record { right = skip_kept s file g.right; sixteen = skip_length file ∙ g.sixteen }
  call_kept freeze = record { right = freeze_kept s g.right; sixteen = ap length (freeze_frame s).0.files ∙ g.sixteen }
  call_kept thaw = record { right = thaw_kept s g.right; sixteen = ap length (thaw_frame s).files ∙ g.sixteen }
  call_kept return = record { right = return_kept s g.right; sixteen = ap length (return_frame s).files ∙ g.sixteen }
  call_kept running = record { right = running_kept s g.right; sixteen = ap length (running_frame s).files ∙ g.sixteen }

-- ---- any history

pub history_kept : (s : State) (h : List Lent) → Good s → Good (after s h)
unfolding after
history_kept s [] g = g
history_kept s (x ∷ h) g = history_kept (answer_of s x.area x.call).state h (call_kept s x.area g x.call)

-- before the first fresh start
pub good_before : Good before_start
unfolding before_start
good_before = record { right = before_start_sound; sixteen = refl }

-- "a state passed back is unsound": an accepted fresh start was passed a sound state
pub start_judged : (s : State) (area : List ℕ) (m w : ℕ) (masks : Masks) → (answer_of s area (fresh m w masks)).refusal ≡ 0 → sound s ≡ true
unfolding answer_of
start_judged s area m w masks e = fresh_judged s (length area) m w masks e

-- the state that an accepted fresh start leaves
pub good_start : (s : State) (area : List ℕ) (m w : ℕ) (masks : Masks) → (answer_of s area (fresh m w masks)).refusal ≡ 0
    → Good (answer_of s area (fresh m w masks)).state
unfolding answer_of fresh_state
good_start s area m w masks e = record {
  right = fresh_kept s (length area) m w masks e;
  sixteen = ap (λ (t : State). length t.files) (fresh_accepted s (length area) m w masks e);
}
