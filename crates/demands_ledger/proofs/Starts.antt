-- Fresh start, open, close, ask, freeze, thaw, return and what runs keep what holds of every open file and its ledger. Assumes nothing.
use mathlib.Core.Path.{◌≡◌, refl, sym, ap, subst, ◌∙◌}
use mathlib.Core.Bool.{Bool, true, false, cond}
use mathlib.Core.List.{List, []}
use Prim.Native.Nat.{ℕ, zero, suc, ◌≤◌}
use borrow.Author.Tests.{leb-true}
use lib.Dec.{leb}
use lib.ListN.{length, get_or, replicate}
use Rattle.area.specs.Lists.{any_of}
use Rattle.area.proofs.Walks.{true_not_false, and_left, and_right}
use Rattle.file.specs.declared.Slot.{Slot}
use Rattle.file.specs.declared.Slot.TheVariants.{Empty, Taken, Part, Full}
use Rattle.file.specs.declared.Side.{Side}
use Rattle.file.specs.declared.Side.TheVariants.{Low, High, Neither}
use Rattle.file.specs.declared.File.{File}
use Rattle.file.specs.declared.Wish.{Wish}
use Rattle.file.specs.Slots.{is_empty, is_part}
use Rattle.file.specs.Sides.{slot_at, is_side, empty_side, part_side}
use Rattle.file.specs.Fills.{with_slot}
use Rattle.file.specs.Sizes.{opened_file, closed_file}
use Rattle.file_input.specs.Delivers.{took_buffer}
use Rattle.file_output.specs.Parts.{part_start, part_length}
use Rattle.file_input.specs.Ages.{line}
use Rattle.file_input.proofs.Ages.{took_line}
use Rattle.file.proofs.Which.{empty_there}
use Rattle.pool.specs.Free.{file_count}
use Rattle.routines.specs.declared.Naming.{Naming}
use Rattle.state.specs.declared.State.{State}
use Rattle.state.specs.Places.{file_at, channel_at}
use Rattle.pack_start.specs.declared.Masks.{Masks}
use Rattle.pack_start.specs.Fresh.{fresh_state, fresh_by}
use Rattle.call_open.specs.Open.{wish_of}
use Rattle.pack_open.specs.Open.{open_by}
use Rattle.pack_open.specs.Close.{close_by}
use Rattle.pack_start.specs.Freeze.{freeze_by, thaw_by}
use Rattle.pack_start.proofs.FreshTheorems.{fresh_accepted}
use Rattle.pack_open.proofs.OpenTheorems.{low_of, high_of, open_accepted, open_file, open_frame}
use Rattle.pack_open.proofs.CloseTheorems.{close_file, close_frame}
use Rattle.pack_start.proofs.FreezeTheorems.{OnlyTurns, freeze_frame, thaw_frame}
use Rattle.call_request.specs.Ask.{is_reading, ask_refusal, asked_file}
use Rattle.pack_request.specs.Calls.{ask_wrong, ask_waits, ask_by}
use Rattle.pack_request.proofs.AskTheorems.{ask_exactly, ask_frame, ask_file}
use Rattle.pack_routine.specs.Calls.{return_by, running_by}
use Rattle.pack_routine.proofs.Theorems.{OnlyRoutines, return_frame, running_frame}
use Rattle.pack.specs.Calls.{opening, close, ask, freeze, thaw, return, running, answer_of}
use Rattle.pack.proofs.Kept.{Good, call_kept}
use Rattle.demands_ledger.specs.Ledgers.{Choice, Ledger, choice_of, new_ledger, blank_ledger, with_ask, with_close}
use Rattle.demands_ledger.specs.Blocks.{all_checked, joined, contents, number_after, done}
use Rattle.demands_ledger.proofs.Told.{none, Told}
use Rattle.demands_ledger.proofs.Sides.{slot_same, block_stays, mark_stays, part_stays}
use Rattle.demands_ledger.proofs.Cuts.{filling_none}
use Rattle.demands_ledger.proofs.Frames.{told_still, told_closed, Kept, kept_file}
use Rattle.demands_ledger.proofs.Moves.{entering, entering_other, entering_here}

-- what a wish chooses
abbrev chosen_by : Wish → Choice
chosen_by q = record { channel = q.channel; unit = q.unit; sequence = q.sequence; check = q.check; size = q.size; rlen = q.rlen }

-- a file as it is opened
told_opened : (w : ℕ) (q : Wish) (low high : ℕ) (area : List ℕ) → q.rlen ≤ q.size
    → Told w (opened_file q low high) area (new_ledger (chosen_by q))
unfolding opened_file line part_start part_length part_side joined all_checked contents number_after any_of
told_opened w q low high area fits = record {
  opened = refl;
  chose = λ o. record { on_channel = refl; on_unit = refl; sequences = refl; checks = refl; sizes = refl; rlens = refl };
  marks = λ o p. refl;
  wrote = λ o p. record {
    data_words_lem = [];
    words = refl;
    blocks = refl;
    number = refl;
    sized = done;
    filling = filling_none q.rlen q.size [] 0 fits (λ k e. true_not_false e refl);
  };
  brought = λ o p. record { lies = refl; items = refl; number = refl; untold = none };
}

-- every file after a fresh start is closed
all_closed : (n i : ℕ) → (get_or (replicate n closed_file) i closed_file).opened ≡ false
all_closed zero i = refl
all_closed (suc n) zero = refl
all_closed (suc n) (suc i) = all_closed n i

-- a read takes a buffer that is empty
empty_no_part : (f : File) → is_part (slot_at f (empty_side f)) ≡ false
empty_no_part f = go (empty_side f) (empty_there f)
  where
    not_part : (x : Slot) → is_empty x ≡ true → is_part x ≡ false
    not_part Empty e = refl
    not_part Taken e = refl
    not_part (Part n) e = true_not_false e refl
    not_part (Full n at err) e = refl

    go : (k : Side) → (is_side k ≡ true → is_empty (slot_at f k) ≡ true) → is_part (slot_at f k) ≡ false
    go Low h = not_part (slot_at f Low) (h refl)
    go High h = not_part (slot_at f High) (h refl)
    go Neither h = refl

told_took : (w : ℕ) (f : File) (area : List ℕ) (L : Ledger) → Told w f area L → Told w (took_buffer f) area L
unfolding took_buffer
told_took w f area L T =
    told_still w f (with_slot f (empty_side f) Taken false f.block) (slot_same f (empty_side f) Taken false f.block) area L (took_line f)
    (part_stays w f (empty_side f) Taken false f.block area (empty_no_part f) refl) (block_stays f (empty_side f) Taken false)
    (mark_stays f (empty_side f) Taken false f.block) T

told_asked : (w op : ℕ) (f : File) (area : List ℕ) (L : Ledger) → Told w f area L → Told w (asked_file op f) area L
unfolding asked_file
told_asked w op f area L T = go (is_reading op)
  where
    go : (t : Bool) → Told w (cond t (took_buffer f) f) area L
    go true = told_took w f area L T
    go false = T

-- no word of a ledger but its own changes
told_noted : (w op : ℕ) (f : File) (area : List ℕ) (L : Ledger) → Told w f area L → Told w f area (with_ask op L)
told_noted w op f area L T = record { opened = T.opened; chose = T.chose; marks = T.marks; wrote = T.wrote; brought = T.brought }

-- a fresh start closes every file, whatever was
pub fresh_kept : (s : State) (area : List ℕ) (m w : ℕ) (masks : Masks) → Good (fresh_by s (length area) m w masks).state
    → (fresh_by s (length area) m w masks).refusal ≡ 0
    → Kept (fresh_by s (length area) m w masks).state area (λ i. blank_ledger)
unfolding fresh_state
fresh_kept s area m w masks g z = record {
  good = g;
  told = λ i.
      told_closed _ _ area blank_ledger (ap (λ (t : State). (file_at t i).opened) (fresh_accepted s (length area) m w masks z) ∙ all_closed file_count i)
      refl;
}

module _ (s : State) (area : List ℕ) (ledgers : ℕ → Ledger) (K : Kept s area ledgers) where
  pub open_kept : (file channel unit flags size rlen : ℕ) → (open_by s file channel unit flags size rlen).refusal ≡ 0
      → Kept (open_by s file channel unit flags size rlen).state area
      (entering ledgers (λ g. new_ledger (choice_of channel unit flags size rlen)) file)
  unfolding answer_of
  open_kept file channel unit flags size rlen z =
      let t = (open_by s file channel unit flags size rlen).state in
      let F = open_frame s file channel unit flags size rlen in
      kept_file s t area area ledgers (entering ledgers (λ g. new_ledger (choice_of channel unit flags size rlen)) file) K
      (call_kept s area K.good (opening file channel unit flags size rlen)) file F.w F.files
      (entering_other ledgers (λ g. new_ledger (choice_of channel unit flags size rlen)) file) (λ i ne p k q. refl)
      (subst (λ (h : File). Told s.w h area (entering ledgers (λ g. new_ledger (choice_of channel unit flags size rlen)) file file))
      (sym (open_file s file channel unit flags size rlen z K.good.sixteen))
      (subst (Told s.w (opened_file (wish_of channel unit flags size rlen) (low_of s) (high_of s)) area)
      (sym (entering_here ledgers (λ g. new_ledger (choice_of channel unit flags size rlen)) file))
      (told_opened s.w (wish_of channel unit flags size rlen) (low_of s) (high_of s) area
      (leb-true rlen size (and_left (leb rlen size) _ (and_right (leb 1 rlen) _ (open_accepted s file channel unit flags size rlen z).sizes))))))

  pub close_kept : (file : ℕ) → (close_by s file).refusal ≡ 0 → Kept (close_by s file).state area (entering ledgers with_close file)
  unfolding answer_of
  close_kept file z =
      let F = close_frame s file in
      kept_file s (close_by s file).state area area ledgers (entering ledgers with_close file) K (call_kept s area K.good (close file)) file F.w
      F.files
      (entering_other ledgers with_close file) (λ i ne p k q. refl)
      (told_closed s.w (file_at (close_by s file).state file) area (entering ledgers with_close file file)
      (ap (λ (f : File). f.opened) (close_file s file z))
      (ap (λ (g : Ledger). g.opened) (entering_here ledgers with_close file)))

  pub asked_number : (file op priority : ℕ) (naming : Naming) → (ask_by s file op priority naming).refusal ≡ 0
      → ask_refusal (ask_wrong s file) (file_at s file) (channel_at s (file_at s file).channel) op priority naming (ask_waits s file) ≡ 0
  unfolding ask_refusal
  asked_number file op priority naming z = sym (ask_exactly s file op priority naming).number ∙ z

  pub ask_kept : (file op priority : ℕ) (naming : Naming) → (ask_by s file op priority naming).refusal ≡ 0
      → Kept (ask_by s file op priority naming).state area (entering ledgers (with_ask op) file)
  unfolding answer_of
  ask_kept file op priority naming z =
      let F = ask_frame s file op priority naming in
      kept_file s (ask_by s file op priority naming).state area area ledgers (entering ledgers (with_ask op) file) K
      (call_kept s area K.good (ask file op priority naming)) file F.words F.files (entering_other ledgers (with_ask op) file) (λ i ne p k q. refl)
      (subst (λ (h : File). Told s.w h area (entering ledgers (with_ask op) file file)) (sym (ask_file s file op priority naming z))
      (subst (Told s.w (asked_file op (file_at s file)) area) (sym (entering_here ledgers (with_ask op) file))
      (told_noted s.w op (asked_file op (file_at s file)) area (ledgers file)
      (told_asked s.w op (file_at s file) area (ledgers file) (K.told file)))))

  -- the files are as they were
  turns_kept : (t : State) → Good t → OnlyTurns s t → Kept t area ledgers
  turns_kept t g O = record {
    good = g;
    told = λ i.
        subst (λ (w : ℕ). Told w (file_at t i) area (ledgers i)) (sym O.w)
        (subst (λ (fs : List File). Told s.w (get_or fs i closed_file) area (ledgers i)) (sym O.files) (K.told i));
  }

  pub freeze_kept : Kept (freeze_by s).state area ledgers
  unfolding answer_of
  freeze_kept = turns_kept (freeze_by s).state (call_kept s area K.good freeze) (freeze_frame s).0

  pub thaw_kept : Kept (thaw_by s).state area ledgers
  unfolding answer_of
  thaw_kept = turns_kept (thaw_by s).state (call_kept s area K.good thaw) (thaw_frame s)

  -- a return and a question after what runs leave all but the routines
  ran_kept : (t : State) → Good t → OnlyRoutines s t → Kept t area ledgers
  ran_kept t g O = turns_kept t g (record { m = O.m; w = O.w; files = O.files })

  pub return_kept : Kept (return_by s).state area ledgers
  unfolding answer_of
  return_kept = ran_kept (return_by s).state (call_kept s area K.good return) (return_frame s)

  pub running_kept : Kept (running_by s).state area ledgers
  unfolding answer_of
  running_kept = ran_kept (running_by s).state (call_kept s area K.good running) (running_frame s)
