-- Each accepted call but report keeps what holds of every open file and its ledger. Assumes nothing.
use mathlib.Core.Path.{◌≡◌, refl, sym, ap₂, subst, ◌∙◌}
use mathlib.Core.Logic.{◌≢◌}
use mathlib.Core.Bool.{Bool, true, false, cond}
use mathlib.Core.List.{List, ◌++◌}
use Prim.Native.Nat.{ℕ, ◌+◌}
use lib.Dec.{eqb, ltb}
use lib.ListN.{length}
use borrow.Author.Tests.{eq-eqb, ne_eqb}
use Rattle.area.proofs.Marks.{cond_true, cond_false}
use Rattle.file.specs.Arrivals.{no_arrival}
use Rattle.file.specs.declared.Slot.TheVariants.{Empty, Part, Full}
use Rattle.file.specs.declared.File.{File}
use Rattle.file.specs.Sides.{buffer_at, slot_at, is_side, part_side, oldest}
use Rattle.file.specs.Fills.{with_slot, turned_by, filled_at, emptied_at, without_oldest}
use Rattle.word.specs.CheckWords.{next_number}
use Rattle.file_output.specs.Puts.{put_side, words_after, after_put}
use Rattle.file_output.specs.Parts.{part_start, part_length, sealed_file}
use Rattle.file_input.specs.Gets.{is_used_up, passed, looked_at, slot_after, after_found, get_from}
use Rattle.state_sound.proofs.FileFacts.{Sound}
use Rattle.state_sound.proofs.Inside.{held_own}
use Rattle.state_sound.proofs.Puts.{put_at, put_is}
use Rattle.state_sound.proofs.Changes.{own_part}
use Rattle.state.specs.declared.State.{State}
use Rattle.state.specs.Places.{file_at}
use Rattle.state_sound.proofs.Facts.{sound_facts}
use Rattle.pack_record.specs.Gets.{get_by, get_words}
use Rattle.pack_record.specs.Skips.{skip_by}
use Rattle.pack_record.specs.Puts.{put_by, put_by_area}
use Rattle.pack_record.specs.Seals.{seal_by, seal_by_area}
use Rattle.pack_record.proofs.GetTheorems.{get_open, get_input, get_area_long, get_finds, get_file, get_frame}
use Rattle.pack_record.proofs.SkipTheorems.{skip_open, skip_input, skip_full, skip_drops, skip_frame}
use Rattle.pack_record.proofs.PutTheorems.{put_area_long, put_open, put_output, put_room, put_exact, put_file, put_own_buffer, put_adds, put_seals, put_frame}
use Rattle.pack_record.proofs.SealTheorems.{seal_area_long, seal_open, seal_output, seal_part, seal_file, seal_own_buffer, seal_seals, seal_frame}
use Rattle.pack.specs.Calls.{get, put, seal, skip, answer_of}
use Rattle.pack.proofs.Kept.{call_kept}
use Rattle.demands_ledger.specs.Ledgers.{Item, Ledger, given_by, past_used, without, with_get, with_put, with_seal, with_skip}
use Rattle.demands_ledger.proofs.Told.{Brought, Told}
use Rattle.demands_ledger.proofs.Sides.{Same, same_self, same_then, slot_same, mark_stays}
use Rattle.demands_ledger.proofs.Writes.{put_wrote, seal_wrote}
use Rattle.demands_ledger.proofs.Brings.{skip_brought}
use Rattle.demands_ledger.proofs.Gives.{gives, get_brought}
use Rattle.demands_ledger.proofs.Frames.{told_out, told_in, Kept, others_same, kept_file}

-- ---- what a call leaves of the file

put_same : (m w : ℕ) (f : File) → Sound m w f → is_side (put_side f) ≡ true → Same f (after_put f)
unfolding filled_at
put_same m w f S room = subst (Same f) (sym (put_is f room (put_at m w f S room))) (go (ltb f.size (words_after f + f.rlen)))
  where
    go : (t : Bool) → Same f (cond t (filled_at f (put_side f) (words_after f) no_arrival) (with_slot f (put_side f) (Part (words_after f)) false f.block))
    go true = slot_same f (put_side f) (Full (words_after f) 0 no_arrival) (turned_by f (put_side f)) (next_number f.block)
    go false = slot_same f (put_side f) (Part (words_after f)) false f.block

seal_same : (f : File) → Same f (sealed_file f)
unfolding sealed_file filled_at
seal_same f = slot_same f (part_side f) (Full (part_length f) 0 no_arrival) (turned_by f (part_side f)) (next_number f.block)

pub drop_same : (f : File) → Same f (without_oldest f)
unfolding without_oldest emptied_at
drop_same f = slot_same f (oldest f) Empty false f.block

pass_same : (f : File) → Same f (passed f)
unfolding passed
pass_same f = go (is_used_up (slot_at f (oldest f)))
  where
    go : (t : Bool) → Same f (cond t (without_oldest f) f)
    go true = drop_same f
    go false = same_self f

pub looked_same : (f : File) → Same f (looked_at f)
unfolding looked_at
looked_same f = same_then f (passed f) (passed (passed f)) (pass_same f) (pass_same (passed f))

get_same : (w : ℕ) (f : File) → Same f (get_from w f).file
unfolding get_from after_found
get_same w f =
    let h = looked_at f in
    same_then f h (after_found h) (looked_same f)
    (slot_same h (oldest h) (slot_after h.rlen (slot_at h (oldest h))) h.turned h.block)

-- whether a mark was read
drop_marked : (f : File) → (without_oldest f).marked ≡ f.marked
unfolding without_oldest emptied_at
drop_marked f = mark_stays f (oldest f) Empty false f.block

pass_marked : (f : File) → (passed f).marked ≡ f.marked
unfolding passed
pass_marked f = go (is_used_up (slot_at f (oldest f)))
  where
    go : (t : Bool) → (cond t (without_oldest f) f).marked ≡ f.marked
    go true = drop_marked f
    go false = refl

pub looked_marked : (f : File) → (looked_at f).marked ≡ f.marked
unfolding looked_at
looked_marked f = pass_marked (passed f) ∙ pass_marked f

get_marked : (w : ℕ) (f : File) → (get_from w f).file.marked ≡ f.marked
unfolding get_from after_found
get_marked w f =
    let h = looked_at f in
    mark_stays h (oldest h) (slot_after h.rlen (slot_at h (oldest h))) h.turned h.block ∙ looked_marked f

-- the ledger of file j alone is another
module _ (ledgers : ℕ → Ledger) (L : Ledger → Ledger) (j : ℕ) where
  abbrev pub entering : ℕ → Ledger
  entering i = cond (eqb j i) (L (ledgers i)) (ledgers i)

  pub entering_other : (i : ℕ) → i ≢ j → entering i ≡ ledgers i
  entering_other i ne = cond_false (L (ledgers i)) (ledgers i) (ne_eqb j i (λ e. ne (sym e)))

  pub entering_here : entering j ≡ L (ledgers j)
  entering_here = cond_true (L (ledgers j)) (ledgers j) (eq-eqb j j refl)

-- ---- put, seal, get, skip

module _ (s : State) (area : List ℕ) (ledgers : ℕ → Ledger) (K : Kept s area ledgers) where
  S : (i : ℕ) → (file_at s i).opened ≡ true → Sound s.m s.w (file_at s i)
  S i o = (sound_facts s K.good.right).files i o

  pub put_kept : (file : ℕ) (words : List ℕ) → (put_by s area file words).refusal ≡ 0
      → Kept (put_by s area file words).state (put_by_area s area file words) (entering ledgers (with_put words) file)
  unfolding answer_of
  put_kept file words z =
      let f = file_at s file in
      let o = put_open s area file words z in
      let room = put_room s area file words z in
      let F = put_frame s area file words in
      let only = put_own_buffer s area file words z in
      kept_file s (put_by s area file words).state area (put_by_area s area file words) ledgers (entering ledgers (with_put words) file) K
      (call_kept s area K.good (put file words)) file F.3 F.0 (entering_other ledgers (with_put words) file)
      (others_same s K.good file (buffer_at f (put_side f)).number (held_own f (put_side f) o (put_at s.m s.w f (S file o) room).own) area
      (put_by_area s area file words) only)
      (subst (λ (h : File). Told s.w h (put_by_area s area file words) (entering ledgers (with_put words) file file))
      (sym (put_file s area file words z))
      (subst (Told s.w (after_put f) (put_by_area s area file words)) (sym (entering_here ledgers (with_put words) file))
      (told_out s.w f (after_put f) (put_same s.m s.w f (S file o) room) (put_by_area s area file words) (with_put words (ledgers file))
      (put_output s area file words z) (K.told file).opened ((K.told file).chose o)
      (put_wrote s.m s.w f (S file o) room area (put_by_area s area file words) words (ledgers file).puts (ledgers file).sent
      (ledgers file).seals ((K.told file).wrote o (put_output s area file words z)) (put_area_long s area file words z)
      (put_exact s area file words z) only
      (put_adds s area file words z) (put_seals s area file words z)))))

  pub seal_kept : (file : ℕ) → (seal_by s area file).refusal ≡ 0
      → Kept (seal_by s area file).state (seal_by_area s area file) (entering ledgers with_seal file)
  unfolding answer_of part_start
  seal_kept file z =
      let f = file_at s file in
      let o = seal_open s area file z in
      let part = seal_part s area file z in
      let F = seal_frame s area file in
      let only = seal_own_buffer s area file z in
      kept_file s (seal_by s area file).state area (seal_by_area s area file) ledgers (entering ledgers with_seal file) K
      (call_kept s area K.good (seal file)) file F.3 F.0 (entering_other ledgers with_seal file)
      (others_same s K.good file (buffer_at f (part_side f)).number (held_own f (part_side f) o (own_part s.m s.w f (S file o) part)) area
      (seal_by_area s area file) only)
      (subst (λ (h : File). Told s.w h (seal_by_area s area file) (entering ledgers with_seal file file)) (sym (seal_file s area file z))
      (subst (Told s.w (sealed_file f) (seal_by_area s area file)) (sym (entering_here ledgers with_seal file))
      (told_out s.w f (sealed_file f) (seal_same f) (seal_by_area s area file) (with_seal (ledgers file)) (seal_output s area file z)
      (K.told file).opened ((K.told file).chose o)
      (seal_wrote s.m s.w f (S file o) part area (seal_by_area s area file) (ledgers file).puts (ledgers file).sent (ledgers file).seals
      ((K.told file).wrote o (seal_output s area file z)) (seal_area_long s area file z) only
      (seal_seals s area file z)))))

  pub get_kept : (file : ℕ) → (get_by s area file).refusal ≡ 0
      → Kept (get_by s area file).state area (entering ledgers (with_get (answer_of s area (get file))) file)
  unfolding answer_of
  get_kept file z =
      let f = file_at s file in
      let o = get_open s area file z in
      let L = ledgers file in
      let F = get_frame s area file in
      let found = get_finds s area file z in
      let same : given_by (get_by s area file).got (get_words s area file) ≡ gives area (get_from s.w f).got = ap₂ given_by found.0 found.2 in
      kept_file s (get_by s area file).state area area ledgers (entering ledgers (with_get (answer_of s area (get file))) file) K
      (call_kept s area K.good (get file)) file F.3 F.0
      (entering_other ledgers (with_get (answer_of s area (get file))) file) (λ i ne p k q. refl)
      (subst (λ (h : File). Told s.w h area (entering ledgers (with_get (answer_of s area (get file))) file file)) (sym (get_file s area file z))
      (subst (Told s.w (get_from s.w f).file area) (sym (entering_here ledgers (with_get (answer_of s area (get file))) file))
      (told_in s.w f (get_from s.w f).file (get_same s.w f) area (with_get (answer_of s area (get file)) L) (get_input s area file z)
      (K.told file).opened ((K.told file).chose o) ((K.told file).marks o (get_input s area file z) ∙ sym (get_marked s.w f))
      (subst (λ (now : List Item). Brought s.w (get_from s.w f).file area L.came (L.gone ++ now)
      (without (length now) (past_used (past_used L.owed)))) (sym same)
      (get_brought s.m s.w f (S file o) area (get_area_long s area file z) L.came L.gone L.owed
      ((K.told file).brought o (get_input s area file z)))))))

  pub skip_kept : (file : ℕ) → (skip_by s file).refusal ≡ 0 → Kept (skip_by s file).state area (entering ledgers with_skip file)
  unfolding answer_of
  skip_kept file z =
      let f = file_at s file in
      let o = skip_open s file z in
      let L = ledgers file in
      let F = skip_frame s file in
      kept_file s (skip_by s file).state area area ledgers (entering ledgers with_skip file) K (call_kept s area K.good (skip file)) file F.3
      F.0
      (entering_other ledgers with_skip file) (λ i ne p k q. refl)
      (subst (λ (h : File). Told s.w h area (entering ledgers with_skip file file)) (sym (skip_drops s file z).0)
      (subst (Told s.w (without_oldest f) area) (sym (entering_here ledgers with_skip file))
      (told_in s.w f (without_oldest f) (drop_same f) area (with_skip L) (skip_input s file z) (K.told file).opened ((K.told file).chose o)
      ((K.told file).marks o (skip_input s file z) ∙ sym (drop_marked f))
      (skip_brought s.w f area L.came L.gone L.owed (skip_full s file z) ((K.told file).brought o (skip_input s file z))))))
