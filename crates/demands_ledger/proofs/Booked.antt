-- An accepted report keeps what holds of every open file and its ledger. Assumes nothing.
use mathlib.Core.Path.{◌≡◌, refl, sym, ap, ap₂, subst, ◌∙◌}
use mathlib.Core.Bool.{Bool, true, false, ◌||◌}
use mathlib.Core.List.{List, [], ◌∷◌, ◌++◌, map, append-nil}
use Prim.Native.Nat.{ℕ, ◌+◌, ◌-◌, ◌*◌, ◌≤◌}
use native.Mathlib.Nat.{add-zero}
use native.Mathlib.Omega.{arith}
use lib.ListN.{length, take, drop}
use lib.Seq.{take-take}
use Rattle.area.specs.Parts.{part_of, pasted_in}
use Rattle.area.proofs.Walks.{true_not_false}
use Rattle.area.proofs.Pastes.{length_part}
use Rattle.block.specs.Blocks.{judged_block}
use Rattle.word.specs.declared.Checked.{Checked}
use Rattle.file.specs.declared.Arrival.{Arrival}
use Rattle.file.proofs.ArrivalLaws.{arrival}
use Rattle.file.specs.declared.Slot.{Slot}
use Rattle.file.specs.declared.Slot.TheVariants.{Empty, Taken, Part, Full}
use Rattle.file.specs.declared.Side.{Side}
use Rattle.file.specs.declared.Side.TheVariants.{Low, High, Neither}
use Rattle.file.specs.declared.File.{File}
use Rattle.file.specs.Slots.{is_taken, is_part, is_full, part_words, full_words}
use Rattle.file.specs.Sides.{buffer_at, slot_at, start_at, is_side, lower, taken_side, part_side, oldest}
use Rattle.file.specs.Fills.{with_slot, turned_by, filled_at, emptied_at, without_oldest}
use Rattle.word.specs.CheckWords.{next_number, extra}
use Rattle.file_input.specs.Delivers.{block_fits, delivered, gave_back, with_file_mark, met_mark}
use Rattle.file_output.specs.Parts.{part_start, part_length}
use Rattle.file_output.specs.Sends.{send_start, send_words}
use Rattle.file_input.specs.Ages.{line}
use Rattle.file_input.proofs.Ages.{block, Aged, no_block, old, aged, delivered_line, back_line}
use Rattle.file.proofs.Which.{taken_there}
use Rattle.state_sound.proofs.FileFacts.{Sound}
use Rattle.state_sound.proofs.Changes.{numbers, own_taken, taken_input}
use Rattle.state_sound.proofs.Inside.{send_inside}
use Rattle.call_request.proofs.Found.{fits_bounds}
use Rattle.pack_record.proofs.Written.{only_wider, pasted_only, pasted_part}
use Rattle.demands_ledger.specs.Ledgers.{Item, word, wrongs, Came, Ledger, as_block, came_by, contents_of, owed_for}
use Rattle.demands_ledger.specs.Blocks.{part_in}
use Rattle.demands_ledger.proofs.Told.{Wrote, Brought, Told}
use Rattle.demands_ledger.proofs.Lines.{unread_same, beside}
use Rattle.demands_ledger.proofs.Sides.{Same, slot_same, slot_block, block_stays, mark_stays, part_stays}
use Rattle.demands_ledger.proofs.Writes.{send_wrote}
use Rattle.demands_ledger.proofs.Brings.{brought_more}
use Rattle.demands_ledger.proofs.Frames.{marking, told_out, told_in, told_marked, told_still}
use Rattle.demands_ledger.proofs.Moves.{drop_same}

-- ---- the ledger with a mark or a block more, or none

abbrev pub plus : Ledger → Bool → List (List ℕ) → List Came → List (List Item) → Ledger
plus L mark sent came owed = record {
  opened = L.opened;
  chosen = L.chosen;
  asked = L.asked;
  puts = L.puts;
  seals = L.seals;
  sent = L.sent ++ sent;
  came = L.came ++ came;
  marked = mark || L.marked;
  gone = L.gone;
  owed = L.owed ++ owed;
}

pub plus_none : (L : Ledger) (mark : Bool) → marking (mark || L.marked) L ≡ plus L mark [] [] []
plus_none L mark = simp append-nil

one_block : (ws : List ℕ) → 1 ≤ length ws → as_block ws ≡ ws ∷ []
one_block [] h = absurd (omega arith)
one_block (x ∷ ws) h = refl

one_came : (failed : ℕ) (ws : List ℕ) → 1 ≤ length ws → came_by failed ws ≡ record { failed = failed; words = ws } ∷ []
one_came failed [] h = absurd (omega arith)
one_came failed (x ∷ ws) h = refl

one_owed : (s c : Bool) (failed : ℕ) (e : Checked) (ws : List ℕ) → 1 ≤ length ws → owed_for s c failed e ws ≡ contents_of s c failed e ws ∷ []
one_owed s c failed e [] h = absurd (omega arith)
one_owed s c failed e (x ∷ ws) h = refl

-- ---- a buffer that a read gives back

taken_no : (f : File) → (is_part (slot_at f (taken_side f)) ≡ false) × (is_full (slot_at f (taken_side f)) ≡ false)
taken_no f = go (taken_side f) (taken_there f)
  where
    neither : (x : Slot) → is_taken x ≡ true → (is_part x ≡ false) × (is_full x ≡ false)
    neither Empty e = (refl, refl)
    neither Taken e = (refl, refl)
    neither (Part n) e = true_not_false e refl
    neither (Full n at err) e = true_not_false e refl

    go : (k : Side) → (is_side k ≡ true → is_taken (slot_at f k) ≡ true) → (is_part (slot_at f k) ≡ false) × (is_full (slot_at f k) ≡ false)
    go Low h = neither f.low.slot (h refl)
    go High h = neither f.high.slot (h refl)
    go Neither h = (refl, refl)

pub told_back : (w : ℕ) (f : File) (xs : List ℕ) (L : Ledger) → Told w f xs L → Told w (gave_back f) xs L
unfolding gave_back emptied_at
told_back w f xs L T =
    told_still w f (with_slot f (taken_side f) Empty false f.block) (slot_same f (taken_side f) Empty false f.block) xs L (back_line f)
    (part_stays w f (taken_side f) Empty false f.block xs (taken_no f).0 refl) (block_stays f (taken_side f) Empty false)
    (mark_stays f (taken_side f) Empty false f.block) T

mark_same : (f : File) → Same f (with_file_mark f)
mark_same f =
    record { opened = refl; channel = refl; unit = refl; output = refl; sequence = refl; check = refl; size = refl; rlen = refl }

mark_part : (w : ℕ) (f : File) (xs : List ℕ) → part_in w (with_file_mark f) xs ≡ part_in w f xs
unfolding part_start part_length part_side
mark_part w f xs = go (lower (is_part f.low.slot) (is_part f.high.slot))
  where
    go : (k : Side) → part_of (start_at (with_file_mark f) w k) (part_words (slot_at (with_file_mark f) k)) xs ≡ part_of (start_at f w k) (part_words (slot_at f k)) xs
    go Low = refl
    go High = refl
    go Neither = refl

mark_line : (f : File) → line (with_file_mark f) ≡ line f
unfolding line
mark_line f = refl

pub told_mark : (w : ℕ) (f : File) (xs : List ℕ) (L : Ledger) → Told w f xs L → Told w (met_mark f) xs (marking true L)
unfolding met_mark
told_mark w f xs L T =
    told_marked w (gave_back f) (with_file_mark (gave_back f)) (mark_same (gave_back f)) xs L true (mark_line (gave_back f)) (mark_part w (gave_back f) xs)
    refl (λ o q. refl) (told_back w f xs L T)

-- ---- a block that a write hands out

module _ (m w : ℕ) (f : File) (S : Sound m w f) (xs : List ℕ) (long : m * w ≤ length xs) (L : Ledger) where
  send_some : is_side (oldest f) ≡ true → 1 ≤ send_words f
  unfolding send_words
  send_some full = go (oldest f) (aged f) full
    where
      go : (k : Side) → Aged f k → is_side k ≡ true → 1 ≤ full_words (slot_at f k) + extra f.sequence f.check
      go Neither (no_block e) s = true_not_false s refl
      go k (old _ n at e rest s x l gone moved) t =
          let N = numbers m w f k n at e S x in let q : full_words (slot_at f k) ≡ n = ap full_words x in omega (arith, N.some)

  pub told_sent : f.opened ≡ true → f.output ≡ true → is_side (oldest f) ≡ true → Told w f xs L
      → Told w (without_oldest f) xs (plus L false (as_block (part_of (send_start w f) (send_words f) xs)) [] [])
  told_sent o u full T =
      let inside = send_inside m w f S full in
      let long-block : length (part_of (send_start w f) (send_words f) xs) ≡ send_words f = length_part (send_start w f) (send_words f) xs (omega arith) in
      told_out w f (without_oldest f) (drop_same f) xs (plus L false (as_block (part_of (send_start w f) (send_words f) xs)) [] []) u T.opened (T.chose o)
      (subst (λ (bs : List (List ℕ)). Wrote w (without_oldest f) xs L.puts (L.sent ++ bs) L.seals)
      (sym (one_block (part_of (send_start w f) (send_words f) xs) (omega (arith, send_some full))))
      (send_wrote w f xs L.puts L.sent L.seals full (T.wrote o u)))

  -- ---- a block that is delivered

  module _ (failed : ℕ) (words : List ℕ) (side : is_side (taken_side f) ≡ true) (fits : block_fits f (length words) ≡ true) where
    abbrev err : Checked
    err = (judged_block words f.sequence f.check f.block).found

    abbrev how : Arrival
    how = arrival failed err

    abbrev size : ℕ
    size = length words - extra f.sequence f.check

    abbrev zs : List ℕ
    zs = pasted_in (start_at f w (taken_side f)) words xs

    pub told_came : start_at f w (taken_side f) + length words ≤ length xs → length words ≤ w → f.opened ≡ true → Told w f xs L
        → Told w (delivered f size how) zs
        (plus L false [] (came_by failed words) (owed_for L.chosen.sequence L.chosen.check failed err words))
    unfolding delivered filled_at
    told_came fit room o T =
        let k = taken_side f in
        let bounds = fits_bounds f (length words) fits in
        let some : 1 ≤ length words = omega (arith, bounds.0) in
        let input = taken_input m w f S side in
        let only = only_wider (start_at f w k) (length words) (start_at f w k) w xs zs (pasted_only (start_at f w k) words xs fit) (omega arith)
        (omega arith) in
        let same = T.chose o in
        told_in w f (delivered f size how) (slot_same f k (Full size 0 how) (turned_by f k) (next_number f.block)) zs
        (plus L false [] (came_by failed words) (owed_for L.chosen.sequence L.chosen.check failed err words)) input T.opened same
        (T.marks o input ∙ sym (mark_stays f k (Full size 0 how) (turned_by f k) (next_number f.block)))
        (subst (λ (bs : List Came). Brought w (delivered f size how) zs (L.came ++ bs) L.gone
        (L.owed ++ owed_for L.chosen.sequence L.chosen.check failed err words)) (sym (one_came failed words some))
        (subst (λ (bs : List (List Item)). Brought w (delivered f size how) zs (L.came ++ (record { failed = failed; words = words } ∷ [])) L.gone (L.owed ++ bs))
        (sym (one_owed L.chosen.sequence L.chosen.check failed err words some ∙ ap₂ (λ (s c : Bool). contents_of s c failed err words ∷ []) same.sequences
        same.checks))
        (brought_more w f (delivered f size how) xs zs L.came L.gone L.owed
        (slot_same f k (Full size 0 how) (turned_by f k) (next_number f.block)) (T.brought o input)
        (record { failed = failed; words = words }) (buffer_at f k).number size (unread_same m w f S xs zs (beside m w f S k xs zs (own_taken m w f S side) (taken_no f).1 only))
        (delivered_line f size how side) (slot_block f k (Full size 0 how) (turned_by f k) (next_number f.block) side)
        (ap (λ (l : List ℕ). wrongs failed err ++ map word l) there))))
      where
        there : part_of (start_at f w (taken_side f) + 0) (size - 0) zs ≡ take size words
        there =
            let z : size - 0 ≡ size = omega arith in
            ap₂ (λ (a n : ℕ). part_of a n zs) (add-zero (start_at f w (taken_side f))) z
            ∙ sym (take-take size (length words) (drop (start_at f w (taken_side f)) zs) (omega arith))
            ∙ ap (take size) (pasted_part (start_at f w (taken_side f)) words xs fit)
