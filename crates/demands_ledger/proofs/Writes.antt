-- The ledger of an output file: words put, a block sealed, a block handed out. Assumes nothing.
use mathlib.Core.Path.{◌≡◌, refl, sym, ap, ap₂, subst, ◌∙◌}
use mathlib.Core.Bool.{Bool, true, false, cond}
use mathlib.Core.List.{List, [], ◌∷◌, ◌++◌, map, append_assoc, append-nil}
use Prim.Native.Nat.{ℕ, ◌+◌, ◌*◌, ◌≤◌}
use native.Mathlib.Nat.{zero-add, le_trans}
use native.Mathlib.Omega.{arith}
use borrow.Author.Tests.{le-leb, leb-true, ltb-true, ltb-false}
use lib.Dec.{leb, ltb}
use lib.ListN.{length, length-append}
use Rattle.area.specs.Parts.{part_of}
use Rattle.area.proofs.Walks.{true_not_false, and_left, and_right}
use Rattle.area.proofs.Pastes.{length_part}
use Rattle.area.proofs.Marks.{cond_true}
use Rattle.file.specs.Arrivals.{no_arrival}
use Rattle.file.specs.declared.Slot.TheVariants.{Empty, Part, Full}
use Rattle.file.specs.declared.Side.{Side}
use Rattle.file.specs.declared.Side.TheVariants.{Neither}
use Rattle.file.specs.declared.File.{File}
use Rattle.file.specs.Slots.{is_part, part_words, full_words}
use Rattle.file.specs.Sides.{buffer_at, slot_at, start_at, is_side, part_side, oldest}
use Rattle.file.specs.Fills.{with_slot, turned_by, filled_at, emptied_at, without_oldest}
use Rattle.word.specs.CheckWords.{next_number, extra}
use Rattle.file_output.specs.Puts.{put_side, words_after, added, after_put}
use Rattle.file_output.specs.Parts.{part_start, part_length, is_complete, sealed_file}
use Rattle.file_output.specs.Sends.{send_start, send_words}
use Rattle.file_input.specs.Ages.{Block, line}
use Rattle.file_input.proofs.Ages.{block, young, Aged, no_block, old, aged, added_line}
use Rattle.state_sound.proofs.FileFacts.{Sound}
use Rattle.file.proofs.Which.{part_there}
use Rattle.state_sound.proofs.FilesKept.{owns, slot_fits_lem}
use Rattle.state_sound.proofs.Changes.{part_numbers}
use Rattle.state_sound.proofs.Inside.{number_less, size_fits, buffer_inside, put_inside}
use Rattle.state_sound.proofs.Puts.{PutAt, put_at, put_is}
use Rattle.pack_record.specs.Only.{Only}
use Rattle.pack_record.proofs.Buffers.{part_first, room_too}
use Rattle.pack_record.proofs.Fillings.{with_check}
use Rattle.demands_ledger.specs.Blocks.{block_in, blocks_in, part_in, checked, all_checked, joined, is_sealed, Sized, Divided, Filling}
use Rattle.demands_ledger.proofs.Told.{Wrote}
use Rattle.demands_ledger.proofs.Lists.{joined_last, checked_last, number_last, map_append}
use Rattle.demands_ledger.proofs.Lines.{blocks_same, beside}
use Rattle.demands_ledger.proofs.Cuts.{which_sealed, divided_sealed, divided_last, filling_more, filling_full, filling_sealed, filling_none}
use Rattle.demands_ledger.proofs.Sides.{Same, same_self, slot_same, slot_block, block_stays, no_full, part_side_free, put_side_free, part_held, complete_when, part_gone, part_had, part_stays, part_same}

module _ (w : ℕ) (f g : File) (xs zs puts : List ℕ) (sent : List (List ℕ)) (seals : List ℕ) (A : Same f g) (T : Wrote w f xs puts sent seals) where
  same_extra : extra g.sequence g.check ≡ extra f.sequence f.check
  same_extra = ap₂ extra A.sequence A.check

  same_checked : (ds : List (List ℕ)) → all_checked f.sequence f.check 1 ds ≡ all_checked g.sequence g.check 1 ds
  same_checked ds = ap₂ (λ (s c : Bool). all_checked s c 1 ds) (sym A.sequence) (sym A.check)

  same_sizes : (P : ℕ → ℕ → Type 0) → P f.rlen f.size → P g.rlen g.size
  same_sizes P h = subst (λ (r : ℕ). P r g.size) (sym A.rlen) (subst (P f.rlen) (sym A.size) h)

  abbrev put_before : ℕ
  put_before = length (joined T.data_words_lem)

  module _ (still : blocks_in w f zs ≡ blocks_in w f xs) where
    -- words are added to the part-filled block, or none are
    pub wrote_more : (ys : List ℕ) → line g ≡ line f → part_in w g zs ≡ part_in w f xs ++ ys → g.block ≡ f.block
        → Filling f.rlen f.size seals (length (joined T.data_words_lem)) (part_in w f xs ++ ys) → Wrote w g zs (puts ++ ys) sent seals
    wrote_more ys l p n F = record {
      data_words_lem = T.data_words_lem;
      words =
          ap (λ (v : List ℕ). joined T.data_words_lem ++ v) p ∙ sym (append_assoc (joined T.data_words_lem) (part_in w f xs) ys)
          ∙ ap (λ (v : List ℕ). v ++ ys) T.words;
      blocks =
          ap (λ (v : List Block). sent ++ map (block_in w (extra g.sequence g.check) zs) v) l
          ∙ ap (λ (e : ℕ). sent ++ map (block_in w e zs) (line f)) same_extra
          ∙ ap (λ (v : List (List ℕ)). sent ++ v) still ∙ T.blocks ∙ same_checked T.data_words_lem;
      number = n ∙ T.number;
      sized = same_sizes (λ r b. Divided r b seals 0 T.data_words_lem) T.sized;
      filling = same_sizes (λ r b. Filling r b seals put_before (part_in w g zs)) (subst (Filling f.rlen f.size seals put_before) (sym p) F);
    }

    pub wrote_still : line g ≡ line f → part_in w g zs ≡ part_in w f xs → g.block ≡ f.block → Wrote w g zs puts sent seals
    wrote_still l p n =
        subst (λ (v : List ℕ). Wrote w g zs v sent seals) (append-nil puts)
        (wrote_more [] l (p ∙ sym (append-nil (part_in w f xs))) n
        (subst (Filling f.rlen f.size seals put_before) (sym (append-nil (part_in w f xs))) T.filling))

    -- the block of the data words d is sealed
    pub wrote_block : (d puts' seals' : List ℕ) → Divided f.rlen f.size seals' 0 T.data_words_lem
        → Sized f.rlen f.size seals' (length (joined T.data_words_lem)) d → f.rlen ≤ f.size
        → ((p : ℕ) → is_sealed seals' p ≡ true → p ≤ length (joined T.data_words_lem) + length d)
        → (b n : ℕ) → line g ≡ line f ++ (block b n 0 no_arrival ∷ []) → part_in w g zs ≡ [] → g.block ≡ next_number f.block
        → part_of (b * w) (n + extra f.sequence f.check) zs ≡ checked f.sequence f.check f.block d → joined T.data_words_lem ++ d ≡ puts'
        → Wrote w g zs puts' sent seals'
    wrote_block d puts' seals' D S fit late b n l p e c q = record {
      data_words_lem = T.data_words_lem ++ (d ∷ []);
      words = ap (λ (v : List ℕ). joined (T.data_words_lem ++ (d ∷ [])) ++ v) p ∙ append-nil _ ∙ joined_last T.data_words_lem d ∙ q;
      blocks =
          ap (λ (v : List (List ℕ)). sent ++ v) lie
          ∙ sym (append_assoc sent (blocks_in w f xs) (checked f.sequence f.check f.block d ∷ []))
          ∙ ap (λ (v : List (List ℕ)). v ++ (checked f.sequence f.check f.block d ∷ [])) T.blocks
          ∙ ap (λ (k : ℕ). all_checked f.sequence f.check 1 T.data_words_lem ++ (checked f.sequence f.check k d ∷ [])) T.number
          ∙ sym (checked_last f.sequence f.check 1 T.data_words_lem d)
          ∙ same_checked (T.data_words_lem ++ (d ∷ []));
      number = e ∙ ap next_number T.number ∙ sym (number_last 1 T.data_words_lem d);
      sized =
          same_sizes (λ r b. Divided r b seals' 0 (T.data_words_lem ++ (d ∷ []))) (divided_last f.rlen f.size seals' 0 T.data_words_lem d D
          (subst (λ (i : ℕ). Sized f.rlen f.size seals' i d) (sym (zero-add put_before)) S));
      filling =
          same_sizes (λ r b. Filling r b seals' (length (joined (T.data_words_lem ++ (d ∷ [])))) (part_in w g zs))
          (subst (Filling f.rlen f.size seals' (length (joined (T.data_words_lem ++ (d ∷ []))))) (sym p)
          (filling_none f.rlen f.size seals' (length (joined (T.data_words_lem ++ (d ∷ [])))) fit
          (λ i h. subst (λ (m : ℕ). i ≤ m) (sym whole) (late i h))));
    }
      where
        whole : length (joined (T.data_words_lem ++ (d ∷ []))) ≡ length (joined T.data_words_lem) + length d
        whole = ap length (joined_last T.data_words_lem d) ∙ length-append (joined T.data_words_lem) d

        lie : blocks_in w g zs ≡ blocks_in w f xs ++ (checked f.sequence f.check f.block d ∷ [])
        lie =
            ap (map (block_in w (extra g.sequence g.check) zs)) l
            ∙ ap (λ (k : ℕ). map (block_in w k zs) (line f ++ (block b n 0 no_arrival ∷ []))) same_extra
            ∙ map_append (block_in w (extra f.sequence f.check) zs) (line f) (block b n 0 no_arrival ∷ [])
            ∙ ap₂ (λ (u : List (List ℕ)) (v : List ℕ). u ++ (v ∷ [])) still c

  -- the oldest block is handed out
  pub wrote_out : (b : Block) (rest : List Block) → line f ≡ b ∷ rest → line g ≡ rest → part_in w g xs ≡ part_in w f xs → g.block ≡ f.block
      → Wrote w g xs puts (sent ++ (block_in w (extra f.sequence f.check) xs b ∷ [])) seals
  wrote_out b rest l r p n = record {
    data_words_lem = T.data_words_lem;
    words = ap (λ (v : List ℕ). joined T.data_words_lem ++ v) p ∙ T.words;
    blocks =
        ap (λ (v : List Block). (sent ++ (out ∷ [])) ++ map (block_in w (extra g.sequence g.check) xs) v) r
        ∙ ap (λ (e : ℕ). (sent ++ (out ∷ [])) ++ map (block_in w e xs) rest) same_extra
        ∙ append_assoc sent (out ∷ []) (map (block_in w (extra f.sequence f.check) xs) rest)
        ∙ ap (λ (v : List Block). sent ++ map (block_in w (extra f.sequence f.check) xs) v) (sym l)
        ∙ T.blocks ∙ same_checked T.data_words_lem;
    number = n ∙ T.number;
    sized = same_sizes (λ r b. Divided r b seals 0 T.data_words_lem) T.sized;
    filling =
        same_sizes (λ r b. Filling r b seals put_before (part_in w g xs)) (subst (Filling f.rlen f.size seals put_before) (sym p) T.filling);
  }
    where
      out : List ℕ
      out = block_in w (extra f.sequence f.check) xs b

-- ---- "r is 1 to B"

record_some : (m w : ℕ) (f : File) → Sound m w f → 1 ≤ f.rlen
record_some m w f S = leb-true 1 f.rlen (and_left (leb 1 f.rlen) _ S.sizes)

record_fits : (m w : ℕ) (f : File) → Sound m w f → f.rlen ≤ f.size
record_fits m w f S = leb-true f.rlen f.size (and_left (leb f.rlen f.size) _ (and_right (leb 1 f.rlen) _ S.sizes))

-- ---- put

module _ (m w : ℕ) (f : File) (S : Sound m w f) (room : is_side (put_side f) ≡ true) (xs zs ys puts : List ℕ) (sent : List (List ℕ))
    (seals : List ℕ) (T : Wrote w f xs puts sent seals) (long : m * w ≤ length xs) (exact : length ys ≡ f.rlen)
    (only : Only (start_at f w (put_side f)) w xs zs)
    (adds : is_complete (added f) ≡ false → part_of (start_at f w (put_side f)) (words_after f) zs ≡ part_of (start_at f w (put_side f))
    (part_words (slot_at f (put_side f))) xs ++ ys)
    (filled : is_complete (added f) ≡ true → part_of (start_at f w (put_side f)) (words_after f + extra f.sequence f.check) zs
    ≡ with_check f (part_of (start_at f w (put_side f)) (part_words (slot_at f (put_side f))) xs ++ ys)) where
  P : PutAt f (put_side f)
  P = put_at m w f S room

  holding : File
  holding = with_slot f (put_side f) (Part (words_after f)) false f.block

  added_is : added f ≡ holding
  unfolding added holding
  added_is = cond_true (with_slot f (put_side f) (Part (words_after f)) false f.block) f (le-leb (words_after f) f.size P.fit)

  completes : is_complete (added f) ≡ ltb f.size (words_after f + f.rlen)
  unfolding holding
  completes = ap is_complete added_is ∙ complete_when f (put_side f) room P.alone (words_after f) f.block

  still : blocks_in w f zs ≡ blocks_in w f xs
  still = blocks_same m w f S xs zs (beside m w f S (put_side f) xs zs P.own (put_side_free f room) only)

  pub put_wrote : Wrote w (after_put f) zs (puts ++ ys) sent seals
  unfolding holding filled_at
  put_wrote = subst (λ (g : File). Wrote w g zs (puts ++ ys) sent seals) (sym (put_is f room P)) (go (ltb f.size (words_after f + f.rlen)) refl)
    where
      had : part_in w f xs ≡ part_of (start_at f w (put_side f)) (part_words (slot_at f (put_side f))) xs
      had = part_had w f xs room

      long_part : length (part_of (start_at f w (put_side f)) (part_words (slot_at f (put_side f))) xs) ≡ part_words (slot_at f (put_side f))
      long_part =
          length_part (start_at f w (put_side f)) (part_words (slot_at f (put_side f))) xs (omega (arith, put_inside m w f S room))

      F : Filling f.rlen f.size seals (length (joined T.data_words_lem))
          (part_of (start_at f w (put_side f)) (part_words (slot_at f (put_side f))) xs)
      F = subst (Filling f.rlen f.size seals (length (joined T.data_words_lem))) had T.filling

      go : (t : Bool) → ltb f.size (words_after f + f.rlen) ≡ t
          → Wrote w (cond t (filled_at f (put_side f) (words_after f) no_arrival) (with_slot f (put_side f) (Part (words_after f)) false f.block)) zs (puts ++ ys)
          sent seals
      go true e =
          wrote_block w f (filled_at f (put_side f) (words_after f) no_arrival) xs zs puts sent seals
          (slot_same f (put_side f) (Full (words_after f) 0 no_arrival) (turned_by f (put_side f)) (next_number f.block)) T still
          (part_of (start_at f w (put_side f)) (part_words (slot_at f (put_side f))) xs ++ ys) (puts ++ ys) seals T.sized
          (filling_full f.rlen f.size seals (length (joined T.data_words_lem))
          (part_of (start_at f w (put_side f)) (part_words (slot_at f (put_side f))) xs) ys F exact (record_some m w f S)
          (omega (arith, ltb-true f.size (words_after f + f.rlen) e, long_part)))
          (record_fits m w f S) (λ p h. le_trans (F.unsealed p h) (omega arith)) (buffer_at f (put_side f)).number (words_after f)
          (young f (put_side f) (words_after f) no_arrival room (no_full f (put_side f) (put_side_free f room)))
          (part_gone f (put_side f) room P.alone w (words_after f) 0 no_arrival (turned_by f (put_side f)) (next_number f.block) zs)
          (slot_block f (put_side f) (Full (words_after f) 0 no_arrival) (turned_by f (put_side f)) (next_number f.block) room)
          (filled (completes ∙ e))
          (ap (λ (v : List ℕ). joined T.data_words_lem ++ (v ++ ys)) (sym had) ∙ sym (append_assoc (joined T.data_words_lem) (part_in w f xs) ys)
          ∙ ap (λ (v : List ℕ). v ++ ys) T.words)
      go false e =
          wrote_more w f (with_slot f (put_side f) (Part (words_after f)) false f.block) xs zs puts sent seals
          (slot_same f (put_side f) (Part (words_after f)) false f.block) T still ys
          (sym (ap line added_is) ∙ added_line f)
          (part_held f (put_side f) room P.alone w (words_after f) f.block zs ∙ adds (completes ∙ e) ∙ ap (λ (v : List ℕ). v ++ ys) (sym had))
          (block_stays f (put_side f) (Part (words_after f)) false)
          (subst (λ (v : List ℕ). Filling f.rlen f.size seals (length (joined T.data_words_lem)) (v ++ ys)) (sym had)
          (filling_more f.rlen f.size seals (length (joined T.data_words_lem))
          (part_of (start_at f w (put_side f)) (part_words (slot_at f (put_side f))) xs) ys F exact
          (omega (arith, ltb-false f.size (words_after f + f.rlen) e, long_part))))

-- ---- seal

module _ (m w : ℕ) (f : File) (S : Sound m w f) (part : is_side (part_side f) ≡ true) (xs zs puts : List ℕ) (sent : List (List ℕ))
    (seals : List ℕ) (T : Wrote w f xs puts sent seals) (long : m * w ≤ length xs)
    (only : Only (part_start w f) w xs zs)
    (shut : part_of (part_start w f) (part_length f + extra f.sequence f.check) zs ≡ with_check f (part_of (part_start w f) (part_length f) xs)) where
  Q : PutAt f (part_side f)
  Q = subst (PutAt f) (part_first f part) (put_at m w f S (room_too f part))

  -- it has a record or more
  part_some : 1 ≤ length (part_in w f xs)
  unfolding part_start part_length
  part_some =
      let N = part_numbers f.sequence f.check f.output f.size f.rlen (slot_at f (part_side f)) (slot_fits_lem m w f (part_side f) S) (part_there f part) in
      let inside : start_at f w (part_side f) + part_words (slot_at f (part_side f)) ≤ m * w =
      buffer_inside m w (buffer_at f (part_side f)).number (part_words (slot_at f (part_side f))) (number_less m w f S (part_side f) Q.own)
      (omega (arith, size_fits m w f S, N.1)) in
      let l : length (part_in w f xs) ≡ part_words (slot_at f (part_side f)) =
      length_part (start_at f w (part_side f)) (part_words (slot_at f (part_side f))) xs (omega arith) in
      omega (arith, N.0, record_some m w f S)

  all_put : length puts ≡ length (joined T.data_words_lem) + length (part_in w f xs)
  all_put = ap length (sym T.words) ∙ length-append (joined T.data_words_lem) (part_in w f xs)

  pub seal_wrote : Wrote w (sealed_file f) zs puts sent (length puts ∷ seals)
  unfolding sealed_file filled_at part_start
  seal_wrote =
      wrote_block w f (filled_at f (part_side f) (part_length f) no_arrival) xs zs puts sent seals
      (slot_same f (part_side f) (Full (part_length f) 0 no_arrival) (turned_by f (part_side f)) (next_number f.block)) T
      (blocks_same m w f S xs zs (beside m w f S (part_side f) xs zs Q.own (part_side_free f part) only))
      (part_in w f xs) puts (length puts ∷ seals)
      (divided_sealed f.rlen f.size seals (length puts) 0 T.data_words_lem (omega (arith, all_put)) T.sized)
      (filling_sealed f.rlen f.size seals (length (joined T.data_words_lem)) (length puts) (part_in w f xs) T.filling part_some all_put)
      (record_fits m w f S)
      (λ p h. which_sealed f.rlen f.size seals (p ≤ length (joined T.data_words_lem) + length (part_in w f xs)) (length puts) p h
      (λ e. omega (arith, all_put)) (λ e. omega (arith, T.filling.unsealed p e)))
      (buffer_at f (part_side f)).number (part_length f)
      (young f (part_side f) (part_length f) no_arrival part (no_full f (part_side f) (part_side_free f part)))
      (part_gone f (part_side f) part Q.alone w (part_length f) 0 no_arrival (turned_by f (part_side f)) (next_number f.block) zs)
      (slot_block f (part_side f) (Full (part_length f) 0 no_arrival) (turned_by f (part_side f)) (next_number f.block) part)
      shut T.words

-- ---- a write that is done with its block

pub send_wrote : (w : ℕ) (f : File) (xs puts : List ℕ) (sent : List (List ℕ)) (seals : List ℕ) → is_side (oldest f) ≡ true
    → Wrote w f xs puts sent seals → Wrote w (without_oldest f) xs puts (sent ++ (part_of (send_start w f) (send_words f) xs ∷ [])) seals
unfolding without_oldest emptied_at send_start send_words
send_wrote w f xs puts sent seals full T = go (oldest f) (aged f) full
  where
    go : (k : Side) → Aged f k → is_side k ≡ true
        → Wrote w (with_slot f k Empty false f.block) xs puts
        (sent ++ (part_of (start_at f w k) (full_words (slot_at f k) + extra f.sequence f.check) xs ∷ [])) seals
    go Neither (no_block e) s = true_not_false s refl
    go k (old _ n at e rest s x l gone moved) t =
        subst (λ (i : ℕ). Wrote w (with_slot f k Empty false f.block) xs puts
        (sent ++ (part_of (start_at f w k) (i + extra f.sequence f.check) xs ∷ [])) seals) (sym (ap full_words x))
        (wrote_out w f (with_slot f k Empty false f.block) xs xs puts sent seals (slot_same f k Empty false f.block) T
        (block (buffer_at f k).number n at e) rest l (gone f.block)
        (part_stays w f k Empty false f.block xs (ap is_part x) refl) (block_stays f k Empty false))

-- ---- a file whose buffers did not change

pub frame_wrote : (m w : ℕ) (f : File) → Sound m w f → (xs zs puts : List ℕ) (sent : List (List ℕ)) (seals : List ℕ)
    → ((k : Side) → owns f k ≡ true → part_of ((buffer_at f k).number * w) w zs ≡ part_of ((buffer_at f k).number * w) w xs) → Wrote w f xs puts sent seals
    → Wrote w f zs puts sent seals
frame_wrote m w f S xs zs puts sent seals same T =
    wrote_still w f f xs zs puts sent seals (same_self f) T (blocks_same m w f S xs zs (λ k o full. same k o)) refl (part_same m w f S xs zs same) refl
