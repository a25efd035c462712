-- What is written of a text is read back as that text, with no errors. Assumes nothing.
use mathlib.Core.Path.{◌≡◌, refl, sym, ap, ◌∙◌}
use mathlib.Core.Bool.{Bool, true, false, cond, ◌&&◌}
use mathlib.Core.List.{List, [], ◌∷◌, ◌++◌, map, append_assoc, append-nil}
use Prim.Native.Nat.{ℕ, ◌+◌, ◌^◌, ◌≤◌, ◌<◌}
use native.Mathlib.Omega.{arith}
use borrow.Author.Tests.{leb-true, eqb-true, ltb-false}
use lib.Dec.{leb}
use lib.ListN.{length, length-append}
use Rattle.area.specs.Lists.{all_of}
use Rattle.area.specs.Parts.{is_word}
use Rattle.area.proofs.Walks.{by_test, and_left, and_right, and_both, all_append}
use Rattle.word.specs.CheckWords.{extra, next_number}
use Rattle.demands_ledger.specs.Ledgers.{Choice}
use Rattle.demands_ledger.specs.Blocks.{joined}
use Rattle.demands_ledger.proofs.Lists.{joined_last, map_append}
use Rattle.tape.specs.Reels.{Piece, Words, TapeMark, Reel, Ended, reel_of}
use Rattle.tape.specs.Images.{is_piece, image_bytes}
use Rattle.tape.proofs.Laws.Reading.{written_read}
use Rattle.demands_reel.specs.Posts.{is_line, is_text, sizes_good, completes, block_of, sealed_early, written_from, written, Line, entry, mark, line_of, read_from, read_back}
use Rattle.demands_reel.proofs.Blocks.{piece_checked, next_small, Records, none, more, records_last, block_back}

sealed_some : (c : Choice) (k : ℕ) (ws : List ℕ) → 1 ≤ length ws → sealed_early c k ws ≡ block_of c k ws ∷ []
unfolding sealed_early
sealed_some c k [] h = absurd (omega arith)
sealed_some c k (w ∷ ws) h = refl

-- the sizes of both rooms, and a text for them
module _ (c : Choice) (some : 1 ≤ c.rlen) (room : c.rlen ≤ c.size) where
  -- an empty block has room for a record
  alone : 0 + c.rlen ≤ c.size
  alone = omega (arith, room)

  -- ---- one block

  -- what is part-filled and sealed early, before pieces that are read the same with every number
  sealed_back : (xs : List (List ℕ)) → Records c.rlen xs → all_of is_word (joined xs) ≡ true → length (joined xs) ≤ c.size
      → (k : ℕ) → k < 2 ^ 15 → (pieces : List Piece) → ((j : ℕ) → read_from c j pieces ≡ read_from c k pieces)
      → read_from c k (sealed_early c k (joined xs) ++ pieces) ≡ map entry xs ++ read_from c k pieces
  unfolding sealed_early joined
  sealed_back [] none words fits k h pieces same = refl
  sealed_back (x ∷ xs) (more e R) words fits k h pieces same =
      let long : 1 ≤ length (x ++ joined xs) = omega (arith, e, some, length-append x (joined xs)) in
      ap (λ (ps : List Piece). read_from c k (ps ++ pieces)) (sealed_some c k (x ++ joined xs) long)
      ∙ block_back c some (x ∷ xs) (more e R) words long k h fits pieces ∙ ap (λ (ls : List Line). map entry (x ∷ xs) ++ ls) (same (next_number k))

  -- ---- a text, after the records xs of block k

  -- one record more: the block is complete, or not yet
  module _ (ws : List ℕ) (text : List Piece) (xs : List (List ℕ)) (R : Records c.rlen xs) (words : all_of is_word (joined xs) ≡ true)
      (fits : length (joined xs) + c.rlen ≤ c.size) (k : ℕ) (h : k < 2 ^ 15) (all : all_of is_word ws ≡ true) (e : length ws ≡ c.rlen) where
    now_words : all_of is_word (joined (xs ++ (ws ∷ []))) ≡ true
    now_words = ap (all_of is_word) (joined_last xs ws) ∙ all_append is_word (joined xs) ws ∙ and_both _ _ words all

    now_long : length (joined (xs ++ (ws ∷ []))) ≡ length (joined xs) + c.rlen
    now_long = ap length (joined_last xs ws) ∙ length-append (joined xs) ws ∙ ap (λ (n : ℕ). length (joined xs) + n) e

    shift : (ls : List Line) → map entry (xs ++ (ws ∷ [])) ++ ls ≡ map entry xs ++ (entry ws ∷ ls)
    shift ls = ap (λ (l : List Line). l ++ ls) (map_append entry xs (ws ∷ [])) ∙ append_assoc (map entry xs) (entry ws ∷ []) ls

    record_back : read_from c (next_number k) (written_from c (next_number k) [] text) ≡ map line_of text
        → (length (joined (xs ++ (ws ∷ []))) + c.rlen ≤ c.size
        → read_from c k (written_from c k (joined (xs ++ (ws ∷ []))) text) ≡ map entry (xs ++ (ws ∷ [])) ++ map line_of text)
        → read_from c k (written_from c k (joined xs) (Words ws ∷ text)) ≡ map entry xs ++ (entry ws ∷ map line_of text)
    unfolding written_from
    record_back after on = go (completes c (joined xs ++ ws)) refl
      where
        go : (t : Bool) → completes c (joined xs ++ ws) ≡ t
            → read_from c k (cond t (block_of c k (joined xs ++ ws) ∷ written_from c (next_number k) [] text) (written_from c k (joined xs ++ ws) text))
            ≡ map entry xs ++ (entry ws ∷ map line_of text)
        go true q =
            ap (λ (l : List ℕ). read_from c k (block_of c k l ∷ written_from c (next_number k) [] text)) (sym (joined_last xs ws))
            ∙ block_back c some (xs ++ (ws ∷ [])) (records_last c.rlen xs ws R e) now_words (omega (arith, now_long, some)) k h
            (omega (arith, now_long, fits)) (written_from c (next_number k) [] text)
            ∙ ap (λ (ls : List Line). map entry (xs ++ (ws ∷ [])) ++ ls) after ∙ shift (map line_of text)
        go false q =
            let l : length (joined xs ++ ws) ≡ length (joined (xs ++ (ws ∷ []))) = ap length (sym (joined_last xs ws)) in
            let less = ltb-false c.size (length (joined xs ++ ws) + c.rlen) q in
            ap (λ (l : List ℕ). read_from c k (written_from c k l text)) (sym (joined_last xs ws)) ∙ on (omega (arith, l, less)) ∙ shift (map line_of text)

  text_back : (text : List Piece) → is_text c text ≡ true → (xs : List (List ℕ)) → Records c.rlen xs → all_of is_word (joined xs) ≡ true
      → length (joined xs) + c.rlen ≤ c.size → (k : ℕ) → k < 2 ^ 15
      → read_from c k (written_from c k (joined xs) text) ≡ map entry xs ++ map line_of text
  unfolding all_of joined written_from read_from
  text_back [] good xs R words fits k h =
      ap (read_from c k) (sym (append-nil (sealed_early c k (joined xs)))) ∙ sealed_back xs R words (omega arith) k h [] (λ j. refl)
  text_back (TapeMark ∷ text) good xs R words fits k h =
      sealed_back xs R words (omega arith) k h (TapeMark ∷ written_from c 1 [] text) (λ j. refl)
      ∙ ap (λ (ls : List Line). map entry xs ++ (mark ∷ ls)) (text_back text (and_right true _ good) [] none refl alone 1 (omega arith))
  text_back (Words ws ∷ text) good xs R words fits k h =
      let line = and_left (is_line c (Words ws)) _ good in
      let rest = and_right (is_line c (Words ws)) _ good in
      let all = and_left (all_of is_word ws) _ line in
      let e = eqb-true (length ws) c.rlen (and_right (all_of is_word ws) _ line) in
      record_back ws text xs R words fits k h all e (text_back text rest [] none refl alone (next_number k) (next_small k))
      (λ more-fits. text_back text rest (xs ++ (ws ∷ [])) (records_last c.rlen xs ws R e)
      (now_words ws text xs R words fits k h all e) more-fits k h)

  -- ---- every piece that is written can stand on a reel

  module _ (most : c.size + extra c.sequence c.check ≤ 1024) where
    sealed_good : (k : ℕ) (part : List ℕ) (pieces : List Piece) → all_of is_word part ≡ true → length part ≤ c.size → all_of is_piece pieces ≡ true
        → all_of is_piece (sealed_early c k part ++ pieces) ≡ true
    unfolding all_of sealed_early
    sealed_good k [] pieces words fits good = good
    sealed_good k (w ∷ part) pieces words fits good = and_both _ _ (piece_checked c.sequence c.check k (w ∷ part) words (omega arith) (omega (arith, fits, most))) good

    pieces_good : (text : List Piece) → is_text c text ≡ true → (k : ℕ) (part : List ℕ) → all_of is_word part ≡ true
        → length part + c.rlen ≤ c.size → all_of is_piece (written_from c k part text) ≡ true
    unfolding all_of written_from
    pieces_good [] good k part words fits =
        ap (all_of is_piece) (sym (append-nil (sealed_early c k part))) ∙ sealed_good k part [] words (omega arith) refl
    pieces_good (TapeMark ∷ text) good k part words fits =
        sealed_good k part (TapeMark ∷ written_from c 1 [] text) words (omega arith) (pieces_good text (and_right true _ good) 1 [] refl alone)
    pieces_good (Words ws ∷ text) good k part words fits =
        let line = and_left (is_line c (Words ws)) _ good in
        let rest = and_right (is_line c (Words ws)) _ good in
        let all = and_left (all_of is_word ws) _ line in
        let e = eqb-true (length ws) c.rlen (and_right (all_of is_word ws) _ line) in
        let now : all_of is_word (part ++ ws) ≡ true = all_append is_word part ws ∙ and_both _ _ words all in
        let l = length-append part ws in
        by_test (λ t. completes c (part ++ ws) ≡ t
        → all_of is_piece (cond t (block_of c k (part ++ ws) ∷ written_from c (next_number k) [] text) (written_from c k (part ++ ws) text)) ≡ true)
        (completes c (part ++ ws))
        (λ t q. and_both _ _ (piece_checked c.sequence c.check k (part ++ ws) now (omega (arith, l, e, some)) (omega (arith, l, e, fits, most)))
        (pieces_good text rest (next_number k) [] refl alone))
        (λ t q. pieces_good text rest k (part ++ ws) now (ltb-false c.size (length (part ++ ws) + c.rlen) q)) refl

-- "`./reel write .. | ./reel read ..` with the same sizes gives the same text, and says no errors": of any text of records and marks, the image of what is
-- written, in binary or BCD, is read to its end, and what is read back of it is a line for each record and each mark of the text, and no other line
pub posted : (c : Choice) (bcd : Bool) (text : List Piece) → sizes_good c ≡ true → is_text c text ≡ true
    → (read_back c (reel_of (image_bytes bcd (written c text))).pieces ≡ map line_of text) × ((reel_of (image_bytes bcd (written c text))).ending ≡ Ended)
unfolding written read_back joined all_of
posted c bcd text sizes good =
    let some = leb-true 1 c.rlen (and_left (leb 1 c.rlen) _ sizes) in
    let rest = and_right (leb 1 c.rlen) _ sizes in
    let room = leb-true c.rlen c.size (and_left (leb c.rlen c.size) _ rest) in
    let most = leb-true _ _ (and_right (leb c.rlen c.size) _ rest) in
    let back = written_read bcd (written_from c 1 [] text) (pieces_good c some room most text good 1 [] refl (alone c some room)) in (
      ap (λ (r : Reel). read_from c 1 r.pieces) back ∙ text_back c some room text good [] none refl (alone c some room) 1 (omega arith),
      ap (λ (r : Reel). r.ending) back,
    )
