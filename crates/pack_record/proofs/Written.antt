-- What a put and a seal write: the words in their place, the check word after the data words, and nothing else. Assumes nothing.
use mathlib.Core.Path.{◌≡◌, refl, sym, ap, subst, ◌∙◌}
use mathlib.Core.Logic.{◌≢◌}
use mathlib.Core.Bool.{Bool, true, false, not, cond, ◌&&◌, ◌||◌}
use mathlib.Core.List.{List, [], ◌∷◌, ◌++◌, append-nil}
use Prim.Native.Nat.{ℕ, min, ◌+◌, ◌-◌, ◌*◌, ◌^◌, ◌≤◌, ◌<◌}
use native.Mathlib.Decide.{dec_lt}
use native.Mathlib.Nat.{min-le_left, lt_of_lt_of_le, mul-le-mul_right, suc-mul}
use native.Mathlib.Numerals.{add-one}
use native.Mathlib.Omega.{arith}
use borrow.Rule.Slice.PartMut.{put_mid, set_mid_at, put_same}
use lib.ListN.{length, take, drop, get_or, set, length-set, length-drop, length-take}
use lib.Seq.{get_or-take, get_or-drop, get_or-set_other, take-take, drop-drop, drop-set-add, take-suc-set, take-add, ext_get_or}
use Rattle.area.specs.Lists.{all_of}
use Rattle.area.specs.Parts.{is_word, part_of, paste, pasted_in}
use Rattle.area.proofs.Pastes.{length_part, length_paste, paste_fitting, paste_part, paste_before, paste_after}
use Rattle.word.specs.Sums.{logical_sum}
use Rattle.word.specs.CheckWords.{check_word, IsCheckWord, extra}
use Rattle.block.specs.Blocks.{block_seal_refusal, sealed_block}
use Rattle.word.proofs.Laws.CheckWord.{check_word_is}
use Rattle.block.proofs.Laws.Block.{seal_accepted, seal_writes, seal_leaves}
use Rattle.pack_record.specs.Only.{Only}
use Rattle.call_record.specs.Blocks.{sealed_in}
use Rattle.call_record.proofs.Seals.{length_sealed}

-- ---- Only

pub only_self : (at n : ℕ) (xs : List ℕ) → Only at n xs xs
only_self at n xs = record { long = refl; before = λ j h. refl; after = λ j h. refl }

pub only_wider : (at n bt k : ℕ) (xs zs : List ℕ) → Only at n xs zs → bt ≤ at → at + n ≤ bt + k → Only bt k xs zs
only_wider at n bt k xs zs O l r = record { long = O.long; before = λ j h. O.before j (omega arith); after = λ j h. O.after j (omega arith) }

pub only_then : (at n : ℕ) (xs ys zs : List ℕ) → Only at n xs ys → Only at n ys zs → Only at n xs zs
only_then at n xs ys zs O P = record {
  long = P.long ∙ O.long;
  before = λ j h. P.before j h ∙ O.before j h;
  after = λ j h. P.after j h ∙ O.after j h;
}

-- ---- words pasted

module _ (at : ℕ) (ys xs : List ℕ) (fit : at + length ys ≤ length xs) where
  pasted : pasted_in at ys xs ≡ paste at ys xs
  pasted = paste_fitting at ys xs fit

  pub pasted_only : Only at (length ys) xs (pasted_in at ys xs)
  pasted_only =
      subst (Only at (length ys) xs) (sym pasted)
      (record {
        long = length_paste at ys xs fit;
        before = λ j h. sym (get_or-take at (paste at ys xs) j 0 h) ∙ ap (λ (l : List ℕ). get_or l j 0) (paste_before at ys xs (omega arith)) ∙ get_or-take at xs j 0 h;
        after = λ j h.
            let i : at + length ys + (j - (at + length ys)) ≡ j = omega arith in
            ap (λ (n : ℕ). get_or (paste at ys xs) n 0) (sym i)
            ∙ sym (get_or-drop (at + length ys) (paste at ys xs) (j - (at + length ys)) 0)
            ∙ ap (λ (l : List ℕ). get_or l (j - (at + length ys)) 0) (paste_after at ys xs (omega arith))
            ∙ get_or-drop (at + length ys) xs (j - (at + length ys)) 0
            ∙ ap (λ (n : ℕ). get_or xs n 0) i;
      })

  pub pasted_part : part_of at (length ys) (pasted_in at ys xs) ≡ ys
  pasted_part = ap (part_of at (length ys)) pasted ∙ paste_part at ys xs fit

-- the words before a place and those from it on
pub part_join : (a s t : ℕ) (xs : List ℕ) → part_of a (s + t) xs ≡ part_of a s xs ++ part_of (a + s) t xs
part_join a s t xs = take-add s t (drop a xs) ∙ ap (λ (l : List ℕ). part_of a s xs ++ take t l) (drop-drop s a xs)

-- ---- a sealed block

module _ (at w n : ℕ) (sequence check : Bool) (number : ℕ) (xs : List ℕ)
    (inside : at + w ≤ length xs) (room : n + extra sequence check ≤ w) (numbered : number < 2 ^ 15)
    (right : (check && not (all_of is_word (part_of at n xs))) ≡ false) where
  -- the check word of the data words
  abbrev pub check_of : ℕ
  check_of = check_word sequence check (logical_sum (part_of at n xs)) number

  same_words : take n (part_of at w xs) ≡ part_of at n xs
  same_words = take-take n w (drop at xs) (omega arith)

  accepted : block_seal_refusal (part_of at w xs) n sequence check number ≡ 0
  accepted =
      let long : length (part_of at w xs) ≡ w = length_part at w xs inside in
      seal_accepted (part_of at w xs) n sequence check number numbered (omega arith)
      (ap (λ (l : List ℕ). check && not (all_of is_word l)) same_words ∙ right)

  -- a block put back into its place
  back : (block : List ℕ) → length block ≡ w → paste at block xs ≡ put_mid at w xs block
  unfolding paste
  back block long = ap (λ (l : List ℕ). take at xs ++ (block ++ l)) (ap (λ (j : ℕ). drop (at + j) xs) long ∙ sym (drop-drop w at xs))

  -- one word is set: the one after the data words
  pub sealed_sets : (sequence || check) ≡ true → sealed_in at w n sequence check number xs ≡ set xs (at + n) check_of
  unfolding sealed_in
  sealed_sets e =
      let long : length (part_of at w xs) ≡ w = length_part at w xs inside in
      let one : extra sequence check ≡ 1 = rw e in
      let written : sealed_block (part_of at w xs) n sequence check number ≡ set (part_of at w xs) n check_of =
      seal_writes (part_of at w xs) n sequence check number accepted e
      ∙ ap (λ (l : List ℕ). set (part_of at w xs) n (check_word sequence check (logical_sum l) number)) same_words in
      back (sealed_block (part_of at w xs) n sequence check number) (length_sealed n sequence check number (part_of at w xs) ∙ long)
      ∙ ap (put_mid at w xs) written
      ∙ set_mid_at at w n xs check_of (omega arith)

  -- or none
  pub sealed_same : (sequence || check) ≡ false → sealed_in at w n sequence check number xs ≡ xs
  unfolding sealed_in
  sealed_same e =
      let long : length (part_of at w xs) ≡ w = length_part at w xs inside in
      back (sealed_block (part_of at w xs) n sequence check number) (length_sealed n sequence check number (part_of at w xs) ∙ long)
      ∙ ap (put_mid at w xs) (seal_leaves (part_of at w xs) n sequence check number accepted e)
      ∙ put_same at w xs

  -- nothing but the check word changes
  pub sealed_only : Only (at + n) (extra sequence check) xs (sealed_in at w n sequence check number xs)
  sealed_only = go (sequence || check) refl
    where
      go : (t : Bool) → (sequence || check) ≡ t → Only (at + n) (cond t 1 0) xs (sealed_in at w n sequence check number xs)
      go true e =
          subst (Only (at + n) 1 xs) (sym (sealed_sets e))
          (record {
            long = length-set xs (at + n) check_of;
            before = λ j h. get_or-set_other xs (at + n) j check_of 0 (λ q. omega arith);
            after = λ j h. get_or-set_other xs (at + n) j check_of 0 (λ q. omega arith);
          })
      go false e = subst (Only (at + n) 0 xs) (sym (sealed_same e)) (only_self (at + n) 0 xs)

  -- "A block lies from the first word of its buffer, check word last."
  pub sealed_block_lem : part_of at (n + extra sequence check) (sealed_in at w n sequence check number xs) ≡ part_of at n xs ++ cond (sequence || check) (check_of ∷ []) []
  sealed_block_lem = go (sequence || check) refl
    where
      go : (t : Bool) → (sequence || check) ≡ t → part_of at (n + cond t 1 0) (sealed_in at w n sequence check number xs) ≡ part_of at n xs ++ cond t (check_of ∷ []) []
      go true e =
          let one : extra sequence check ≡ 1 = rw e in
          let there : n < length (drop at xs) = simp length-drop (omega arith) in
          ap (part_of at (n + 1)) (sealed_sets e)
          ∙ ap (take (n + 1)) (drop-set-add at xs n check_of)
          ∙ ap (λ (j : ℕ). take j (set (drop at xs) n check_of)) (add-one n)
          ∙ take-suc-set (drop at xs) n check_of there
      go false e =
          let none : n + 0 ≡ n = omega arith in
          ap (λ (j : ℕ). part_of at j (sealed_in at w n sequence check number xs)) none ∙ ap (part_of at n) (sealed_same e) ∙ sym (append-nil (part_of at n xs))

  -- it is the one word that document 01's sentence describes
  pub sealed_word : IsCheckWord sequence check (logical_sum (part_of at n xs)) number check_of
  sealed_word = check_word_is sequence check (logical_sum (part_of at n xs)) number

-- ---- parts of an area of which little changed

-- a part before the words that change
pub part_same : (a s at n : ℕ) (xs zs : List ℕ) → Only at n xs zs → a + s ≤ at → a + s ≤ length xs → part_of a s zs ≡ part_of a s xs
part_same a s at n xs zs O l r =
    let long = O.long in
    ext_get_or 0 (part_of a s zs) (part_of a s xs) (length_part a s zs (omega arith) ∙ sym (length_part a s xs r))
    (λ i h.
    let here : i < s = subst (λ (j : ℕ). i < j) (length_part a s zs (omega arith)) h in
    at_part zs i here ∙ O.before (a + i) (omega arith) ∙ sym (at_part xs i here))
  where
    at_part : (l : List ℕ) (i : ℕ) → i < s → get_or (part_of a s l) i 0 ≡ get_or l (a + i) 0
    at_part l i h = get_or-take s (drop a l) i 0 h ∙ get_or-drop a l i 0

-- ---- a buffer beside the one that changes

parts_equal : (a s : ℕ) (xs zs : List ℕ) → length zs ≡ length xs → ((i : ℕ) → i < s → get_or zs (a + i) 0 ≡ get_or xs (a + i) 0) → part_of a s zs ≡ part_of a s xs
parts_equal a s xs zs long each =
    ext_get_or 0 (part_of a s zs) (part_of a s xs) (long_part zs ∙ ap (λ (n : ℕ). min s (n - a)) long ∙ sym (long_part xs))
    (λ i h.
    let here : i < s = lt_of_lt_of_le (subst (λ (j : ℕ). i < j) (long_part zs) h) (min-le_left s (length zs - a)) in
    at_part zs i here ∙ each i here ∙ sym (at_part xs i here))
  where
    long_part : (l : List ℕ) → length (part_of a s l) ≡ min s (length l - a)
    long_part l = length-take s (drop a l) ∙ ap (min s) (length-drop a l)

    at_part : (l : List ℕ) (i : ℕ) → i < s → get_or (part_of a s l) i 0 ≡ get_or l (a + i) 0
    at_part l i h = get_or-take s (drop a l) i 0 h ∙ get_or-drop a l i 0

-- no word of buffer c changes where only words of buffer b do
pub other_buffer : (w b c : ℕ) (xs zs : List ℕ) → Only (b * w) w xs zs → c ≢ b → part_of (c * w) w zs ≡ part_of (c * w) w xs
other_buffer w b c xs zs O ne = go (dec_lt c b) (dec_lt b c)
  where
    go : Dec (c < b) → Dec (b < c) → part_of (c * w) w zs ≡ part_of (c * w) w xs
    go (yes l) r = parts_equal (c * w) w xs zs O.long (λ i h. O.before (c * w + i) (omega (arith, mul-le-mul_right w l, suc-mul c w)))
    go (no l) (yes r) = parts_equal (c * w) w xs zs O.long (λ i h. O.after (c * w + i) (omega (arith, mul-le-mul_right w r, suc-mul b w)))
    go (no l) (no r) = absurd (ne (omega (arith, l, r)))
