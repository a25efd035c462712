-- One block: what is sealed is judged to have no error, and gets cut it into the records that were put. Assumes nothing.
use mathlib.Core.Path.{◌≡◌, refl, sym, ap, ap₂, ◌∙◌}
use mathlib.Core.Bool.{Bool, true, false, cond, ◌||◌}
use mathlib.Core.List.{List, [], ◌∷◌, ◌++◌, map, append-nil}
use Prim.Native.Nat.{ℕ, zero, suc, ◌+◌, ◌^◌, ◌≤◌, ◌<◌}
use native.Mathlib.Omega.{arith}
use borrow.Author.Tests.{le-leb, lt-ltb}
use lib.ListN.{length, take, drop, length-append}
use lib.Seq.{take-append_seam, drop-append_seam}
use Rattle.area.specs.Lists.{all_of}
use Rattle.area.specs.Parts.{is_word}
use Rattle.area.proofs.Walks.{and_both, all_append}
use Rattle.area.proofs.Marks.{cond_true}
use Rattle.word.specs.Sums.{logical_sum}
use Rattle.word.specs.CheckWords.{check_word, extra, next_number}
use Rattle.word.proofs.Laws.CheckWord.{check_word_lt}
use Rattle.block.specs.declared.blocks.Judged.{Judged}
use Rattle.block.specs.Blocks.{judged_block}
use Rattle.block.proofs.Laws.Agree.{error_none, judge_delivered, judge_plain}
use Rattle.demands_ledger.specs.Ledgers.{Choice}
use Rattle.demands_ledger.specs.Blocks.{checked, joined}
use Rattle.demands_ledger.proofs.Shown.{data_checked}
use Rattle.tape.specs.Reels.{Piece, Words}
use Rattle.tape.specs.Images.{is_piece}
use Rattle.demands_reel.specs.Posts.{block_of, Line, entry, cut_on, wrong_lines, block_lines, read_from}

-- ---- its check word

length_checked : (s c : Bool) (k : ℕ) (ws : List ℕ) → length (checked s c k ws) ≡ length ws + extra s c
length_checked s c k ws = go (s || c)
  where
    go : (t : Bool) → length (ws ++ cond t (check_word s c (logical_sum ws) k ∷ []) []) ≡ length ws + cond t 1 0
    go true = length-append ws (check_word s c (logical_sum ws) k ∷ [])
    go false = length-append ws []

words_checked : (s c : Bool) (k : ℕ) (ws : List ℕ) → all_of is_word ws ≡ true → all_of is_word (checked s c k ws) ≡ true
unfolding all_of
words_checked s c k ws all = go (s || c)
  where
    go : (t : Bool) → all_of is_word (ws ++ cond t (check_word s c (logical_sum ws) k ∷ []) []) ≡ true
    go true =
        all_append is_word ws (check_word s c (logical_sum ws) k ∷ [])
        ∙ and_both _ _ all (and_both (is_word (check_word s c (logical_sum ws) k)) true (lt-ltb _ (2 ^ 36) (check_word_lt s c (logical_sum ws) k)) refl)
    go false = ap (all_of is_word) (append-nil ws) ∙ all

-- it can stand on a reel
pub piece_checked : (s c : Bool) (k : ℕ) (ws : List ℕ) → all_of is_word ws ≡ true → 1 ≤ length ws → length ws + extra s c ≤ 1024
    → is_piece (Words (checked s c k ws)) ≡ true
piece_checked s c k ws words long fits =
    let l = length_checked s c k ws in
    and_both _ _ (words_checked s c k ws words)
    (and_both _ _ (le-leb 1 (length (checked s c k ws)) (omega (arith, l, long))) (le-leb (length (checked s c k ws)) 1024 (omega (arith, l, fits))))

-- block numbers
pub next_small : (k : ℕ) → next_number k < 2 ^ 15
next_small k = omega arith

-- "blocks we write carry the one right check word; blocks we read are judged by it": with the same number there is no error
pub no_error : (s c : Bool) (k : ℕ) (ws : List ℕ) → k < 2 ^ 15 → 1 ≤ length ws → all_of is_word ws ≡ true
    → (judged_block (checked s c k ws) s c k).found.error ≡ 0
no_error false false k ws hn some all =
    ap (λ (l : List ℕ). (judged_block l false false k).found.error) (append-nil ws)
    ∙ ap (λ (j : Judged). j.found.error) (judge_plain ws k some all hn)
no_error false true k ws hn some all =
    let w = check_word false true (logical_sum ws) k in
    ap (λ (j : Judged). j.found.error) (judge_delivered ws false true k w some all (check_word_lt false true (logical_sum ws) k) hn refl)
    ∙ error_none false true (logical_sum ws) k w hn refl refl
no_error true c k ws hn some all =
    let w = check_word true c (logical_sum ws) k in
    ap (λ (j : Judged). j.found.error) (judge_delivered ws true c k w some all (check_word_lt true c (logical_sum ws) k) hn refl)
    ∙ error_none true c (logical_sum ws) k w hn refl refl

-- ---- its records

-- records of r words
pub data Records (r : ℕ) : List (List ℕ) → Type 0 where
  none : Records r []
  more : {x : List ℕ} {xs : List (List ℕ)} → length x ≡ r → Records r xs → Records r (x ∷ xs)

pub records_last : (r : ℕ) (xs : List (List ℕ)) (x : List ℕ) → Records r xs → length x ≡ r → Records r (xs ++ (x ∷ []))
records_last r [] x none e = more e none
records_last r (y ∷ xs) x (more d R) e = more d (records_last r xs x R e)

cut_one : (n r : ℕ) (x y : List ℕ) → 1 ≤ r → length x ≡ r → cut_on (suc n) r (x ++ y) ≡ entry x ∷ cut_on n r y
unfolding cut_on
cut_one n r [] y h e = absurd (omega arith)
cut_one n r (w ∷ ws) y h e =
    let l : r ≤ length (w ∷ (ws ++ y)) = omega (arith, e, length-append (w ∷ ws) y) in
    cond_true _ _ (le-leb r (length (w ∷ (ws ++ y))) l)
    ∙ ap₂ (λ (a b : List ℕ). entry a ∷ cut_on n r b)
    (ap (λ (i : ℕ). take i (w ∷ (ws ++ y))) (sym e) ∙ take-append_seam (w ∷ ws) y)
    (ap (λ (i : ℕ). drop i (w ∷ (ws ++ y))) (sym e) ∙ drop-append_seam (w ∷ ws) y)

cut_records : (r : ℕ) → 1 ≤ r → (xs : List (List ℕ)) → Records r xs → (n : ℕ) → length xs ≤ n → cut_on n r (joined xs) ≡ map entry xs
unfolding joined cut_on
cut_records r h [] none zero l = refl
cut_records r h [] none (suc n) l = refl
cut_records r h (x ∷ xs) (more e R) zero l = absurd (omega arith)
cut_records r h (x ∷ xs) (more e R) (suc n) l =
    cut_one n r x (joined xs) h e ∙ ap (λ (ls : List Line). entry x ∷ ls) (cut_records r h xs R n (omega arith))

-- there are no more records than words
records_short : (r : ℕ) → 1 ≤ r → (xs : List (List ℕ)) → Records r xs → length xs ≤ length (joined xs)
unfolding joined
records_short r h [] none = omega arith
records_short r h (x ∷ xs) (more e R) = omega (arith, e, h, length-append x (joined xs), records_short r h xs R)

-- ---- a block that was filled by puts and sealed, early or not, and is delivered with its own number

module _ (c : Choice) (some : 1 ≤ c.rlen) (xs : List (List ℕ)) (R : Records c.rlen xs)
    (words : all_of is_word (joined xs) ≡ true) (long : 1 ≤ length (joined xs)) (k : ℕ) (number : k < 2 ^ 15) where
  block_lines_lem : block_lines c k (checked c.sequence c.check k (joined xs)) ≡ map entry xs
  unfolding block_lines
  block_lines_lem =
      let b = checked c.sequence c.check k (joined xs) in
      ap₂ (λ (e : ℕ) (ws : List ℕ). wrong_lines e (judged_block b c.sequence c.check k).found ++ cut_on (length ws) c.rlen ws)
      (no_error c.sequence c.check k (joined xs) number long words) (data_checked c.sequence c.check k (joined xs))
      ∙ cut_records c.rlen some xs R (length (joined xs)) (records_short c.rlen some xs R)

  pub block_back : length (joined xs) ≤ c.size → (pieces : List Piece)
      → read_from c k (block_of c k (joined xs) ∷ pieces) ≡ map entry xs ++ read_from c (next_number k) pieces
  unfolding read_from
  block_back fits pieces =
      let b = checked c.sequence c.check k (joined xs) in
      let l = length_checked c.sequence c.check k (joined xs) in
      cond_true _ _
      (and_both _ _ (le-leb (1 + extra c.sequence c.check) (length b) (omega (arith, l, long)))
      (le-leb (length b) (c.size + extra c.sequence c.check) (omega (arith, l, fits))))
      ∙ ap (λ (ls : List Line). ls ++ read_from c (next_number k) pieces) block_lines_lem
