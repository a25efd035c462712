-- What judging finds of a delivered block, said of its words alone. Assumes nothing.
use mathlib.Core.Path.{◌≡◌, refl, sym, ap, ap₂, subst, ◌∙◌}
use mathlib.Core.Bool.{Bool, true, false, not, cond, ◌&&◌, ◌||◌}
use mathlib.Core.List.{List, [], ◌∷◌, ◌++◌, append-nil}
use Prim.Native.Nat.{ℕ, ◌+◌, ◌-◌, ◌/◌, ◌%◌, ◌^◌, ◌≤◌}
use native.Mathlib.Nat.{mod-lt, add-zero}
use native.Mathlib.Omega.{arith}
use lib.Dec.{eqb}
use lib.ListN.{length, take, drop, get_or, take-append-drop, length-append, length-drop, get_or-eq_default}
use lib.Seq.{get_or-drop, take-append_seam, get_or-append_seam}
use Rattle.area.specs.Lists.{all_of}
use Rattle.area.specs.Parts.{is_word}
use Rattle.word.specs.Sums.{logical_sum, first_half, folded}
use Rattle.word.specs.CheckWords.{address, block_numbers, chosen, extra}
use Rattle.word.specs.declared.Checked.{Checked}
use Rattle.word.specs.Checks.{error_of, check_of}
use Rattle.block.specs.declared.blocks.Judged.{Judged}
use Rattle.block.specs.Blocks.{data_words, judged_block}
use Rattle.block.proofs.Laws.Block.{judge_found}
use Rattle.demands.specs.Records.{Finds}

-- a list of one element
one_alone : (ys : List ℕ) → length ys ≡ 1 → ys ≡ get_or ys 0 0 ∷ []
one_alone [] h = absurd (omega (arith, h))
one_alone (y ∷ []) h = refl
one_alone (y ∷ (z ∷ ys)) h = absurd (omega (arith, h))

-- the last word stands behind the others
last_behind : (words : List ℕ) (n : ℕ) → length words ≡ n + 1 → words ≡ take n words ++ (get_or words n 0 ∷ [])
last_behind words n h =
    let one : length (drop n words) ≡ 1 = omega (arith, length-drop n words, h) in
    sym (take-append-drop n words)
    ∙ ap (λ (l : List ℕ). take n words ++ l)
    (one_alone (drop n words) one ∙ ap (λ (x : ℕ). x ∷ []) (get_or-drop n words 0 0 ∙ ap (λ (i : ℕ). get_or words i 0) (add-zero n)))

-- an error counts where its field is chosen and differs
counts : (choice same : Bool) (e : ℕ) → chosen choice (cond same 0 e) ≡ cond (choice && not same) e 0
counts true true e = refl
counts true false e = refl
counts false same e = refl

module _ (words : List ℕ) (sequence check : Bool) (before : ℕ) (all : all_of is_word words ≡ true) (long : 1 + extra sequence check ≤ length words) where
  abbrev n : ℕ
  n = data_words words sequence check

  abbrev due : ℕ
  due = (1 + before) % block_numbers

  abbrev told : Checked
  told = check_of sequence check (logical_sum (take n words)) due (get_or words n 0)

  split : (b : Bool) → 1 + cond b 1 0 ≤ length words
      → words ≡ take (length words - cond b 1 0) words ++ cond b (get_or words (length words - cond b 1 0) 0 ∷ []) []
  split true h = last_behind words (length words - 1) (omega arith)
  split false h =
      sym (take-append-drop (length words - 0) words)
      ∙ ap (λ (l : List ℕ). take (length words - 0) words ++ l) (empty (drop (length words - 0) words) (omega (arith, length-drop (length words - 0) words)))
    where
      empty : (ys : List ℕ) → length ys ≡ 0 → ys ≡ []
      empty [] e = refl
      empty (y ∷ ys) e = absurd (omega (arith, e))

  nothing_read : (b : Bool) → b ≡ false → get_or words (length words - cond b 1 0) 0 ≡ 0
  nothing_read true e = absurd (let k : ◌≡◌ {A = ℕ} 1 0 = ap (λ (t : Bool). cond t 1 0) e in omega (arith, k))
  nothing_read false e = get_or-eq_default words 0 {n = length words - 0} (omega arith)

  checked_finds : Finds sequence check before words told
  unfolding check_of error_of first_half address
  checked_finds = record {
    front = take n words;
    last = get_or words n 0;
    block = split (sequence || check) long;
    none = λ e. nothing_read (sequence || check) e;
    sum = refl;
    number = refl;
    sumread = refl;
    numberread = refl;
    error =
        ap (λ (k : ℕ). k + chosen check (cond (eqb told.sumread told.sum) 0 2)) (counts sequence (eqb told.numberread told.number) 1)
        ∙ ap (λ (k : ℕ). cond (sequence && not (eqb told.numberread told.number)) 1 0 + k) (counts check (eqb told.sumread told.sum) 2);
  }

  pub judged_finds : Finds sequence check before words (judged_block words sequence check ((1 + before) % block_numbers)).found
  judged_finds =
      subst (Finds sequence check before words)
      (ap (λ (j : Judged). j.found)
      (judge_found words sequence check due (mod-lt (1 + before) (omega arith)) all (logical_sum (take n words)) (get_or words n 0) long refl refl))
      checked_finds

-- ---- and nothing else is told: two that meet the words are the same

one_split : (b : Bool) (words f g : List ℕ) (x y : ℕ) → words ≡ f ++ cond b (x ∷ []) [] → words ≡ g ++ cond b (y ∷ []) []
    → (b ≡ false → x ≡ 0) → (b ≡ false → y ≡ 0) → (f ≡ g) × (x ≡ y)
one_split true words f g x y p q u v =
    let lf : length words ≡ length f + 1 = ap length p ∙ length-append f (x ∷ []) in
    let lg : length words ≡ length g + 1 = ap length q ∙ length-append g (y ∷ []) in
    let same : length f ≡ length g = omega (arith, lf, lg) in (
      sym (take-append_seam f (x ∷ [])) ∙ ap (take (length f)) (sym p) ∙ ap (λ (k : ℕ). take k words) same ∙ ap (take (length g)) q
          ∙ take-append_seam g (y ∷ []),
      sym (get_or-append_seam f x [] 0) ∙ ap (λ (l : List ℕ). get_or l (length f) 0) (sym p) ∙ ap (λ (k : ℕ). get_or words k 0) same
          ∙ ap (λ (l : List ℕ). get_or l (length g) 0) q ∙ get_or-append_seam g y [] 0,
    )
one_split false words f g x y p q u v =
    (sym (append-nil f) ∙ sym p ∙ q ∙ append-nil g, u refl ∙ sym (v refl))

same_checked : (x y : Checked) → x.error ≡ y.error → x.sum ≡ y.sum → x.number ≡ y.number → x.sumread ≡ y.sumread
    → x.numberread ≡ y.numberread → x ≡ y
same_checked x y e a b c d =
    ap (λ (v : ℕ). record { error = v; sum = x.sum; number = x.number; sumread = x.sumread; numberread = x.numberread }) e
    ∙ ap (λ (v : ℕ). record { error = y.error; sum = v; number = x.number; sumread = x.sumread; numberread = x.numberread }) a
    ∙ ap (λ (v : ℕ). record { error = y.error; sum = y.sum; number = v; sumread = x.sumread; numberread = x.numberread }) b
    ∙ ap (λ (v : ℕ). record { error = y.error; sum = y.sum; number = y.number; sumread = v; numberread = x.numberread }) c
    ∙ ap (λ (v : ℕ). record { error = y.error; sum = y.sum; number = y.number; sumread = y.sumread; numberread = v }) d

module _ (sequence check : Bool) (before : ℕ) (words : List ℕ) (x y : Checked) (X : Finds sequence check before words x)
    (Y : Finds sequence check before words y) where
  parts : (X.front ≡ Y.front) × (X.last ≡ Y.last)
  parts = one_split (sequence || check) words X.front Y.front X.last Y.last X.block Y.block X.none Y.none

  sums : x.sum ≡ y.sum
  sums = X.sum ∙ ap (λ (l : List ℕ). folded (logical_sum l)) parts.0 ∙ sym Y.sum

  numbers : x.number ≡ y.number
  numbers = X.number ∙ sym Y.number

  sums_read : x.sumread ≡ y.sumread
  sums_read = X.sumread ∙ ap (λ (w : ℕ). w / 2 ^ 18 % 2 ^ 18) parts.1 ∙ sym Y.sumread

  numbers_read : x.numberread ≡ y.numberread
  numbers_read = X.numberread ∙ ap (λ (w : ℕ). w % 2 ^ 15) parts.1 ∙ sym Y.numberread

  errors : x.error ≡ y.error
  errors =
      X.error
      ∙ ap₂ (λ (a b : ℕ). cond (sequence && not (eqb a x.number)) 1 0 + cond (check && not (eqb b x.sum)) 2 0) numbers_read sums_read
      ∙ ap₂ (λ (a b : ℕ). cond (sequence && not (eqb y.numberread a)) 1 0 + cond (check && not (eqb y.sumread b)) 2 0) numbers sums
      ∙ sym Y.error

  pub finds_one : x ≡ y
  finds_one = same_checked x y errors sums numbers sums_read numbers_read
