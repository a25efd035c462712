-- What a ledger says of blocks as a reader meets them: those shown, those that lie in the area, their data words and their numbers.
-- Assumes nothing.
use mathlib.Core.Path.{◌≡◌, refl, sym, ap, ap₂, subst, ◌∙◌}
use mathlib.Core.Bool.{Bool, true, false, cond, ◌||◌}
use mathlib.Core.List.{List, [], ◌∷◌, ◌++◌, map, append_assoc}
use Prim.Native.Nat.{ℕ, suc, ◌+◌, ◌-◌, ◌%◌, ◌<◌}
use native.Mathlib.Nat.{zero-add, mod-add-mod, mod-lt, mod-eq_of_lt}
use native.Mathlib.Omega.{arith}
use lib.ListN.{length, take, length-append}
use lib.Seq.{take_at}
use Rattle.word.specs.Sums.{logical_sum}
use Rattle.word.specs.CheckWords.{check_word, block_numbers, next_number}
use Rattle.file.specs.declared.File.{File}
use Rattle.demands_ledger.specs.Ledgers.{data_of}
use Rattle.demands_ledger.specs.Blocks.{blocks_in, part_in, checked, all_checked, joined, number_after, Sized, Divided}
use Rattle.demands_ledger.proofs.Told.{Wrote}
use Rattle.demands_ledger.proofs.Lists.{map_append}
use Rattle.demands_ledger.proofs.Cuts.{divided_at}

-- the data words of a block of these data words
data_at : (d e : List ℕ) (n : ℕ) → length e ≡ n → take (length (d ++ e) - n) (d ++ e) ≡ d
data_at d e n l = take_at d e (length (d ++ e) - n) (let q : length (d ++ e) ≡ length d + length e = length-append d e in omega arith)

pub data_checked : (s c : Bool) (k : ℕ) (d : List ℕ) → data_of s c (checked s c k d) ≡ d
data_checked s c k d = go (s || c)
  where
    go : (t : Bool) → take (length (d ++ cond t (check_word s c (logical_sum d) k ∷ []) []) - cond t 1 0)
        (d ++ cond t (check_word s c (logical_sum d) k ∷ []) []) ≡ d
    go true = data_at d (check_word s c (logical_sum d) k ∷ []) 1 refl
    go false = data_at d [] 0 refl

pub data_all : (s c : Bool) (k : ℕ) (ds : List (List ℕ)) → map (data_of s c) (all_checked s c k ds) ≡ ds
unfolding all_checked
data_all s c k [] = refl
data_all s c k (d ∷ ds) = ap₂ (λ (x : List ℕ) (l : List (List ℕ)). x ∷ l) (data_checked s c k d) (data_all s c (next_number k) ds)

-- the first blocks of a row are as they must be
pub first_checked : (s c : Bool) (k : ℕ) (bs rest ds : List (List ℕ)) → bs ++ rest ≡ all_checked s c k ds → bs ≡ all_checked s c k (map (data_of s c) bs)
unfolding all_checked
first_checked s c k [] rest ds e = refl
first_checked s c k (b ∷ bs) rest [] e = absurd (let z : ◌≡◌ {A = ℕ} 0 1 = cc in omega arith)
first_checked s c k (b ∷ bs) rest (d ∷ ds) e =
    let h : b ≡ checked s c k d = cc in
    let t : bs ++ rest ≡ all_checked s c (next_number k) ds = cc in
    let q : data_of s c b ≡ d = ap (data_of s c) h ∙ data_checked s c k d in
    ap₂ (λ (x : List ℕ) (l : List (List ℕ)). x ∷ l) (h ∙ ap (checked s c k) (sym q)) (first_checked s c (next_number k) bs rest ds t)

-- the block after them too
next_checked : (s c : Bool) (k : ℕ) (bs : List (List ℕ)) (b : List ℕ) (rest ds : List (List ℕ)) → bs ++ (b ∷ rest) ≡ all_checked s c k ds
    → b ≡ checked s c (number_after k bs) (data_of s c b)
unfolding all_checked number_after
next_checked s c k [] b rest [] e = absurd (let z : ◌≡◌ {A = ℕ} 0 1 = cc in omega arith)
next_checked s c k [] b rest (d ∷ ds) e =
    let h : b ≡ checked s c k d = cc in h ∙ ap (checked s c k) (sym (ap (data_of s c) h ∙ data_checked s c k d))
next_checked s c k (x ∷ bs) b rest [] e = absurd (let z : ◌≡◌ {A = ℕ} 0 1 = cc in omega arith)
next_checked s c k (x ∷ bs) b rest (d ∷ ds) e =
    next_checked s c (next_number k) bs b rest ds (let t : bs ++ (b ∷ rest) ≡ all_checked s c (next_number k) ds = cc in t)

joined_append : {A : Type 0} (a b : List (List A)) → joined (a ++ b) ≡ joined a ++ joined b
unfolding joined
joined_append [] b = refl
joined_append (x ∷ a) b = ap (λ l. x ++ l) (joined_append a b) ∙ sym (append_assoc x (joined a) (joined b))

module _ (w : ℕ) (f : File) (area puts : List ℕ) (sent : List (List ℕ)) (seals : List ℕ) (T : Wrote w f area puts sent seals) where
  abbrev data_of_lem : List (List ℕ) → List (List ℕ)
  data_of_lem = map (data_of f.sequence f.check)

  pub wrote_checks : sent ≡ all_checked f.sequence f.check 1 (map (data_of f.sequence f.check) sent)
  wrote_checks = first_checked f.sequence f.check 1 sent (blocks_in w f area) T.data_words_lem T.blocks

  pub wrote_data : map (data_of f.sequence f.check) (sent ++ blocks_in w f area) ≡ T.data_words_lem
  wrote_data = ap (map (data_of f.sequence f.check)) T.blocks ∙ data_all f.sequence f.check 1 T.data_words_lem

  pub wrote_words : joined (map (data_of f.sequence f.check) sent)
      ++ (joined (map (data_of f.sequence f.check) (blocks_in w f area)) ++ part_in w f area) ≡ puts
  wrote_words =
      sym (append_assoc (joined (data_of_lem sent)) (joined (data_of_lem (blocks_in w f area))) (part_in w f area))
      ∙ ap (λ (l : List ℕ). l ++ part_in w f area) (sym (joined_append (data_of_lem sent) (data_of_lem (blocks_in w f area))) ∙ ap joined whole)
      ∙ T.words
    where
      whole : map (data_of f.sequence f.check) sent ++ map (data_of f.sequence f.check) (blocks_in w f area) ≡ T.data_words_lem
      whole = sym (map_append (data_of f.sequence f.check) sent (blocks_in w f area)) ∙ wrote_data

  -- the block that is next: its data words, its check word and how many words it has
  module _ (b : List ℕ) (rest : List (List ℕ)) (e : blocks_in w f area ≡ b ∷ rest) where
    pub next_is : b ≡ checked f.sequence f.check (number_after 1 sent) (data_of f.sequence f.check b)
    next_is =
        next_checked f.sequence f.check 1 sent b rest T.data_words_lem (ap (λ (v : List (List ℕ)). sent ++ v) (sym e) ∙ T.blocks)

    pub next_words : joined (map (data_of f.sequence f.check) sent)
        ++ (data_of f.sequence f.check b ++ (joined (map (data_of f.sequence f.check) rest) ++ part_in w f area)) ≡ puts
    unfolding joined
    next_words =
        ap (λ (v : List ℕ). joined (data_of_lem sent) ++ v)
        (sym (append_assoc (data_of f.sequence f.check b) (joined (data_of_lem rest)) (part_in w f area))
        ∙ ap (λ (v : List (List ℕ)). joined (data_of_lem v) ++ part_in w f area) (sym e)) ∙ wrote_words

    pub next_sized : Sized f.rlen f.size seals (length (joined (map (data_of f.sequence f.check) sent))) (data_of f.sequence f.check b)
    next_sized =
        subst (λ (n : ℕ). Sized f.rlen f.size seals n (data_of f.sequence f.check b)) (zero-add _)
        (divided_at f.rlen f.size seals 0 (data_of_lem sent) (data_of f.sequence f.check b) (data_of_lem rest)
        (subst (Divided f.rlen f.size seals 0)
        (sym (sym (map_append (data_of f.sequence f.check) sent (b ∷ rest)) ∙ ap (λ (v : List (List ℕ)). data_of_lem (sent ++ v)) (sym e)
        ∙ wrote_data)) T.sized))

-- ---- numbers

numbers_from : {A : Type 0} (k : ℕ) (bs : List A) → k < block_numbers → number_after k bs ≡ (k + length bs) % block_numbers
unfolding number_after
numbers_from k [] l = let q : k + 0 ≡ k = omega arith in sym (ap (λ (n : ℕ). n % block_numbers) q ∙ mod-eq_of_lt l)
numbers_from k (b ∷ bs) l =
    let i : next_number k < block_numbers = mod-lt (k + 1) (omega arith) in
    let j : k + 1 + length bs ≡ k + suc (length bs) = omega arith in
    numbers_from (next_number k) bs i ∙ mod-add-mod (k + 1) block_numbers (length bs) ∙ ap (λ (n : ℕ). n % block_numbers) j

-- after so many blocks comes the number that is one more than they are, of 32,768
pub numbers : {A : Type 0} (bs : List A) → number_after 1 bs ≡ (1 + length bs) % block_numbers
numbers bs = numbers_from 1 bs (omega arith)
