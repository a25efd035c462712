-- Laws of lists of blocks: one block more at the end, and what holds of every element. Assumes nothing.
use mathlib.Core.Path.{◌≡◌, refl, sym, ap, ap₂, ◌∙◌}
use mathlib.Core.Bool.{Bool}
use mathlib.Core.List.{List, [], ◌∷◌, ◌++◌, map, append_assoc, append-nil}
use Prim.Native.Nat.{ℕ}
use Rattle.word.specs.CheckWords.{next_number}
use Rattle.block.specs.Blocks.{judged_block}
use Rattle.demands_ledger.specs.Ledgers.{Came, contents_of}
use Rattle.demands_ledger.specs.Blocks.{checked, all_checked, joined, contents, number_after}
use Rattle.demands_ledger.proofs.Told.{All, none, more}

-- ---- one more at the end

pub joined_last : {A : Type 0} (xs : List (List A)) (x : List A) → joined (xs ++ (x ∷ [])) ≡ joined xs ++ x
unfolding joined
joined_last [] x = append-nil x
joined_last (y ∷ xs) x = ap (λ l. y ++ l) (joined_last xs x) ∙ sym (append_assoc y (joined xs) x)

pub checked_last : (s c : Bool) (k : ℕ) (ds : List (List ℕ)) (d : List ℕ)
    → all_checked s c k (ds ++ (d ∷ [])) ≡ all_checked s c k ds ++ (checked s c (number_after k ds) d ∷ [])
unfolding all_checked number_after
checked_last s c k [] d = refl
checked_last s c k (x ∷ ds) d = ap (λ (l : List (List ℕ)). checked s c k x ∷ l) (checked_last s c (next_number k) ds d)

pub contents_last : (s c : Bool) (k : ℕ) (bs : List Came) (b : Came)
    → contents s c k (bs ++ (b ∷ [])) ≡ contents s c k bs ++ contents_of s c b.failed (judged_block b.words s c (number_after k bs)).found b.words
unfolding contents number_after
contents_last s c k [] b = append-nil _
contents_last s c k (x ∷ bs) b =
    ap (λ l. contents_of s c x.failed (judged_block x.words s c k).found x.words ++ l) (contents_last s c (next_number k) bs b)
    ∙ sym (append_assoc (contents_of s c x.failed (judged_block x.words s c k).found x.words) (contents s c (next_number k) bs) _)

pub number_last : {A : Type 0} (k : ℕ) (bs : List A) (b : A) → number_after k (bs ++ (b ∷ [])) ≡ next_number (number_after k bs)
unfolding number_after
number_last k [] b = refl
number_last k (x ∷ bs) b = number_last (next_number k) bs b

pub map_append : {A B : Type 0} (h : A → B) (a b : List A) → map h (a ++ b) ≡ map h a ++ map h b
map_append h [] b = refl
map_append h (x ∷ a) b = ap (λ l. h x ∷ l) (map_append h a b)

-- ---- every element

pub all_append : {A : Type 0} (P : A → Type 0) (a b : List A) → All P a → All P b → All P (a ++ b)
all_append P a b none q = q
all_append P a b (more {xs = xs} h p) q = more h (all_append P xs b p q)

pub map_same : {A B : Type 0} (h g : A → B) (xs : List A) → All (λ x. h x ≡ g x) xs → map h xs ≡ map g xs
map_same h g xs none = refl
map_same h g xs (more {xs = ys} e p) = ap₂ (λ x l. x ∷ l) e (map_same h g ys p)
