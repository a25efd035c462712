-- Bytes that are those of what they stand for, piece by piece. Assumes nothing.
use Prim.Native.Nat.{ℕ, zero, suc, ◌+◌, ◌*◌, ◌≤◌, ◌<◌}
use mathlib.Core.Path.{◌≡◌, refl, sym, ap, ◌∙◌}
use mathlib.Core.Bool.{Bool, true, false, ◌&&◌}
use mathlib.Core.List.{List, [], ◌∷◌, ◌++◌}
use native.Mathlib.Nat.{suc-mul, zero-mul}
use native.Mathlib.Omega.{arith}
use lib.Dec.{eqb}
use lib.ListN.{length, take, drop, get_or, length-drop}
use lib.Seq.{drop-drop, drop-cons, take-nil, length-take-le}
use Rattle.codec.specs.Codecs.{Codec, write_each, read_each, same, is_tight, are_tight, matches}

-- ---- one value of many

pub read_at : {A : Type 0} (c : Codec A) (n : ℕ) (bs : List ℕ) (i : ℕ) (d : A) → i < n → get_or (read_each c n bs) i d ≡ c.read (drop (i * c.size) bs)
unfolding read_each
read_at c zero bs i d h = absurd (omega arith)
read_at c (suc n) bs zero d h = ap (λ (k : ℕ). c.read (drop k bs)) (sym (zero-mul c.size))
read_at c (suc n) bs (suc i) d h =
    read_at c n (drop c.size bs) i d (omega arith)
    ∙ ap c.read (drop-drop (i * c.size) c.size bs ∙ ap (λ (k : ℕ). drop k bs) (let z : c.size + i * c.size ≡ suc i * c.size = omega (arith, suc-mul i c.size) in z))

-- ---- pieces compared

and_assoc : (a b c : Bool) → ((a && b) && c) ≡ (a && (b && c))
and_assoc true b c = refl
and_assoc false b c = refl

pub same_append : (xs us ys vs : List ℕ) → length xs ≡ length us → same (xs ++ ys) (us ++ vs) ≡ (same xs us && same ys vs)
unfolding same
same_append [] [] ys vs e = refl
same_append [] (u ∷ us) ys vs e = absurd (omega (arith, e))
same_append (x ∷ xs) [] ys vs e = absurd (omega (arith, e))
same_append (x ∷ xs) (u ∷ us) ys vs e =
    ap (λ (b : Bool). eqb x u && b) (same_append xs us ys vs (omega (arith, e))) ∙ sym (and_assoc (eqb x u) (same xs us) (same ys vs))

take_two : (k l : ℕ) (bs : List ℕ) → take (k + l) bs ≡ take k bs ++ take l (drop k bs)
take_two zero l bs = ap (λ (k : ℕ). take k bs) (let z : 0 + l ≡ l = omega arith in z)
take_two (suc k) l [] = ap (λ (j : ℕ). take j []) (let z : suc k + l ≡ suc (k + l) = omega arith in z) ∙ sym (take-nil l)
take_two (suc k) l (b ∷ bs) =
    ap (λ (j : ℕ). take j (b ∷ bs)) (let z : suc k + l ≡ suc (k + l) = omega arith in z) ∙ ap (λ (r : List ℕ). b ∷ r) (take_two k l bs)

pub same_split : (xs ys bs : List ℕ) (k l : ℕ) → length xs ≡ k → k ≤ length bs → same (xs ++ ys) (take (k + l) bs) ≡ (same xs (take k bs) && same ys (take l (drop k bs)))
same_split xs ys bs k l e h =
    ap (same (xs ++ ys)) (take_two k l bs) ∙ same_append xs (take k bs) ys (take l (drop k bs)) (e ∙ sym (length-take-le k bs h))

pub each_tight : {A : Type 0} (c : Codec A) → ((a : A) → length (c.write a) ≡ c.size) → (n : ℕ) (bs : List ℕ) → n * c.size ≤ length bs
    → same (write_each c (read_each c n bs)) (take (n * c.size) bs) ≡ are_tight c n bs
unfolding write_each read_each are_tight is_tight same
each_tight c sized zero bs h = ap (λ (k : ℕ). same [] (take k bs)) (zero-mul c.size)
each_tight c sized (suc n) bs h =
    let m : suc n * c.size ≡ c.size + n * c.size = omega (arith, suc-mul n c.size) in
    let left : n * c.size ≤ length (drop c.size bs) = omega (arith, m, length-drop c.size bs) in
    ap (λ (k : ℕ). same (c.write (c.read bs) ++ write_each c (read_each c n (drop c.size bs))) (take k bs)) m
    ∙ same_split (c.write (c.read bs)) (write_each c (read_each c n (drop c.size bs))) bs c.size (n * c.size) (sized (c.read bs)) (omega (arith, m))
    ∙ ap (λ (b : Bool). is_tight c bs && b) (each_tight c sized n (drop c.size bs) left)

-- ---- bytes one by one

pub same_matches : (k : ℕ) (xs bs : List ℕ) → k + length xs ≤ length bs → same xs (take (length xs) (drop k bs)) ≡ matches k xs bs
unfolding same matches
same_matches k [] bs h = refl
same_matches k (x ∷ xs) bs h =
    let inside : k < length bs = omega (arith, h) in
    ap (λ (l : List ℕ). same (x ∷ xs) (take (suc (length xs)) l)) (drop-cons bs k 0 inside)
    ∙ ap (λ (b : Bool). eqb x (get_or bs k 0) && b) (same_matches (suc k) xs bs (omega (arith, h)))
