-- The laws of codecs: values one after the other keep the law of each. And bytes compared. Assumes nothing.
use borrow.Author.Tests.{eqb-true, eq-eqb}
use Prim.Native.Nat.{ℕ, zero, suc, ◌*◌, ◌-◌, ◌≤◌}
use mathlib.Core.Path.{◌≡◌, refl, sym, ap, ◌∙◌}
use mathlib.Core.Bool.{Bool, true, ◌&&◌}
use mathlib.Core.List.{List, [], ◌∷◌, ◌++◌, append_assoc, append-nil}
use native.Mathlib.Nat.{zero-mul}
use native.Mathlib.Omega.{arith}
use lib.Dec.{eqb}
use lib.ListN.{length, take, drop, length-append, take-append-drop, replicate, length-replicate}
use lib.Seq.{drop_at, length-take-le, take-append-le, take_all}
use Rattle.area.proofs.Walks.{and_left, and_right, true_not_false}
use Rattle.std.specs.Cmp.Lexicographic.{pointwise}
use Rattle.codec.specs.Codecs.{Codec, Keeps, first_of, write_each, read_each, padded, Padded, All, same}

-- a codec that keeps every value
abbrev pub any : {A : Type 0} → A → Type 0
any a = Unit {0}

pub all_any : {A : Type 0} (xs : List A) → All any xs
unfolding All
all_any [] = tt
all_any (x ∷ xs) = (tt, all_any xs)

-- ---- values one after the other

module _ {A : Type 0} (blank : A) (n : ℕ) (xs : List A) where
  pub first_length : length (first_of blank n xs) ≡ n
  first_length = length-take-le n (xs ++ replicate n blank) (simp (length-append, length-replicate) (omega arith))

  pub first_long : n ≤ length xs → first_of blank n xs ≡ take n xs
  first_long h = take-append-le n xs (replicate n blank) h

pub each_length : {A : Type 0} (c : Codec A) → ((a : A) → length (c.write a) ≡ c.size) → (xs : List A) → length (write_each c xs) ≡ length xs * c.size
unfolding write_each
each_length c k [] = sym (zero-mul c.size)
each_length c k (x ∷ xs) = length-append (c.write x) (write_each c xs) ∙ simp (k x, each_length c k xs) (omega arith)

module _ {A : Type 0} (c : Codec A) (good : A → Type 0) (k : Keeps c good) where
  pub each_back : (xs : List A) (rest : List ℕ) → All good xs → read_each c (length xs) (write_each c xs ++ rest) ≡ xs
  unfolding write_each read_each All
  each_back [] rest g = refl
  each_back (x ∷ xs) rest g =
      rw (append_assoc (c.write x) (write_each c xs) rest, k.back x (write_each c xs ++ rest) g.0, drop_at (c.write x) (write_each c xs ++ rest) c.size (k.sized x), each_back xs rest g.1)

  pub padded_keeps : (blank : A) (most n : ℕ) → Keeps (padded c blank most n) (Padded blank most n good)
  padded_keeps blank most n = record {
    sized = λ xs. each_length c k.sized (first_of blank n xs) ∙ ap (λ (m : ℕ). m * c.size) (first_length blank n xs);
    back = λ xs rest g.
        let e : first_of blank n xs ≡ take n xs = first_long blank n xs g.long in
        let l : n ≡ length (take n xs) = sym (length-take-le n xs g.long) in
        let b : read_each c n (write_each c (take n xs) ++ rest) ≡ take n xs =
        ap (λ (m : ℕ). read_each c m (write_each c (take n xs) ++ rest)) l ∙ each_back (take n xs) rest g.each in
        rw (e, b, ← g.rest) (take-append-drop n xs);
  }

-- ---- what is read

pub length_read : {A : Type 0} (c : Codec A) (n : ℕ) (bs : List ℕ) → length (read_each c n bs) ≡ n
unfolding read_each
length_read c zero bs = refl
length_read c (suc n) bs = ap suc (length_read c n (drop c.size bs))

pub read_each_lem : {A : Type 0} (c : Codec A) (good : A → Type 0) → ((bs : List ℕ) → good (c.read bs)) → (n : ℕ) (bs : List ℕ) → All good (read_each c n bs)
unfolding read_each All
read_each_lem c good k zero bs = tt
read_each_lem c good k (suc n) bs = (k bs, read_each_lem c good k n (drop c.size bs))

module _ {A : Type 0} (c : Codec A) (blank : A) (most n : ℕ) (h : n ≤ most) (bs : List ℕ) where
  pub padded_length : length ((padded c blank most n).read bs) ≡ most
  padded_length =
      length-append (read_each c n bs) (replicate (most - n) blank) ∙ rw (length_read c n bs, length-replicate (most - n) blank) (omega arith)

  pub padded_rest : drop n ((padded c blank most n).read bs) ≡ replicate (most - n) blank
  padded_rest = drop_at (read_each c n bs) (replicate (most - n) blank) n (length_read c n bs)

-- as many as there are
module _ {A : Type 0} (c : Codec A) (blank : A) (n : ℕ) where
  pub read_whole : (bs : List ℕ) → (padded c blank n n).read bs ≡ read_each c n bs
  read_whole bs =
      let z : n - n ≡ 0 = omega arith in
      ap (λ (k : ℕ). read_each c n bs ++ replicate k blank) z ∙ append-nil (read_each c n bs)

  pub write_whole : (xs : List A) → length xs ≡ n → (padded c blank n n).write xs ≡ write_each c xs
  write_whole xs e =
      let far : n ≤ length xs = omega arith in
      let near : length xs ≤ n = omega arith in
      ap (write_each c) (first_long blank n xs far ∙ take_all n xs near)

pub all_drop : {A : Type 0} (good : A → Type 0) (n : ℕ) (xs : List A) → All good xs → All good (drop n xs)
unfolding All
all_drop good zero xs g = g
all_drop good (suc n) [] g = g
all_drop good (suc n) (x ∷ xs) g = all_drop good n xs g.1

-- ---- bytes compared

pub same_self : (xs : List ℕ) → same xs xs ≡ true
unfolding same
same_self [] = refl
same_self (x ∷ xs) = rw (eq-eqb x x refl, same_self xs)

pub same_is : (xs ys : List ℕ) → same xs ys ≡ true → xs ≡ ys
unfolding same
same_is [] [] e = refl
same_is [] (y ∷ ys) e = true_not_false e refl
same_is (x ∷ xs) [] e = true_not_false e refl
same_is (x ∷ xs) (y ∷ ys) e =
    let p : x ≡ y = eqb-true x y (and_left _ _ e) in
    let q : xs ≡ ys = same_is xs ys (and_right (eqb x y) _ e) in
    rw (p, q)

-- the library's `==` on bytes asks the same
pub same_pointwise : (xs ys : List ℕ) → pointwise eqb xs ys ≡ same xs ys
unfolding same
same_pointwise [] [] = refl
same_pointwise [] (y ∷ ys) = refl
same_pointwise (x ∷ xs) [] = refl
same_pointwise (x ∷ xs) (y ∷ ys) = ap (λ (b : Bool). eqb x y && b) (same_pointwise xs ys)
