-- A codec: how many bytes a value takes, the bytes of a value, and the value that stands at the front of bytes. Assumes nothing.
use Rattle.std.specs.Prelude.{ℕ, zero, suc, ◌*◌, ◌-◌, ◌≤◌, ◌≡◌, Bool, true, false, ◌&&◌, List, [], ◌∷◌, ◌++◌, eqb, length, take, drop, replicate, get_or}

pub record Codec (A : Type 0) : Type 0 where
  pub size : ℕ
  pub write : A → List ℕ
  pub read : List ℕ → A

-- The law of a codec: every value's bytes have its size, and a value that it keeps is read back, whatever bytes follow it.
pub record Keeps {A : Type 0} (c : Codec A) (good : A → Type 0) : Type 0 where
  pub sized : (a : A) → length (c.write a) ≡ c.size
  pub back : (a : A) (rest : List ℕ) → good a → c.read (c.write a ++ rest) ≡ a

-- ---- values one after the other

unfoldable pub write_each : {A : Type 0} → Codec A → List A → List ℕ
write_each c [] = []
write_each c (x ∷ xs) = c.write x ++ write_each c xs

unfoldable pub read_each : {A : Type 0} → Codec A → ℕ → List ℕ → List A
read_each c zero bs = []
read_each c (suc n) bs = c.read bs ∷ read_each c n (drop c.size bs)

unfoldable pub All : {A : Type 0} → (A → Type 0) → List A → Type 0
All good [] = Unit {0}
All good (x ∷ xs) = good x × All good xs

-- The first n values of a list as long as `most`; what stands after them is blank. (A shorter list is written as if blanks followed it.)
abbrev pub first_of : {A : Type 0} → A → ℕ → List A → List A
first_of blank n xs = take n (xs ++ replicate n blank)

abbrev pub padded : {A : Type 0} → Codec A → A → ℕ → ℕ → Codec (List A)
padded c blank most n = record {
  size = n * c.size;
  write = λ xs. write_each c (first_of blank n xs);
  read = λ bs. read_each c n bs ++ replicate (most - n) blank;
}

-- the lists that it keeps
pub record Padded {A : Type 0} (blank : A) (most n : ℕ) (good : A → Type 0) (xs : List A) : Type 0 where
  pub long : n ≤ length xs
  pub each : All good (take n xs)
  pub rest : drop n xs ≡ replicate (most - n) blank

-- ---- bytes compared

unfoldable pub same : List ℕ → List ℕ → Bool
same [] [] = true
same [] (y ∷ ys) = false
same (x ∷ xs) [] = false
same (x ∷ xs) (y ∷ ys) = eqb x y && same xs ys

-- ---- bytes at the front of a list are those of what they stand for

unfoldable pub is_tight : {A : Type 0} → Codec A → List ℕ → Bool
is_tight c bs = same (c.write (c.read bs)) (take c.size bs)

-- the same of n values, one after the other
unfoldable pub are_tight : {A : Type 0} → Codec A → ℕ → List ℕ → Bool
are_tight c zero bs = true
are_tight c (suc n) bs = is_tight c bs && are_tight c n (drop c.size bs)

-- bytes compared one by one, from place k on
unfoldable pub matches : ℕ → List ℕ → List ℕ → Bool
matches k [] bs = true
matches k (x ∷ xs) bs = eqb x (get_or bs k 0) && matches (suc k) xs bs
