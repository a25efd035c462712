-- The mask of the free buffers says what the files say: its lowest bits are the lowest free buffers, its ones are how many are free, and a file
-- that is opened or closed changes it as it changes what is free. Assumes nothing.
use mathlib.Core.Path.{◌≡◌, refl, sym, ap, ap₂, ◌∙◌}
use mathlib.Core.Bool.{Bool, true, false, not, cond, ◌&&◌, ◌||◌}
use mathlib.Core.List.{List}
use Prim.Native.Nat.{ℕ, zero, suc, ◌+◌, ◌-◌, ◌*◌, ◌%◌, ◌^◌, ◌≤◌, ◌<◌, zero-le}
use native.Mathlib.Nat.{sub-zero, le_trans, le_of_eq}
use native.Mathlib.Omega.{arith}
use lib.Bits.{bit_and, bit_or}
use lib.Count.{ones, count_trailing_zeros}
use lib.Dec.{eqb, ltb, leb-suc-zero}
use lib.ListN.{length, get_or, set, drop, replicate}
use lib.Pow.{shl_exact, pow_mono}
use borrow.Author.Tests.{ne_eqb, lt-ltb}
use Rattle.area.specs.Lists.{any_of, first_along, count_along}
use Rattle.area.specs.Masks.{bit_at, mask_of}
use Rattle.area.proofs.Marks.{first_ext, first_next, first_below, count_ext, count_below}
use Rattle.area.proofs.Bools.{any_alike, any_exchange}
use Rattle.area.proofs.Masks.{zero_bit, own_bit, or_bit, mask_lt, mask_ext, mask_is, mask_none, mask_one, mask_below, mask_with, mask_without, trailing_first, ones_count}
use Rattle.area.proofs.Walks.{true_not_false, and_both, or_second, any_step, any_end}
use Rattle.file.specs.declared.File.{File}
use Rattle.file.specs.Sizes.{closed_file}
use Rattle.pool.specs.Free.{buffer_limit, held_by, is_held, is_free, lowest_free, free_count, lowest_number, free_of}
use Rattle.pool.specs.Masks.{free_mask, all_free, lowest_set, free_in, taken_by, given_back, free_after}
use Rattle.std.specs.declared.option.Option.{Option}
use Rattle.std.specs.declared.option.Option.TheVariants.{Some, None}
use Rattle.std.specs.Option.{unwrap_or}

-- ---- the words that the code makes

-- one bit
pub one_shifted : (b : ℕ) → b < buffer_limit → (1 * 2 ^ b) % 2 ^ buffer_limit ≡ 2 ^ b
one_shifted b h = shl_exact 1 b buffer_limit (omega arith) (omega arith) ∙ omega arith

pub bit_word : (b : ℕ) → b < buffer_limit → (1 * 2 ^ b) % 2 ^ buffer_limit ≡ mask_of (eqb b) buffer_limit
bit_word b h = one_shifted b h ∙ mask_one b buffer_limit h

pub no_bit : (b : ℕ) → buffer_limit ≤ b → 0 ≡ mask_of (eqb b) buffer_limit
no_bit b h = mask_none (eqb b) buffer_limit (λ k l. ne_eqb b k (λ (r : b ≡ k). omega arith))

-- m of them, or all
pub one_under : (m : ℕ) → m < buffer_limit → 1 ≤ (1 * 2 ^ m) % 2 ^ buffer_limit
one_under m h = le_trans (pow_mono {i = 0} {j = m} zero-le) (le_of_eq (sym (one_shifted m h)))

pub some_word : (m : ℕ) → m < buffer_limit → (1 * 2 ^ m) % 2 ^ buffer_limit - 1 ≡ all_free m
some_word m h = ap (λ (x : ℕ). x - 1) (one_shifted m h) ∙ mask_below m buffer_limit (omega arith)

pub all_word : (m : ℕ) → buffer_limit ≤ m → 2 ^ buffer_limit - 1 ≡ all_free m
all_word m h =
    mask_below buffer_limit buffer_limit (omega arith)
    ∙ mask_ext (λ b. ltb b buffer_limit) (λ b. ltb b m) buffer_limit 0 (λ b l k. lt-ltb b buffer_limit (omega arith) ∙ sym (lt-ltb b m (omega arith)))

-- what a file holds: none, one, two
pub none_held : (f : File) → f.opened ≡ false → 0 ≡ mask_of (λ b. held_by b f) buffer_limit
none_held f o = mask_none (λ b. held_by b f) buffer_limit (λ b l. ap (λ (t : Bool). t && (eqb f.low.number b || (f.double && eqb f.high.number b))) o)

held_at : (f : File) → f.opened ≡ true → (b : ℕ) → (eqb f.low.number b || (f.double && eqb f.high.number b)) ≡ held_by b f
held_at f o b = sym (ap (λ (t : Bool). t && (eqb f.low.number b || (f.double && eqb f.high.number b))) o)

pub one_held_lem : (f : File) (x : ℕ) → f.opened ≡ true → f.double ≡ false → x ≡ mask_of (eqb f.low.number) buffer_limit → x ≡ mask_of (λ b. held_by b f) buffer_limit
one_held_lem f x o d e =
    e ∙ mask_ext (eqb f.low.number) (λ b. held_by b f) buffer_limit 0
    (λ b l k. alone (eqb f.low.number b) ∙ ap (λ (t : Bool). eqb f.low.number b || (t && eqb f.high.number b)) (sym d) ∙ held_at f o b)
  where
    alone : (a : Bool) → a ≡ (a || false)
    alone true = refl
    alone false = refl

pub two_held : (f : File) (x y : ℕ) → f.opened ≡ true → f.double ≡ true → x ≡ mask_of (eqb f.low.number) buffer_limit → y ≡ mask_of (eqb f.high.number) buffer_limit
    → bit_or x y ≡ mask_of (λ b. held_by b f) buffer_limit
two_held f x y o d p q =
    ap₂ bit_or p q ∙ mask_with (eqb f.high.number) (mask_of (eqb f.low.number) buffer_limit) buffer_limit (mask_lt (eqb f.low.number) buffer_limit 0)
    ∙ mask_ext (λ b. bit_at (mask_of (eqb f.low.number) buffer_limit) b || eqb f.high.number b) (λ b. held_by b f) buffer_limit 0
    (λ b l k. ap₂ (λ (s t : Bool). s || (t && eqb f.high.number b)) (own_bit (eqb f.low.number) buffer_limit b (omega arith)) (sym d) ∙ held_at f o b)

-- ---- a word's lowest bits, and the lowest of the rest

pub low_bit : (x : ℕ) → x < 2 ^ buffer_limit → count_trailing_zeros buffer_limit x ≡ lowest_set x 0
low_bit x h = trailing_first x buffer_limit h

-- the rest: all but the lowest
pub high_bit : (x y : ℕ) → x < 2 ^ buffer_limit → y ≡ bit_and x ((2 ^ buffer_limit - 1) - mask_of (eqb (lowest_set x 0)) buffer_limit)
    → count_trailing_zeros buffer_limit y ≡ lowest_set x (lowest_set x 0 + 1)
unfolding first_along
high_bit x y h e =
    ap (count_trailing_zeros buffer_limit) is ∙ trailing_first _ buffer_limit (mask_lt _ buffer_limit 0)
    ∙ ap (λ (z : Option ℕ). unwrap_or z buffer_limit) (first_ext _ (λ b. bit_at x b && not (eqb low b)) buffer_limit 0 (λ b l k. own_bit (λ b. bit_at x b && not (eqb low b)) buffer_limit b (omega arith)))
    ∙ go (first_along suc (bit_at x) buffer_limit 0) refl
  where
    low : ℕ
    low = lowest_set x 0

    is : y ≡ mask_of (λ b. bit_at x b && not (eqb low b)) buffer_limit
    is = e ∙ mask_without (eqb low) x buffer_limit h

    others : (a c : Bool) → c ≡ false → (a && not c) ≡ a
    others true c r = ap not r
    others false c r = refl

    go : (z : Option ℕ) → first_along suc (bit_at x) buffer_limit 0 ≡ z
        → unwrap_or (first_along suc (λ b. bit_at x b && not (eqb low b)) buffer_limit 0) buffer_limit ≡ lowest_set x (low + 1)
    go (Some p) q =
        let at : low ≡ p = ap (λ (z : Option ℕ). unwrap_or z buffer_limit) q in
        let next : suc p ≡ low + 1 = omega arith in
        let left : 0 + buffer_limit - suc p ≡ buffer_limit - (low + 1) = omega arith in
        ap (λ (k : ℕ). unwrap_or (first_along suc (λ b. bit_at x b && not (eqb k b)) buffer_limit 0) buffer_limit) at
        ∙ ap (λ (z : Option ℕ). unwrap_or z buffer_limit) (first_next (bit_at x) buffer_limit 0 p q ∙ ap₂ (first_along suc (bit_at x)) left next)
    go None q =
        let at : low ≡ buffer_limit = ap (λ (z : Option ℕ). unwrap_or z buffer_limit) q in
        let none : buffer_limit - (low + 1) ≡ 0 = omega arith in
        ap (λ (z : Option ℕ). unwrap_or z buffer_limit)
        (first_ext (λ b. bit_at x b && not (eqb low b)) (bit_at x) buffer_limit 0 (λ b l k. others (bit_at x b) (eqb low b) (ne_eqb low b (λ (r : low ≡ b). omega arith))) ∙ q)
        ∙ sym (ap (λ (j : ℕ). unwrap_or (first_along suc (bit_at x) j (low + 1)) buffer_limit) none)

-- all three from a word x, y being the bit of its lowest
pub bits_say : (x y : ℕ) → x < 2 ^ buffer_limit → y ≡ mask_of (eqb (count_trailing_zeros buffer_limit x)) buffer_limit
    → record { count = ones x; low = count_trailing_zeros buffer_limit x; high = count_trailing_zeros buffer_limit (bit_and x ((2 ^ buffer_limit - 1) - y)) } ≡ free_in x
unfolding free_in
bits_say x y h e =
    rw (ones_count x buffer_limit h, high_bit x (bit_and x ((2 ^ buffer_limit - 1) - y)) h (ap (λ (z : ℕ). bit_and x ((2 ^ buffer_limit - 1) - z)) (e ∙ ap (λ (k : ℕ). mask_of (eqb k) buffer_limit) (low_bit x h))), low_bit x h)

-- after a file f has become g
pub after_same : (mask : ℕ) (f g : File) → f.opened ≡ g.opened → mask ≡ free_after mask f g
unfolding free_after
after_same mask f g e = go f.opened g.opened e
  where
    go : (a b : Bool) → a ≡ b → mask ≡ cond a (cond b mask (given_back f mask)) (cond b (taken_by g mask) mask)
    go true true q = refl
    go false false q = refl
    go true false q = true_not_false (sym q) refl
    go false true q = true_not_false refl (sym q)

pub after_open : (mask x : ℕ) (f g : File) → mask < 2 ^ buffer_limit → f.opened ≡ false → g.opened ≡ true → x ≡ mask_of (λ b. held_by b g) buffer_limit
    → bit_and mask ((2 ^ buffer_limit - 1) - x) ≡ free_after mask f g
unfolding free_after
after_open mask x f g h o p e =
    ap (λ (y : ℕ). bit_and mask ((2 ^ buffer_limit - 1) - y)) e ∙ mask_without (λ b. held_by b g) mask buffer_limit h
    ∙ sym (ap₂ (λ (a b : Bool). cond a (cond b mask (given_back f mask)) (cond b (taken_by g mask) mask)) o p)

pub after_close : (mask x : ℕ) (f g : File) → mask < 2 ^ buffer_limit → f.opened ≡ true → g.opened ≡ false → x ≡ mask_of (λ b. held_by b f) buffer_limit
    → bit_or mask x ≡ free_after mask f g
unfolding free_after
after_close mask x f g h o p e =
    ap (bit_or mask) e ∙ mask_with (λ b. held_by b f) mask buffer_limit h
    ∙ sym (ap₂ (λ (a b : Bool). cond a (cond b mask (given_back f mask)) (cond b (taken_by g mask) mask)) o p)

-- ---- the mask of the free ones

module _ (m : ℕ) (fs : List File) (few : m ≤ buffer_limit) where
  -- its bits
  pub free_bit : (b : ℕ) → b < buffer_limit → bit_at (free_mask m fs) b ≡ (ltb b m && is_free fs b)
  free_bit b h = own_bit (λ b. ltb b m && is_free fs b) buffer_limit b h

  lowest_same : (k : ℕ) → lowest_set (free_mask m fs) k ≡ lowest_number m fs k
  unfolding lowest_free
  lowest_same k =
      ap (λ (z : Option ℕ). unwrap_or z buffer_limit)
      (first_ext (bit_at (free_mask m fs)) (λ b. ltb b m && is_free fs b) (buffer_limit - k) k (λ b l h. free_bit b (omega arith))
      ∙ first_below (is_free fs) m buffer_limit k few)

  count_same : count_along suc (bit_at (free_mask m fs)) buffer_limit 0 ≡ free_count m fs
  unfolding free_count
  count_same =
      count_ext (bit_at (free_mask m fs)) (λ b. ltb b m && is_free fs b) buffer_limit 0 (λ b l h. free_bit b (omega arith))
      ∙ count_below (is_free fs) m buffer_limit 0 few
      ∙ ap (λ (j : ℕ). count_along suc (is_free fs) j 0) (sub-zero m)

  -- what its bits say is what the files say
  pub mask_says : free_in (free_mask m fs) ≡ free_of m fs
  unfolding free_in free_of
  mask_says = rw (count_same, lowest_same 0, lowest_same (lowest_number m fs 0 + 1))

-- ---- the mask that a walk over the files makes

-- one file more: what was held by those before it, and by it and those after it
pub held_more : (fs : List File) (i held x : ℕ) → i < length fs → x ≡ mask_of (λ b. held_by b (get_or fs i closed_file)) buffer_limit
    → ((b : ℕ) → b < buffer_limit → (bit_at held b || is_held (drop i fs) b) ≡ is_held fs b)
    → (b : ℕ) → b < buffer_limit → (bit_at (bit_or held x) b || is_held (drop (i + 1) fs) b) ≡ is_held fs b
held_more fs i held x l e inv b h =
    ap (λ (t : Bool). t || is_held (drop (i + 1) fs) b)
    (or_bit held x b ∙ ap (λ (t : Bool). bit_at held b || t) (ap (λ (k : ℕ). bit_at k b) e ∙ own_bit (λ b. held_by b (get_or fs i closed_file)) buffer_limit b h))
    ∙ turn (bit_at held b) (held_by b (get_or fs i closed_file)) (is_held (drop (i + 1) fs) b)
    ∙ ap (λ (t : Bool). bit_at held b || t) (sym (any_step (held_by b) fs closed_file i l)) ∙ inv b h
  where
    turn : (a c d : Bool) → ((a || c) || d) ≡ (a || (c || d))
    turn true c d = refl
    turn false c d = refl

pub held_all : (fs : List File) (i held : ℕ) → held < 2 ^ buffer_limit → length fs ≤ i
    → ((b : ℕ) → b < buffer_limit → (bit_at held b || is_held (drop i fs) b) ≡ is_held fs b) → held ≡ mask_of (is_held fs) buffer_limit
held_all fs i held few l inv =
    mask_is (is_held fs) held buffer_limit few (λ b h. alone (bit_at held b) ∙ ap (λ (t : Bool). bit_at held b || t) (sym (any_end (held_by b) fs i l)) ∙ inv b h)
  where
    alone : (a : Bool) → a ≡ (a || false)
    alone true = refl
    alone false = refl

-- nothing is set at first
pub held_none : (fs : List File) (b : ℕ) → (bit_at 0 b || is_held (drop 0 fs) b) ≡ is_held fs b
held_none fs b = ap (λ (t : Bool). t || is_held fs b) (zero_bit b)

-- those of m buffers that no file holds
pub mask_word : (m : ℕ) (fs : List File) (all held : ℕ) → all ≡ all_free m → held ≡ mask_of (is_held fs) buffer_limit
    → bit_and all ((2 ^ buffer_limit - 1) - held) ≡ free_mask m fs
mask_word m fs all held p q =
    ap₂ (λ (x y : ℕ). bit_and x ((2 ^ buffer_limit - 1) - y)) p q
    ∙ mask_without (is_held fs) (all_free m) buffer_limit (mask_lt (λ b. ltb b m) buffer_limit 0)
    ∙ mask_ext (λ b. bit_at (all_free m) b && not (is_held fs b)) (λ b. ltb b m && is_free fs b) buffer_limit 0
    (λ b l h. ap (λ (t : Bool). t && not (is_held fs b)) (own_bit (λ b. ltb b m) buffer_limit b (omega arith)))

-- ---- a file in the place of another

-- that holds the same buffers
pub held_mask : (m : ℕ) (fs : List File) (i : ℕ) (g : File) → ((b : ℕ) → held_by b g ≡ held_by b (get_or fs i closed_file)) → free_mask m (set fs i g) ≡ free_mask m fs
held_mask m fs i g e =
    mask_ext (λ b. ltb b m && is_free (set fs i g) b) (λ b. ltb b m && is_free fs b) buffer_limit 0
    (λ b l h. ap (λ (t : Bool). ltb b m && not t) (any_alike (held_by b) closed_file fs i g (e b)))

shut_holds : (f : File) (b : ℕ) → f.opened ≡ false → held_by b f ≡ false
shut_holds f b o = ap (λ (t : Bool). t && (eqb f.low.number b || (f.double && eqb f.high.number b))) o

or_false : (a : Bool) → (a || false) ≡ a
or_false true = refl
or_false false = refl

-- that is opened: its buffers are taken
pub opened_mask : (m : ℕ) (fs : List File) (i : ℕ) (g : File) → i < length fs → (get_or fs i closed_file).opened ≡ false → g.opened ≡ true
    → free_after (free_mask m fs) (get_or fs i closed_file) g ≡ free_mask m (set fs i g)
unfolding free_after
opened_mask m fs i g l o p =
    ap₂ (λ (a b : Bool). cond a (cond b (free_mask m fs) (given_back (get_or fs i closed_file) (free_mask m fs))) (cond b (taken_by g (free_mask m fs)) (free_mask m fs))) o p
    ∙ mask_ext (λ b. bit_at (free_mask m fs) b && not (held_by b g)) (λ b. ltb b m && is_free (set fs i g) b) buffer_limit 0
    (λ b k h. ap (λ (t : Bool). t && not (held_by b g)) (own_bit (λ b. ltb b m && is_free fs b) buffer_limit b (omega arith))
    ∙ turn (ltb b m) (is_held fs b) (held_by b g) (is_held (set fs i g) b)
    (sym (or_false (is_held (set fs i g) b)) ∙ ap (λ (t : Bool). is_held (set fs i g) b || t) (sym (shut_holds (get_or fs i closed_file) b o)) ∙ any_exchange (held_by b) closed_file fs i g l))
  where
    turn : (a c d e : Bool) → e ≡ (c || d) → ((a && not c) && not d) ≡ (a && not e)
    turn false c d e q = refl
    turn true true d e q = ap not (sym q)
    turn true false d e q = ap not (sym q)

-- that is closed: its buffers, which were among the m and which no other file holds, are given back
pub closed_mask : (m : ℕ) (fs : List File) (i : ℕ) → i < length fs → (get_or fs i closed_file).opened ≡ true
    → ((b : ℕ) → held_by b (get_or fs i closed_file) ≡ true → b < m) → ((b : ℕ) → held_by b (get_or fs i closed_file) ≡ true → is_held (set fs i closed_file) b ≡ false)
    → free_after (free_mask m fs) (get_or fs i closed_file) closed_file ≡ free_mask m (set fs i closed_file)
unfolding free_after
closed_mask m fs i l o inside alone =
    ap (λ (a : Bool). cond a (given_back (get_or fs i closed_file) (free_mask m fs)) (free_mask m fs)) o
    ∙ mask_ext (λ b. bit_at (free_mask m fs) b || held_by b (get_or fs i closed_file)) (λ b. ltb b m && is_free (set fs i closed_file) b) buffer_limit 0
    (λ b k h. ap (λ (t : Bool). t || held_by b (get_or fs i closed_file)) (own_bit (λ b. ltb b m && is_free fs b) buffer_limit b (omega arith))
    ∙ turn (ltb b m) (is_held fs b) (held_by b (get_or fs i closed_file)) (is_held (set fs i closed_file) b)
    (any_exchange (held_by b) closed_file fs i closed_file l ∙ or_false (is_held fs b)) (λ t. lt-ltb b m (inside b t)) (alone b))
  where
    turn : (a c d e : Bool) → (e || d) ≡ c → (d ≡ true → a ≡ true) → (d ≡ true → e ≡ false) → ((a && not c) || d) ≡ (a && not e)
    turn a c true e q r z = or_second (a && not c) true refl ∙ sym (and_both a (not e) (r refl) (ap not (z refl)))
    turn a c false e q r z = or_false (a && not c) ∙ ap (λ (t : Bool). a && not t) (sym q ∙ or_false e)

-- ---- no file open

closed_held : (n b : ℕ) → is_held (replicate n closed_file) b ≡ false
unfolding any_of
closed_held zero b = refl
closed_held (suc n) b = closed_held n b

-- all m are free
pub all_free_lem : (m n : ℕ) → all_free m ≡ free_mask m (replicate n closed_file)
all_free_lem m n =
    mask_ext (λ b. ltb b m) (λ b. ltb b m && is_free (replicate n closed_file) b) buffer_limit 0
    (λ b l h. whole (ltb b m) (is_held (replicate n closed_file) b) (closed_held n b))
  where
    whole : (a c : Bool) → c ≡ false → a ≡ (a && not c)
    whole true c e = sym (ap not e)
    whole false c e = refl

-- without buffers none is
pub none_free : (n : ℕ) → 0 ≡ free_mask 0 (replicate n closed_file)
none_free n = mask_none (λ b. ltb b 0 && is_free (replicate n closed_file) b) buffer_limit (λ b l. ap (λ (t : Bool). t && is_free (replicate n closed_file) b) (leb-suc-zero b))
