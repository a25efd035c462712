-- The loops that read and write a run of values, one after the other: what holds after i of n, for any codec. Assumes nothing.
use mathlib.Core.Path.{◌≡◌, refl, sym, ap, ◌∙◌}
use mathlib.Core.List.{List, [], ◌∷◌, ◌++◌, append_assoc, append-nil}
use Prim.Native.Nat.{ℕ, zero, suc, ◌+◌, ◌*◌, ◌-◌, ◌≤◌, ◌<◌}
use native.Mathlib.Nat.{suc-mul, zero-mul, mul-le-mul_right}
use native.Mathlib.Numerals.{add-one}
use native.Mathlib.Omega.{arith}
use lib.ListN.{length, take, drop, get_or, set, replicate, length-set, take-append-drop}
use lib.Seq.{take-suc, take-suc-set, append_snoc, drop-set-lt, drop-drop, length-take-le}
use Rattle.area.specs.Parts.{paste, pasted_in}
use Rattle.area.proofs.Pastes.{paste_fitting, length_paste, paste_nothing}
use Rattle.area.proofs.Joins.{paste_paste}
use Rattle.codec.proofs.Codecs.{each_length, first_long}
use Rattle.codec.specs.Codecs.{Codec, write_each, read_each, padded}

-- ---- reading n values, from byte `start` on, into a list as long as `most`

pub drop_blanks : {A : Type 0} (blank : A) (n m : ℕ) → drop n (replicate m blank) ≡ replicate (m - n) blank
drop_blanks blank zero m = ap (λ (k : ℕ). replicate k blank) (let z : m ≡ m - 0 = omega arith in z)
drop_blanks blank (suc n) zero = ap (λ (k : ℕ). replicate k blank) (let z : 0 ≡ 0 - suc n = omega arith in z)
drop_blanks blank (suc n) (suc m) = drop_blanks blank n m ∙ ap (λ (k : ℕ). replicate k blank) (let z : m - n ≡ suc m - suc n = omega arith in z)

module _ {A : Type 0} (c : Codec A) (most n start : ℕ) (bs : List ℕ) (xs₀ : List A) where
  pub record HasRead (i at : ℕ) (xs : List A) : Type 0 where
    pub within : i ≤ n
    pub fits : n ≤ most
    pub holds : start + n * c.size ≤ length bs
    pub place : at ≡ start + i * c.size
    pub long : length xs ≡ most
    pub far : take i xs ++ read_each c (n - i) (drop at bs) ≡ read_each c n (drop start bs)
    pub rest : drop i xs ≡ drop i xs₀

  pub read_none : n ≤ most → start + n * c.size ≤ length bs → length xs₀ ≡ most → HasRead 0 start xs₀
  read_none f h l = record {
    within = omega arith;
    fits = f;
    holds = h;
    place = omega (arith, zero-mul c.size);
    long = l;
    far = ap (λ (m : ℕ). read_each c m (drop start bs)) (let z : n - 0 ≡ n = omega arith in z);
    rest = refl;
  }

  -- there is room for one value more
  pub read_room : (i at : ℕ) (xs : List A) → HasRead i at xs → i < n → at + c.size ≤ length bs
  read_room i at xs r h =
      let e : suc i * c.size ≡ i * c.size + c.size = suc-mul i c.size in
      let f : suc i * c.size ≤ n * c.size = mul-le-mul_right c.size h in
      omega (arith, e, f, r.place, r.holds)

  pub read_one : (i at : ℕ) (xs : List A) → HasRead i at xs → i < n → HasRead (i + 1) (at + c.size) (set xs i (c.read (drop at bs)))
  unfolding read_each
  read_one i at xs r h =
      let v : A = c.read (drop at bs) in
      let l : i < length xs = omega (arith, r.long, r.fits) in
      let some : n - i ≡ suc (n - (i + 1)) = omega arith in
      record {
        within = omega arith;
        fits = r.fits;
        holds = r.holds;
        place = omega (arith, r.place, suc-mul i c.size, ap (λ (m : ℕ). m * c.size) (add-one i));
        long = length-set xs i v ∙ r.long;
        far =
            rw (add-one i, take-suc-set xs i v l, ← drop-drop c.size at bs)
            (append_snoc (take i xs) v (read_each c (n - suc i) (drop c.size (drop at bs)))
            ∙ (rw (some, add-one i) at r.far));
        rest =
            drop-set-lt (i + 1) xs i v (omega arith) ∙ sym (drop-drop 1 i xs) ∙ ap (drop 1) r.rest ∙ drop-drop 1 i xs₀;
      }

  pub read_all : (blank : A) (i at : ℕ) (xs : List A) → HasRead i at xs → n ≤ i → drop n xs₀ ≡ replicate (most - n) blank
      → xs ≡ (padded c blank most n).read (drop start bs)
  unfolding read_each
  read_all blank i at xs r h b =
      let e : i ≡ n = omega (arith, r.within) in
      let none : n - i ≡ 0 = omega arith in
      let whole : take i xs ≡ read_each c n (drop start bs) = sym (append-nil (take i xs)) ∙ (rw none at r.far) in
      let left : drop i xs ≡ replicate (most - n) blank = r.rest ∙ ap (λ (k : ℕ). drop k xs₀) e ∙ b in
      sym (take-append-drop i xs) ∙ rw (whole, left)

-- ---- writing the first n values of a list from byte `at` on

pub each_append : {A : Type 0} (c : Codec A) (xs ys : List A) → write_each c (xs ++ ys) ≡ write_each c xs ++ write_each c ys
unfolding write_each
each_append c [] ys = refl
each_append c (x ∷ xs) ys = ap (λ (l : List ℕ). c.write x ++ l) (each_append c xs ys) ∙ sym (append_assoc (c.write x) (write_each c xs) (write_each c ys))

module _ {A : Type 0} (c : Codec A) (sized : (a : A) → length (c.write a) ≡ c.size) (n at : ℕ) (xs : List A) (out₀ : List ℕ) where
  pub record HasWritten (i to : ℕ) (out : List ℕ) : Type 0 where
    pub within : i ≤ n
    pub fits : n ≤ length xs
    pub room : at + n * c.size ≤ length out₀
    pub place : to ≡ at + i * c.size
    pub far : out ≡ paste at (write_each c (take i xs)) out₀

  taken : (i : ℕ) → i ≤ length xs → length (write_each c (take i xs)) ≡ i * c.size
  taken i h = each_length c sized (take i xs) ∙ ap (λ (m : ℕ). m * c.size) (length-take-le i xs h)

  pub written_none : n ≤ length xs → at + n * c.size ≤ length out₀ → HasWritten 0 at out₀
  unfolding write_each
  written_none f r = record {
    within = omega arith;
    fits = f;
    room = r;
    place = omega (arith, zero-mul c.size);
    far = sym (paste_nothing at out₀);
  }

  pub written_length : (i to : ℕ) (out : List ℕ) → HasWritten i to out → length out ≡ length out₀
  written_length i to out w =
      let f : i * c.size ≤ n * c.size = mul-le-mul_right c.size w.within in
      ap length w.far ∙ length_paste at (write_each c (take i xs)) out₀ (omega (arith, f, w.room, taken i (omega (arith, w.within, w.fits))))

  pub written_room : (i to : ℕ) (out : List ℕ) → HasWritten i to out → i < n → to + c.size ≤ length out
  written_room i to out w h =
      let e : suc i * c.size ≡ i * c.size + c.size = suc-mul i c.size in
      let f : suc i * c.size ≤ n * c.size = mul-le-mul_right c.size h in
      omega (arith, e, f, w.place, w.room, written_length i to out w)

  pub written_one : (d : A) (i to : ℕ) (out : List ℕ) → HasWritten i to out → i < n
      → HasWritten (i + 1) (to + c.size) (paste to (c.write (get_or xs i d)) out)
  unfolding write_each
  written_one d i to out w h =
      let x : A = get_or xs i d in
      let l : i < length xs = omega (arith, w.fits) in
      let t : length (write_each c (take i xs)) ≡ i * c.size = taken i (omega (arith, l)) in
      let room : to + c.size ≤ length out = written_room i to out w h in
      let one : write_each c (take (i + 1) xs) ≡ write_each c (take i xs) ++ c.write x =
      rw (add-one i, take-suc xs i d l) (each_append c (take i xs) (x ∷ []) ∙ ap (λ (l : List ℕ). write_each c (take i xs) ++ l) (append-nil (c.write x))) in
      record {
        within = omega arith;
        fits = w.fits;
        room = w.room;
        place = omega (arith, w.place, suc-mul i c.size, ap (λ (m : ℕ). m * c.size) (add-one i));
        far =
            rw (w.far, w.place, one)
            (paste_paste at (i * c.size) (write_each c (take i xs)) (c.write x) out₀ t (omega (arith, room, w.place, written_length i to out w)));
      }

  pub written_all : (blank : A) (most i to : ℕ) (out : List ℕ) → HasWritten i to out → n ≤ i → out ≡ paste at ((padded c blank most n).write xs) out₀
  written_all blank most i to out w h =
      let e : i ≡ n = omega (arith, w.within) in
      w.far ∙ ap (λ (m : ℕ). paste at (write_each c (take m xs)) out₀) e
      ∙ ap (λ (l : List A). paste at (write_each c l) out₀) (sym (first_long blank n xs w.fits))

-- ---- one piece after the other

-- bytes put where they fit
pub put_fits : (at : ℕ) (ys xs out : List ℕ) → at + length ys ≤ length xs → out ≡ pasted_in at ys xs → out ≡ paste at ys xs
put_fits at ys xs out h e = e ∙ paste_fitting at ys xs h

-- ys, then zs right after them, are both
pub put_then : (at n k : ℕ) (ys zs xs mid out : List ℕ) → k ≡ at + n → length ys ≡ n → at + n ≤ length xs → mid ≡ paste at ys xs → out ≡ paste k zs mid → out ≡ paste at (ys ++ zs) xs
put_then at n k ys zs xs mid out e long room m o = o ∙ rw (e, m) (paste_paste at n ys zs xs long room)
