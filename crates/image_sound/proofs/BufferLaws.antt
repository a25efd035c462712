-- A buffer's bytes by its kind: when they are its own, and what it may hold. Assumes nothing.
use borrow.Author.Tests.{eqb-true, eq-eqb, ne_eqb, le-leb}
use mathlib.Core.Path.{◌≡◌, refl, sym, ap, ap₂, ◌∙◌, subst}
use mathlib.Core.Bool.{Bool, true, false, not, cond, ◌&&◌, ◌||◌}
use mathlib.Core.List.{List, [], ◌∷◌}
use Prim.Native.Nat.{ℕ, zero, suc, ◌+◌, ◌*◌, ◌/◌, ◌%◌, ◌≤◌, ◌<◌}
use native.Mathlib.Omega.{arith}
use lib.Dec.{eqb, leb}
use lib.ListN.{length, get_or, drop, length-drop}
use lib.Seq.{get_or-drop}
use Rattle.area.proofs.Bools.{each_way}
use Rattle.area.proofs.Walks.{by_test, and_left, and_right, and_both, or_second, true_not_false}
use Rattle.area.proofs.Marks.{cond_false, unless}
use Rattle.word.specs.Checks.{unchecked, is_unchecked}
use Rattle.file.specs.declared.Arrival.{Arrival}
use Rattle.file.specs.declared.Slot.{Slot}
use Rattle.file.specs.declared.Slot.TheVariants.{Empty, Taken, Part, Full}
use Rattle.file.specs.declared.Buffer.{Buffer}
use Rattle.file.specs.Slots.{slot_kind, full_arrival, full_place}
use Rattle.file.specs.Arrivals.{no_arrival, is_arrival, is_no_arrival}
use Rattle.file.proofs.ArrivalLaws.{no_arrival_is}
use Rattle.state_sound.specs.Files.{full_fits, part_fits, place_fits, is_unread}
use Rattle.state_sound.proofs.FileFacts.{slot_fits, Fits, fits}
use Rattle.state_sound.proofs.FilesKept.{quiet_slot}
use Rattle.codec.specs.Codecs.{is_tight, matches}
use Rattle.codec.specs.Rows.{two, four, eight, two_at, four_at, eight_of}
use Rattle.codec.proofs.Numbers.{four_bytes_lem}
use Rattle.codec.proofs.Tight.{same_matches}
use Rattle.state_image.specs.Files.{slot_of, arrival_from, full_from, buffer_row, buffer_bytes, buffer_from, buffer_codec}
use Rattle.state_image.proofs.Joined.{two_there}
use Rattle.image_sound.specs.Judging.{has_only_words, full_reads, slot_right, slot_judged}

-- ---- numbers that are zero

two_zero : (a b : ℕ) → eqb (two a b) 0 ≡ (eqb 0 a && eqb 0 b)
two_zero a b =
    each_way (eqb (two a b) 0) (eqb 0 a && eqb 0 b)
    (λ e. let z : two a b ≡ 0 = eqb-true (two a b) 0 e in and_both (eqb 0 a) (eqb 0 b) (eq-eqb 0 a (omega arith)) (eq-eqb 0 b (omega arith)))
    (λ e.
    let x : 0 ≡ a = eqb-true 0 a (and_left (eqb 0 a) (eqb 0 b) e) in
    let y : 0 ≡ b = eqb-true 0 b (and_right (eqb 0 a) (eqb 0 b) e) in
    eq-eqb (two a b) 0 (omega arith))

abbrev zero4 : ℕ → ℕ → ℕ → ℕ → Bool
zero4 a b c d = eqb 0 a && (eqb 0 b && (eqb 0 c && eqb 0 d))

zero_facts : (a b c d : ℕ) → zero4 a b c d ≡ true → (0 ≡ a) × (0 ≡ b) × (0 ≡ c) × (0 ≡ d)
zero_facts a b c d e =
    let p = and_right (eqb 0 a) _ e in
    let q = and_right (eqb 0 b) _ p in
    (eqb-true 0 a (and_left (eqb 0 a) _ e), eqb-true 0 b (and_left (eqb 0 b) _ p), eqb-true 0 c (and_left (eqb 0 c) _ q), eqb-true 0 d (and_right (eqb 0 c) _ q))

facts_zero : (a b c d : ℕ) → 0 ≡ a → 0 ≡ b → 0 ≡ c → 0 ≡ d → zero4 a b c d ≡ true
facts_zero a b c d p q r s = and_both _ _ (eq-eqb 0 a p) (and_both _ _ (eq-eqb 0 b q) (and_both _ _ (eq-eqb 0 c r) (eq-eqb 0 d s)))

four_zero : (a b c d : ℕ) → eqb (four a b c d) 0 ≡ zero4 a b c d
four_zero a b c d =
    each_way (eqb (four a b c d) 0) (zero4 a b c d)
    (λ e. let z : four a b c d ≡ 0 = eqb-true (four a b c d) 0 e in facts_zero a b c d (omega arith) (omega arith) (omega arith) (omega arith))
    (λ e. let f = zero_facts a b c d e in eq-eqb (four a b c d) 0 (omega (arith, f.0, f.1, f.2, f.3)))

eight_zero : (a b c d p q r s : ℕ) → eqb (eight a b c d p q r s) 0 ≡ (zero4 a b c d && zero4 p q r s)
eight_zero a b c d p q r s =
    each_way (eqb (eight a b c d p q r s) 0) (zero4 a b c d && zero4 p q r s)
    (λ e.
    let z : eight a b c d p q r s ≡ 0 = eqb-true (eight a b c d p q r s) 0 e in
    let x : four a b c d ≡ 0 = omega arith in
    let y : four p q r s ≡ 0 = omega arith in
    and_both _ _ (facts_zero a b c d (omega (arith, x)) (omega (arith, x)) (omega (arith, x)) (omega (arith, x))) (facts_zero p q r s (omega (arith, y)) (omega (arith, y)) (omega (arith, y)) (omega (arith, y))))
    (λ e.
    let f = zero_facts a b c d (and_left (zero4 a b c d) _ e) in
    let g = zero_facts p q r s (and_right (zero4 a b c d) _ e) in
    eq-eqb (eight a b c d p q r s) 0 (omega (arith, f.0, f.1, f.2, f.3, g.0, g.1, g.2, g.3)))

-- ---- tests in a row, taken together

pair_up : (x y r z : Bool) → z ≡ (x && y) → (x && (y && r)) ≡ (z && r)
pair_up true y r z e = ap (λ (b : Bool). b && r) (sym e)
pair_up false y r z e = ap (λ (b : Bool). b && r) (sym e)

quad_up : (a b c d r z : Bool) → z ≡ (a && (b && (c && d))) → (a && (b && (c && (d && r)))) ≡ (z && r)
quad_up a b c d r z e =
    ap (λ (t : Bool). a && (b && t)) (pair_up c d r (c && d) refl) ∙ ap (λ (t : Bool). a && t) (pair_up b (c && d) r (b && (c && d)) refl)
    ∙ pair_up a (b && (c && d)) r z e

oct_up : (a b c d p q r s t z : Bool) → z ≡ ((a && (b && (c && d))) && (p && (q && (r && s)))) → (a && (b && (c && (d && (p && (q && (r && (s && t)))))))) ≡ (z && t)
oct_up a b c d p q r s t z e =
    ap (λ (w : Bool). a && (b && (c && (d && w)))) (quad_up p q r s t (p && (q && (r && s))) refl)
    ∙ quad_up a b c d ((p && (q && (r && s))) && t) (a && (b && (c && d))) refl
    ∙ pair_up (a && (b && (c && d))) (p && (q && (r && s))) t z e

pub both_true : (x y r : Bool) → x ≡ true → y ≡ true → (x && (y && r)) ≡ r
both_true x y r p q = rw (p, q)

pair_zero : (a b : ℕ) (r : Bool) → (eqb 0 a && (eqb 0 b && r)) ≡ (eqb (two a b) 0 && r)
pair_zero a b r = pair_up (eqb 0 a) (eqb 0 b) r (eqb (two a b) 0) (two_zero a b)

quad_zero : (a b c d : ℕ) (r : Bool) → (eqb 0 a && (eqb 0 b && (eqb 0 c && (eqb 0 d && r)))) ≡ (eqb (four a b c d) 0 && r)
quad_zero a b c d r = quad_up (eqb 0 a) (eqb 0 b) (eqb 0 c) (eqb 0 d) r (eqb (four a b c d) 0) (four_zero a b c d)

oct_zero : (a b c d p q u v : ℕ) (r : Bool)
    → (eqb 0 a && (eqb 0 b && (eqb 0 c && (eqb 0 d && (eqb 0 p && (eqb 0 q && (eqb 0 u && (eqb 0 v && r)))))))) ≡ (eqb (eight a b c d p q u v) 0 && r)
oct_zero a b c d p q u v r =
    oct_up (eqb 0 a) (eqb 0 b) (eqb 0 c) (eqb 0 d) (eqb 0 p) (eqb 0 q) (eqb 0 u) (eqb 0 v) r (eqb (eight a b c d p q u v) 0) (eight_zero a b c d p q u v)

pub pair_equal : (a b c d : ℕ) (r : Bool) → a ≡ c → b ≡ d → (eqb a c && (eqb b d && r)) ≡ r
pair_equal a b c d r p q = both_true (eqb a c) (eqb b d) r (eq-eqb a c p) (eq-eqb b d q)

moved_five : (a b c d e : Bool) → (a && (b && (c && (d && (e && true))))) ≡ ((a && (c && (d && e))) && b)
moved_five true true true true true = refl
moved_five true true true true false = refl
moved_five true true true false e = refl
moved_five true true false d e = refl
moved_five true false c d e = by_test (λ (t : Bool). false ≡ (t && false)) (c && (d && e)) (λ p. refl) (λ p. refl)
moved_five false b c d e = refl

last_true : (a c d e : Bool) → (a && (c && (d && (e && true)))) ≡ (a && (c && (d && e)))
last_true a c d e = ap (λ (t : Bool). a && (c && (d && t))) (by_test (λ (t : Bool). (t && true) ≡ t) e (λ p. refl) (λ p. refl))

first_two : (n k d : ℕ) (r : Bool) → k ≡ d → (eqb n n && (eqb k d && r)) ≡ r
first_two n k d r e = both_true (eqb n n) (eqb k d) r (eq-eqb n n refl) (eq-eqb k d e)

second_false : (n k d : ℕ) (r : Bool) → (k ≡ d → ⊥) → (eqb n n && (eqb k d && r)) ≡ false
second_false n k d r h = rw (eq-eqb n n refl, ne_eqb k d h)

pub and_true : (a : Bool) → (a && true) ≡ a
and_true true = refl
and_true false = refl

not_zero_one : (k : ℕ) → eqb 0 k ≡ false → k < 2 → 1 ≡ k
not_zero_one zero e h = absurd (true_not_false refl e)
not_zero_one (suc zero) e h = refl
not_zero_one (suc (suc k)) e h = absurd (omega (arith, h))

below_two : (k : ℕ) → (3 < k → ⊥) → (k ≡ 3 → ⊥) → (k ≡ 2 → ⊥) → k < 2
below_two zero a b c = omega arith
below_two (suc zero) a b c = omega arith
below_two (suc (suc zero)) a b c = absurd (c refl)
below_two (suc (suc (suc zero))) a b c = absurd (b refl)
below_two (suc (suc (suc (suc k)))) a b c = absurd (a (omega arith))

zero_place : (n : ℕ) (b : Bool) → (leb 0 n && (b || eqb 0 0)) ≡ true
zero_place n b = and_both (leb 0 n) (b || true) (le-leb 0 n (omega arith)) (or_second b true refl)

read_moved : (a f p : Bool) → (a && (f && (true && (p && true)))) ≡ (f && (a && p))
read_moved true true p = and_true p
read_moved true false p = refl
read_moved false true p = refl
read_moved false false p = refl

-- the four bytes of two numbers, and a number of four bytes after them
found_parts : (a b c d s : ℕ) → four a b c d + s * 4294967296 ≡ two a b + two c d * 65536 + s * 4294967296
found_parts a b c d s = omega arith

unread_law : (failed error place found number numberread sum sumread : ℕ) → found ≡ number + numberread * 65536 + sum * 4294967296
    → (eqb (two failed error) 0 && (eqb place 0 && (eqb found 0 && eqb sumread 0)))
    ≡ (eqb place 0 && (eqb failed 0 && (eqb error 0 && ((eqb sum 0 && eqb number 0) && (eqb sumread 0 && eqb numberread 0)))))
unread_law failed error place found number numberread sum sumread e =
    each_way _ _
    (λ h.
    let a : two failed error ≡ 0 = eqb-true (two failed error) 0 (and_left (eqb (two failed error) 0) _ h) in
    let h₁ = and_right (eqb (two failed error) 0) _ h in
    let h₂ = and_right (eqb place 0) _ h₁ in
    let f : found ≡ 0 = eqb-true found 0 (and_left (eqb found 0) _ h₂) in
    and_both _ _ (and_left (eqb place 0) _ h₁)
    (and_both _ _ (eq-eqb failed 0 (omega arith))
    (and_both _ _ (eq-eqb error 0 (omega arith))
    (and_both _ _ (and_both _ _ (eq-eqb sum 0 (omega (arith, e, f))) (eq-eqb number 0 (omega (arith, e, f))))
    (and_both _ _ (and_right (eqb found 0) _ h₂) (eq-eqb numberread 0 (omega (arith, e, f))))))))
    (λ h.
    let h₁ = and_right (eqb place 0) _ h in
    let h₂ = and_right (eqb failed 0) _ h₁ in
    let h₃ = and_right (eqb error 0) _ h₂ in
    let h₄ = and_left (eqb sum 0 && eqb number 0) _ h₃ in
    let h₅ = and_right (eqb sum 0 && eqb number 0) _ h₃ in
    let p : failed ≡ 0 = eqb-true failed 0 (and_left (eqb failed 0) _ h₁) in
    let q : error ≡ 0 = eqb-true error 0 (and_left (eqb error 0) _ h₂) in
    let r : sum ≡ 0 = eqb-true sum 0 (and_left (eqb sum 0) _ h₄) in
    let s : number ≡ 0 = eqb-true number 0 (and_right (eqb sum 0) _ h₄) in
    let t : numberread ≡ 0 = eqb-true numberread 0 (and_right (eqb sumread 0) _ h₅) in
    and_both _ _ (eq-eqb (two failed error) 0 (omega (arith, p, q)))
    (and_both _ _ (and_left (eqb place 0) _ h) (and_both _ _ (eq-eqb found 0 (omega (arith, e, r, s, t))) (and_left (eqb sumread 0) _ h₅))))

pub two_tight : (a b : ℕ) → a < 256 → (two a b % 256 ≡ a) × (two a b / 256 ≡ b)
two_tight a b h = (omega arith, omega arith)

-- ---- when the bytes are its own

module _ (ds : List ℕ) (long : 20 ≤ length ds) (small : (i : ℕ) → get_or ds i 0 < 256) where
  tight_is : (x : Buffer) → buffer_from ds ≡ x → is_tight buffer_codec ds ≡ matches 0 (buffer_bytes x) ds
  unfolding is_tight
  tight_is x e = same_matches 0 (buffer_bytes (buffer_from ds)) ds long ∙ ap (λ (b : Buffer). matches 0 (buffer_bytes b) ds) e

  found_there : eight_of (drop 8 ds) ≡ eight (get_or ds 8 0) (get_or ds 9 0) (get_or ds 10 0) (get_or ds 11 0) (get_or ds 12 0) (get_or ds 13 0) (get_or ds 14 0) (get_or ds 15 0)
  found_there = simp get_or-drop

  -- all but the number, the kind and the words
  rest_zero : (eqb 0 (get_or ds 6 0) && (eqb 0 (get_or ds 7 0) && (eqb 0 (get_or ds 8 0) && (eqb 0 (get_or ds 9 0) && (eqb 0 (get_or ds 10 0) && (eqb 0 (get_or ds 11 0) && (eqb 0 (get_or ds 12 0)
      && (eqb 0 (get_or ds 13 0) && (eqb 0 (get_or ds 14 0) && (eqb 0 (get_or ds 15 0) && (eqb 0 (get_or ds 16 0) && (eqb 0 (get_or ds 17 0) && (eqb 0 (get_or ds 18 0) && (eqb 0 (get_or ds 19 0) && true))))))))))))))
      ≡ (eqb (two_at ds 6) 0 && (eqb (eight_of (drop 8 ds)) 0 && (eqb (four_at ds 16) 0 && true)))
  rest_zero =
      pair_zero (get_or ds 6 0) (get_or ds 7 0) _
      ∙ ap (λ (t : Bool). eqb (two_at ds 6) 0 && t)
      (oct_zero (get_or ds 8 0) (get_or ds 9 0) (get_or ds 10 0) (get_or ds 11 0) (get_or ds 12 0) (get_or ds 13 0) (get_or ds 14 0) (get_or ds 15 0) _
      ∙ ap₂ (λ (n : ℕ) (t : Bool). eqb n 0 && t) (sym found_there) (quad_zero (get_or ds 16 0) (get_or ds 17 0) (get_or ds 18 0) (get_or ds 19 0) true))

  bare_matches : (k : ℕ) → k ≡ get_or ds 1 0 → matches 0 (buffer_row (get_or ds 0 0) k 0 0 0 unchecked) ds ≡ (has_only_words ds && eqb (two_at ds 4) 0)
  unfolding matches
  bare_matches k e =
      first_two (get_or ds 0 0) k (get_or ds 1 0) _ e
      ∙ pair_zero (get_or ds 2 0) (get_or ds 3 0) _
      ∙ ap (λ (t : Bool). eqb (two_at ds 2) 0 && t) (pair_zero (get_or ds 4 0) (get_or ds 5 0) _ ∙ ap (λ (t : Bool). eqb (two_at ds 4) 0 && t) rest_zero)
      ∙ moved_five (eqb (two_at ds 2) 0) (eqb (two_at ds 4) 0) (eqb (two_at ds 6) 0) (eqb (eight_of (drop 8 ds)) 0) (eqb (four_at ds 16) 0)

  part_matches : 2 ≡ get_or ds 1 0 → matches 0 (buffer_row (get_or ds 0 0) 2 (two_at ds 4) 0 0 unchecked) ds ≡ has_only_words ds
  unfolding matches
  part_matches e =
      let w = two_tight (get_or ds 4 0) (get_or ds 5 0) (small 4) in
      first_two (get_or ds 0 0) 2 (get_or ds 1 0) _ e
      ∙ pair_zero (get_or ds 2 0) (get_or ds 3 0) _
      ∙ ap (λ (t : Bool). eqb (two_at ds 2) 0 && t) (pair_equal (two_at ds 4 % 256) (two_at ds 4 / 256) (get_or ds 4 0) (get_or ds 5 0) _ w.0 w.1 ∙ rest_zero)
      ∙ last_true (eqb (two_at ds 2) 0) (eqb (two_at ds 6) 0) (eqb (eight_of (drop 8 ds)) 0) (eqb (four_at ds 16) 0)

  full_matches : 3 ≡ get_or ds 1 0 → matches 0 (buffer_row (get_or ds 0 0) 3 (two_at ds 4) (two_at ds 6) (get_or ds 2 0) (arrival_from ds).check) ds ≡ true
  unfolding matches
  full_matches e =
      let a = two_tight (get_or ds 4 0) (get_or ds 5 0) (small 4) in
      let b = two_tight (get_or ds 6 0) (get_or ds 7 0) (small 6) in
      let c = two_tight (get_or ds 8 0) (get_or ds 9 0) (small 8) in
      let d = two_tight (get_or ds 10 0) (get_or ds 11 0) (small 10) in
      let f = four_bytes_lem (get_or ds 12 0) (get_or ds 13 0) (get_or ds 14 0) (get_or ds 15 0) (small 12) (small 13) (small 14) in
      let g = four_bytes_lem (get_or ds 16 0) (get_or ds 17 0) (get_or ds 18 0) (get_or ds 19 0) (small 16) (small 17) (small 18) in
      first_two (get_or ds 0 0) 3 (get_or ds 1 0) _ e
      ∙ pair_equal (get_or ds 2 0) (get_or ds 3 0) (get_or ds 2 0) (get_or ds 3 0) _ refl refl
      ∙ pair_equal (two_at ds 4 % 256) (two_at ds 4 / 256) (get_or ds 4 0) (get_or ds 5 0) _ a.0 a.1
      ∙ pair_equal (two_at ds 6 % 256) (two_at ds 6 / 256) (get_or ds 6 0) (get_or ds 7 0) _ b.0 b.1
      ∙ pair_equal (two_at ds 8 % 256) (two_at ds 8 / 256) (get_or ds 8 0) (get_or ds 9 0) _ c.0 c.1
      ∙ pair_equal (two_at ds 10 % 256) (two_at ds 10 / 256) (get_or ds 10 0) (get_or ds 11 0) _ d.0 d.1
      ∙ pair_equal (four_at ds 12 % 256) (four_at ds 12 / 256 % 256) (get_or ds 12 0) (get_or ds 13 0) _ f.0 f.1
      ∙ pair_equal (four_at ds 12 / 256 / 256 % 256) (four_at ds 12 / 256 / 256 / 256) (get_or ds 14 0) (get_or ds 15 0) _ f.2 f.3
      ∙ pair_equal (four_at ds 16 % 256) (four_at ds 16 / 256 % 256) (get_or ds 16 0) (get_or ds 17 0) _ g.0 g.1
      ∙ pair_equal (four_at ds 16 / 256 / 256 % 256) (four_at ds 16 / 256 / 256 / 256) (get_or ds 18 0) (get_or ds 19 0) _ g.2 g.3

  -- ---- the buffer by its kind

  holding : Slot → Buffer
  holding x = record { number = get_or ds 0 0; slot = x }

  by_kind : (k : ℕ) → k ≡ get_or ds 1 0 → buffer_from ds ≡ holding (slot_of k (two_at ds 4) (full_from ds))
  unfolding holding
  by_kind k e = ap (λ (j : ℕ). record { number = get_or ds 0 0; slot = slot_of j (two_at ds 4) (full_from ds) }) (sym e)

  other_kind : 3 < get_or ds 1 0 → buffer_from ds ≡ holding (full_from ds)
  unfolding holding
  other_kind h =
      let k = get_or ds 1 0 in
      ap (λ (x : Slot). record { number = get_or ds 0 0; slot = x })
      (cond_false _ _ (ne_eqb k 0 (λ e. omega (arith, e, h))) ∙ cond_false _ _ (ne_eqb k 1 (λ e. omega (arith, e, h))) ∙ cond_false _ _ (ne_eqb k 2 (λ e. omega (arith, e, h))))

  module _ (sequence check output : Bool) (size rlen : ℕ) where
    judged_as_lem : (x : Slot) (t r : Bool) → buffer_from ds ≡ holding x → is_tight buffer_codec ds ≡ t → slot_right sequence check output size rlen x ≡ r
        → slot_judged sequence check output size rlen ds ≡ cond (t && r) (slot_kind x) 4
    unfolding slot_judged holding
    judged_as_lem x t r e p q =
        ap (λ (b : Buffer). cond (is_tight buffer_codec ds && slot_right sequence check output size rlen b.slot) (slot_kind b.slot) 4) e
        ∙ ap₂ (λ (a b : Bool). cond (a && b) (slot_kind x) 4) p q

    pub judged_bad : 3 < get_or ds 1 0 → 4 ≡ slot_judged sequence check output size rlen ds
    unfolding matches holding
    judged_bad h =
        let no : is_tight buffer_codec ds ≡ false =
        tight_is (holding (full_from ds)) (other_kind h) ∙ second_false (get_or ds 0 0) 3 (get_or ds 1 0) _ (λ e. omega (arith, e, h)) in
        sym (judged_as_lem (full_from ds) false _ (other_kind h) no refl)

    bare_kind : (x : Slot) (k : ℕ) → k ≡ get_or ds 1 0 → buffer_from ds ≡ holding x → slot_kind x ≡ k → buffer_bytes (holding x) ≡ buffer_row (get_or ds 0 0) k 0 0 0 unchecked
        → slot_right sequence check output size rlen x ≡ true → cond (has_only_words ds && eqb (two_at ds 4) 0) (get_or ds 1 0) 4 ≡ slot_judged sequence check output size rlen ds
    bare_kind x k e b kind bytes right =
        sym (judged_as_lem x (has_only_words ds && eqb (two_at ds 4) 0) true b
        (tight_is (holding x) b ∙ ap (λ (l : List ℕ). matches 0 l ds) bytes ∙ bare_matches k e) right
        ∙ ap₂ (λ (t : Bool) (j : ℕ). cond t j 4) (and_true (has_only_words ds && eqb (two_at ds 4) 0)) (kind ∙ e))

    pub judged_bare : get_or ds 1 0 < 2 → cond (has_only_words ds && eqb (two_at ds 4) 0) (get_or ds 1 0) 4 ≡ slot_judged sequence check output size rlen ds
    unfolding holding
    judged_bare h =
        by_test (λ (t : Bool). eqb 0 (get_or ds 1 0) ≡ t → cond (has_only_words ds && eqb (two_at ds 4) 0) (get_or ds 1 0) 4 ≡ slot_judged sequence check output size rlen ds) (eqb 0 (get_or ds 1 0))
        (λ t e. let k : 0 ≡ get_or ds 1 0 = eqb-true 0 (get_or ds 1 0) e in bare_kind Empty 0 k (by_kind 0 k) refl refl (quiet_slot sequence check output size rlen Empty refl refl refl refl refl))
        (λ t e.
        let k : 1 ≡ get_or ds 1 0 = not_zero_one (get_or ds 1 0) e h in
        bare_kind Taken 1 k (by_kind 1 k) refl refl (quiet_slot sequence check output size rlen Taken refl refl refl refl refl))
        refl

    -- ---- a part-filled buffer

    part_right_lem : (n : ℕ) → slot_right sequence check output size rlen (Part n) ≡ (leb rlen n && leb (n + rlen) size)
    part_right_lem n =
        each_way (slot_right sequence check output size rlen (Part n)) (leb rlen n && leb (n + rlen) size)
        (λ e. (fits sequence check output size rlen (Part n) e).part)
        (λ e. quiet_slot sequence check output size rlen (Part n) refl refl e refl refl)

    pub judged_part : 2 ≡ get_or ds 1 0
        → cond (has_only_words ds && (leb rlen (two_at ds 4) && leb (two_at ds 4 + rlen) size)) (get_or ds 1 0) 4 ≡ slot_judged sequence check output size rlen ds
    unfolding holding
    judged_part e =
        sym (judged_as_lem (Part (two_at ds 4)) (has_only_words ds) _ (by_kind 2 e) (tight_is (holding (Part (two_at ds 4))) (by_kind 2 e) ∙ part_matches e) (part_right_lem (two_at ds 4))
        ∙ ap (λ (k : ℕ). cond (has_only_words ds && (leb rlen (two_at ds 4) && leb (two_at ds 4 + rlen) size)) k 4) e)

    -- ---- a full block

    place_zero : (n p : ℕ) (a : Arrival) → p ≡ 0 → place_fits (Full n p a) ≡ true
    place_zero n p a e = ap (λ (k : ℕ). leb k n && (eqb a.failed 0 || eqb k 0)) e ∙ zero_place n (eqb a.failed 0)

    -- nothing is there of a place, or of how it arrived
    pub only_unread : has_only_words ds ≡ is_unread (full_from ds)
    only_unread = unread_law (get_or ds 2 0) (get_or ds 3 0) (two_at ds 6) (eight_of (drop 8 ds)) (two_at ds 8) (two_at ds 10) (four_at ds 12) (four_at ds 16) (found_there ∙ found_parts (get_or ds 8 0) (get_or ds 9 0) (get_or ds 10 0) (get_or ds 11 0) (four_at ds 12))

    sent_right : output ≡ true
        → slot_right sequence check output size rlen (full_from ds) ≡ ((leb 1 (two_at ds 4) && leb (two_at ds 4) size) && has_only_words ds)
    sent_right o =
        let x = full_from ds in
        each_way (slot_right sequence check output size rlen x) ((leb 1 (two_at ds 4) && leb (two_at ds 4) size) && has_only_words ds)
        (λ e.
        let F = fits sequence check output size rlen x e in
        and_both _ _ F.full (only_unread ∙ unless output (is_unread x) F.unread o))
        (λ e.
        let only : is_unread x ≡ true = sym only_unread ∙ and_right (leb 1 (two_at ds 4) && leb (two_at ds 4) size) _ e in
        let place : two_at ds 6 ≡ 0 = eqb-true (two_at ds 6) 0 (and_left (eqb (two_at ds 6) 0) _ only) in
        quiet_slot sequence check output size rlen x (no_arrival_is (arrival_from ds) (and_right (eqb (two_at ds 6) 0) _ only))
        (and_left (leb 1 (two_at ds 4) && leb (two_at ds 4) size) _ e) refl (place_zero (two_at ds 4) (two_at ds 6) (arrival_from ds) place) place)

    pub judged_sent : 3 ≡ get_or ds 1 0 → output ≡ true
        → cond ((leb 1 (two_at ds 4) && leb (two_at ds 4) size) && has_only_words ds) (get_or ds 1 0) 4 ≡ slot_judged sequence check output size rlen ds
    unfolding holding
    judged_sent e o =
        sym (judged_as_lem (full_from ds) true _ (by_kind 3 e) (tight_is (holding (full_from ds)) (by_kind 3 e) ∙ full_matches e) (sent_right o)
        ∙ ap (λ (k : ℕ). cond ((leb 1 (two_at ds 4) && leb (two_at ds 4) size) && has_only_words ds) k 4) e)

    read_right : output ≡ false
        → slot_right sequence check output size rlen (full_from ds) ≡ ((leb 1 (two_at ds 4) && leb (two_at ds 4) size) && full_reads sequence check (two_at ds 4) ds)
    read_right o =
        ap (λ (b : Bool). is_arrival sequence check (arrival_from ds) && ((leb 1 (two_at ds 4) && leb (two_at ds 4) size) && (true && (place_fits (full_from ds) && (not b || is_unread (full_from ds)))))) o
        ∙ read_moved (is_arrival sequence check (arrival_from ds)) (leb 1 (two_at ds 4) && leb (two_at ds 4) size) (place_fits (full_from ds))

    pub judged_read : 3 ≡ get_or ds 1 0 → output ≡ false
        → cond ((leb 1 (two_at ds 4) && leb (two_at ds 4) size) && full_reads sequence check (two_at ds 4) ds) (get_or ds 1 0) 4 ≡ slot_judged sequence check output size rlen ds
    unfolding holding
    judged_read e o =
        sym (judged_as_lem (full_from ds) true _ (by_kind 3 e) (tight_is (holding (full_from ds)) (by_kind 3 e) ∙ full_matches e) (read_right o)
        ∙ ap (λ (k : ℕ). cond ((leb 1 (two_at ds 4) && leb (two_at ds 4) size) && full_reads sequence check (two_at ds 4) ds) k 4) e)

-- ---- a buffer at its place, as the code has found it

module _ (bs : List ℕ) (at : ℕ) (room : at + 20 ≤ length bs) (small : (i : ℕ) → get_or bs i 0 < 256) (sequence check output : Bool) (size rlen kind words : ℕ)
    (is-kind : kind ≡ get_or bs (at + 1) 0) (is-words : words ≡ two_at bs (at + 4)) where
  abbrev ds : List ℕ
  ds = drop at bs

  long_there : 20 ≤ length ds
  long_there = omega (arith, room, length-drop at bs)

  small_there : (i : ℕ) → get_or ds i 0 < 256
  small_there i = subst (λ (n : ℕ). n < 256) (sym (get_or-drop at bs i 0)) (small (at + i))

  kind_there : kind ≡ get_or ds 1 0
  kind_there = is-kind ∙ sym (get_or-drop at bs 1 0)

  words_there : words ≡ two_at ds 4
  words_there = is-words ∙ two_there bs at 4

  pub there_bad : 3 < kind → 4 ≡ slot_judged sequence check output size rlen ds
  there_bad h = judged_bad ds long_there small_there sequence check output size rlen (omega (arith, h, kind_there))

  module _ (r : ℕ) (good : Bool) where
    pub there_sent : kind ≡ 3 → output ≡ true → good ≡ has_only_words ds → r ≡ cond ((leb 1 words && leb words size) && good) kind 4
        → r ≡ slot_judged sequence check output size rlen ds
    there_sent k o g e =
        e ∙ rw (g, kind_there, words_there) (judged_sent ds long_there small_there sequence check output size rlen (sym k ∙ kind_there) o)

    pub there_read : kind ≡ 3 → output ≡ false → good ≡ full_reads sequence check words ds → r ≡ cond ((leb 1 words && leb words size) && good) kind 4
        → r ≡ slot_judged sequence check output size rlen ds
    there_read k o g e =
        e ∙ rw (g, kind_there, words_there) (judged_read ds long_there small_there sequence check output size rlen (sym k ∙ kind_there) o)

    pub there_part : kind ≡ 2 → good ≡ has_only_words ds → r ≡ cond (good && (leb rlen words && leb (words + rlen) size)) kind 4
        → r ≡ slot_judged sequence check output size rlen ds
    there_part k g e =
        e ∙ rw (g, kind_there, words_there) (judged_part ds long_there small_there sequence check output size rlen (sym k ∙ kind_there))

    pub there_bare : (3 < kind → ⊥) → (kind ≡ 3 → ⊥) → (kind ≡ 2 → ⊥) → good ≡ has_only_words ds → r ≡ cond (good && eqb words 0) kind 4
        → r ≡ slot_judged sequence check output size rlen ds
    there_bare a b c g e =
        let low : get_or ds 1 0 < 2 = subst (λ (n : ℕ). n < 2) kind_there (below_two kind a b c) in
        e ∙ rw (g, kind_there, words_there) (judged_bare ds long_there small_there sequence check output size rlen low)
