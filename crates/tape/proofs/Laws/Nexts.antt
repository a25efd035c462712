-- What stands at a place, case by case. Assumes nothing.
use mathlib.Core.Path.{◌≡◌, sym, ap, ◌∙◌}
use mathlib.Core.Bool.{Bool, true, false, not, cond, ◌&&◌}
use mathlib.Core.List.{List}
use Prim.Native.Nat.{ℕ, ◌+◌, ◌-◌, ◌/◌, ◌≤◌, ◌<◌}
use native.Mathlib.Omega.{arith}
use borrow.Author.Tests.{eq-eqb, ne_eqb, lt-leb, le-leb}
use lib.Dec.{ltb}
use lib.ListN.{length, drop, length-drop}
use Rattle.tape.specs.declared.Next.TheVariants.{More, End, Mark, Block, Fault}
use Rattle.tape.specs.Lengths.{length_at, record_size}
use Rattle.tape.specs.Faults.{differ_at, fault_of}
use Rattle.tape.specs.Records.{largest, record_of, record_at, next_in}
use Rattle.tape.proofs.Laws.Numbers.{fault_short}

-- ---- by its numbers

module _ (at left n : ℕ) (differ : Bool) where
  pub record_end : left ≡ 0 → record_of at left n differ ≡ End
  unfolding record_of
  record_end e = rw (eq-eqb left 0 e)

  pub record_short : (left ≡ 0 → ⊥) → left < 4 → record_of at left n differ ≡ Fault 21 at
  unfolding record_of
  record_short e h = rw (ne_eqb left 0 e, lt-leb 4 left h, fault_short left n differ h)

  pub record_mark : 4 ≤ left → n ≡ 0 → record_of at left n differ ≡ Mark (at + 4)
  unfolding record_of
  record_mark h z =
      let e : left ≡ 0 → ⊥ = λ q. omega arith in
      rw (ne_eqb left 0 e, le-leb 4 left h, eq-eqb n 0 z)

  module _ (h : 4 ≤ left) (z : n ≡ 0 → ⊥) where
    some : left ≡ 0 → ⊥
    some q = omega arith

    pub record_fault : (fault_of left n differ ≡ 0 → ⊥) → record_of at left n differ ≡ Fault (fault_of left n differ) at
    unfolding record_of
    record_fault f = rw (ne_eqb left 0 some, le-leb 4 left h, ne_eqb n 0 z, ne_eqb (fault_of left n differ) 0 f)

    pub record_block : fault_of left n differ ≡ 0 → record_of at left n differ ≡ Block (at + 4) (n / 6) (at + record_size n)
    unfolding record_of
    record_block f = rw (ne_eqb left 0 some, le-leb 4 left h, ne_eqb n 0 z, eq-eqb (fault_of left n differ) 0 f)

-- ---- at a place of an image, of which `left` bytes stand from there on

module _ (image : List ℕ) (at : ℕ) (ended : Bool) (left : ℕ) (e : left ≡ length image - at) where
  is_left : length (drop at image) ≡ left
  is_left = length-drop at image ∙ sym e

  pub next_more : (not ended && ltb left largest) ≡ true → More ≡ next_in ended (drop at image) at
  unfolding next_in
  next_more h = rw (is_left, h)

  module _ (sure : (not ended && ltb left largest) ≡ false) where
    next_is : next_in ended (drop at image) at ≡ record_of at left (length_at (drop at image) 0) (differ_at (drop at image) (length_at (drop at image) 0))
    unfolding next_in record_at
    next_is = ap (λ (k : ℕ). cond (not ended && ltb k largest) More (record_at (drop at image) at)) is_left
        ∙ ap (λ (b : Bool). cond b More (record_at (drop at image) at)) sure
        ∙ ap (λ (k : ℕ). record_of at k (length_at (drop at image) 0) (differ_at (drop at image) (length_at (drop at image) 0))) is_left

    pub next_end : left ≡ 0 → End ≡ next_in ended (drop at image) at
    next_end z = sym (next_is ∙ record_end at left _ _ z)

    pub next_short : (left ≡ 0 → ⊥) → left < 4 → Fault 21 at ≡ next_in ended (drop at image) at
    next_short z h = sym (next_is ∙ record_short at left _ _ z h)

    module _ (h : 4 ≤ left) (n : ℕ) (first : n ≡ length_at (drop at image) 0) where
      pub next_mark : n ≡ 0 → Mark (at + 4) ≡ next_in ended (drop at image) at
      next_mark z = sym (next_is ∙ record_mark at left _ _ h (sym first ∙ z))

      module _ (z : n ≡ 0 → ⊥) (differ : Bool) (d : differ ≡ differ_at (drop at image) n) where
        next_as : next_in ended (drop at image) at ≡ record_of at left n differ
        next_as =
            next_is ∙ ap (λ (k : ℕ). record_of at left k (differ_at (drop at image) k)) (sym first)
            ∙ ap (λ (b : Bool). record_of at left n b) (sym d)

        pub next_fault : (number : ℕ) → number ≡ fault_of left n differ → (number ≡ 0 → ⊥) → Fault number at ≡ next_in ended (drop at image) at
        next_fault number f k =
            ap (λ (x : ℕ). Fault x at) f ∙ sym (next_as ∙ record_fault at left n differ h z (λ q. k (f ∙ q)))

        pub next_block : (number size : ℕ) → number ≡ fault_of left n differ → number ≡ 0 → size ≡ record_size n
            → Block (at + 4) (n / 6) (at + size) ≡ next_in ended (drop at image) at
        next_block number size f k s =
            ap (λ (x : ℕ). Block (at + 4) (n / 6) (at + x)) s ∙ sym (next_as ∙ record_block at left n differ h z (sym f ∙ k))
