-- What can stand at a place, and that it does not depend on bytes after the largest record. Assumes nothing.
use mathlib.Core.Path.{◌≡◌, refl, sym, ap, ◌∙◌, subst}
use mathlib.Core.Bool.{Bool, false, not, cond, ◌&&◌}
use mathlib.Core.List.{List, ◌++◌}
use Prim.Native.Nat.{ℕ, ◌+◌, ◌*◌, ◌/◌, ◌≤◌, ◌<◌}
use native.Mathlib.Decide.{dec_lt}
use native.Mathlib.Omega.{arith}
use borrow.Author.Tests.{ne_eqb, le-ltb, le-leb}
use lib.Dec.{ltb}
use lib.ListN.{length, get_or, get_or-append, length-append}
use Rattle.area.proofs.Walks.{by_test}
use Rattle.tape.specs.declared.Next.{Next}
use Rattle.tape.specs.declared.Next.TheVariants.{More, End, Mark, Block, Fault}
use Rattle.tape.specs.Lengths.{length_at, padded, record_size}
use Rattle.tape.specs.Faults.{most_bytes, differ_at, fault_of}
use Rattle.tape.specs.Records.{largest, record_of, record_at, next_in}
use Rattle.tape.proofs.Laws.Numbers.{fault_over, fault_zero}
use Rattle.tape.proofs.Laws.Nexts.{record_end, record_short, record_mark, record_fault, record_block}

-- ---- the cases

pub data Seen (bs : List ℕ) (at : ℕ) : Next → Type 0 where
  end : length bs ≡ 0 → record_at bs at ≡ End → Seen bs at End
  mark : 4 ≤ length bs → length_at bs 0 ≡ 0 → Seen bs at (Mark (at + 4))
  block : (n : ℕ) → 1 ≤ n → n ≤ 1024 → 6 * n + 8 ≤ length bs → length_at bs 0 ≡ 6 * n → differ_at bs (6 * n) ≡ false
      → Seen bs at (Block (at + 4) n (at + (6 * n + 8)))
  fault : (number : ℕ) → record_at bs at ≡ Fault number at → Seen bs at (Fault number at)

-- the same while more may come
pub data SeenIn (bs : List ℕ) (at : ℕ) : Next → Type 0 where
  waits : SeenIn bs at More
  sees : {x : Next} → Seen bs at x → SeenIn bs at x

module _ (bs : List ℕ) (at : ℕ) where
  abbrev first : ℕ
  first = length_at bs 0

  abbrev other : Bool
  other = differ_at bs first

  seen_as : {x y : Next} → x ≡ y → Seen bs at y → Seen bs at x
  seen_as {x} {y} e s = subst (λ (n : Next). Seen bs at n) (sym e) s

  seen_block : 4 ≤ length bs → (first ≡ 0 → ⊥) → fault_of (length bs) first other ≡ 0 → Seen bs at (record_at bs at)
  unfolding record_at
  seen_block h z f =
      let s = fault_zero (length bs) first other f in
      let n = first / 6 in
      let sixes : first ≡ 6 * n = omega (arith, s.sixes) in
      let size : record_size first ≡ 6 * n + 8 = omega (arith, s.sixes) in
      let some : 1 ≤ n = omega (arith, z) in
      let most : n ≤ 1024 = omega (arith, s.most) in
      let whole : 6 * n + 8 ≤ length bs = omega (arith, s.whole) in
      seen_as (record_block at (length bs) first other h z f ∙ ap (λ (k : ℕ). Block (at + 4) n (at + k)) size)
      (block n some most whole sixes (ap (λ (k : ℕ). differ_at bs k) (sym sixes) ∙ s.same))

  seen_long : 4 ≤ length bs → Seen bs at (record_at bs at)
  unfolding record_at
  seen_long h = go (dec_lt 0 first)
    where
      fault_or : (first ≡ 0 → ⊥) → Dec (0 < fault_of (length bs) first other) → Seen bs at (record_at bs at)
      fault_or z (yes l) =
          let e : record_at bs at ≡ Fault (fault_of (length bs) first other) at = record_fault at (length bs) first other h z (λ q. omega arith) in
          seen_as e (fault (fault_of (length bs) first other) e)
      fault_or z (no l) = seen_block h z (omega (arith, l))

      go : Dec (0 < first) → Seen bs at (record_at bs at)
      go (yes l) = fault_or (λ q. omega arith) (dec_lt 0 (fault_of (length bs) first other))
      go (no l) = let z : first ≡ 0 = omega (arith, l) in seen_as (record_mark at (length bs) first other h z) (mark h z)

  pub seen_record : Seen bs at (record_at bs at)
  unfolding record_at
  seen_record = go (dec_lt (length bs) 4) (dec_lt 0 (length bs))
    where
      go : Dec (length bs < 4) → Dec (0 < length bs) → Seen bs at (record_at bs at)
      go (no l) d = seen_long (omega (arith, l))
      go (yes l) (yes k) =
          let e : record_at bs at ≡ Fault 21 at = record_short at (length bs) first other (λ q. omega arith) l in
          seen_as e (fault 21 e)
      go (yes l) (no k) =
          let z : length bs ≡ 0 = omega (arith, k) in
          let e : record_at bs at ≡ End = record_end at (length bs) first other z in
          seen_as e (end z e)

  pub seen : (ended : Bool) → SeenIn bs at (next_in ended bs at)
  unfolding next_in
  seen ended =
      by_test (λ t. SeenIn bs at (cond t More (record_at bs at))) (not ended && ltb (length bs) largest) (λ t. waits) (λ t. sees seen_record)

-- ---- bytes after the largest record change nothing

module _ (bs rest : List ℕ) (at : ℕ) where
  pub byte_same : (k : ℕ) → k < length bs → get_or (bs ++ rest) k 0 ≡ get_or bs k 0
  byte_same k h = get_or-append bs rest 0 k h

  pub length_same : (k : ℕ) → k + 4 ≤ length bs → length_at (bs ++ rest) k ≡ length_at bs k
  length_same k h = rw (byte_same k (omega arith), byte_same (k + 1) (omega arith), byte_same (k + 2) (omega arith), byte_same (k + 3) (omega arith))

  pub differ_same : (n : ℕ) → record_size n ≤ length bs → differ_at (bs ++ rest) n ≡ differ_at bs n
  differ_same n h =
      let k : record_size n ≤ length (bs ++ rest) = omega (arith, length-append bs rest) in
      rw (le-leb (record_size n) (length bs) h, le-leb (record_size n) (length (bs ++ rest)) k, length_same (4 + padded n) (omega arith))

  whole_same : (left far n : ℕ) (d : Bool) → record_size n ≤ left → record_size n ≤ far → record_of at left n d ≡ record_of at far n d
  unfolding record_of fault_of
  whole_same left far n d h k =
      let a : left ≡ 0 → ⊥ = λ q. omega arith in
      let b : far ≡ 0 → ⊥ = λ q. omega arith in
      rw (ne_eqb left 0 a, ne_eqb far 0 b, le-leb 4 left (omega arith), le-leb 4 far (omega arith), le-ltb left (record_size n) h, le-ltb far (record_size n) k)

  pub record_same : largest ≤ length bs → record_at (bs ++ rest) at ≡ record_at bs at
  unfolding record_at
  record_same h = go (dec_lt most_bytes (length_at bs 0))
    where
      over : (xs : List ℕ) (m : ℕ) → 4 ≤ length xs → length_at xs 0 ≡ m → most_bytes < m → record_of at (length xs) (length_at xs 0) (differ_at xs (length_at xs 0)) ≡ Fault 23 at
      over xs m l e k =
          let f = fault_over (length xs) (length_at xs 0) (differ_at xs (length_at xs 0)) l (omega arith) in
          record_fault at (length xs) (length_at xs 0) (differ_at xs (length_at xs 0)) l (λ q. omega arith) (λ q. omega (arith, f, q))
          ∙ ap (λ (k : ℕ). Fault k at) f

      go : Dec (most_bytes < length_at bs 0) → record_of at (length (bs ++ rest)) (length_at (bs ++ rest) 0) (differ_at (bs ++ rest) (length_at (bs ++ rest) 0))
          ≡ record_of at (length bs) (length_at bs 0) (differ_at bs (length_at bs 0))
      go (yes l) =
          let k : 4 ≤ length (bs ++ rest) = omega (arith, length-append bs rest) in
          over (bs ++ rest) (length_at bs 0) k (length_same 0 (omega arith)) l ∙ sym (over bs (length_at bs 0) (omega arith) refl l)
      go (no l) =
          let k : record_size (length_at bs 0) ≤ length bs = omega (arith, l) in
          let j : record_size (length_at bs 0) ≤ length (bs ++ rest) = omega (arith, length-append bs rest) in
          ap (λ (m : ℕ). record_of at (length (bs ++ rest)) m (differ_at (bs ++ rest) m)) (length_same 0 (omega arith))
          ∙ ap (λ (b : Bool). record_of at (length (bs ++ rest)) (length_at bs 0) b) (differ_same (length_at bs 0) k)
          ∙ whole_same (length (bs ++ rest)) (length bs) (length_at bs 0) (differ_at bs (length_at bs 0)) j k
