-- A sound file with something else in one of its buffers is sound, by what is put there. Assumes nothing.
use mathlib.Core.Path.{◌≡◌, refl, sym, ap, ◌∙◌}
use mathlib.Core.Bool.{Bool, true, false, not, ◌&&◌, ◌||◌, and_comm}
use Prim.Native.Nat.{ℕ, ◌+◌, ◌≤◌, ◌<◌}
use native.Mathlib.Nat.{mod-lt}
use native.Mathlib.Omega.{arith}
use borrow.Author.Tests.{le-leb, eq-eqb}
use lib.Dec.{leb, ltb, eqb}
use Rattle.area.proofs.Walks.{by_test, true_not_false, and_right, and_both, or_second}
use Rattle.area.proofs.Marks.{cond_true, cond_false, unless_so}
use Rattle.file.specs.declared.Slot.{Slot}
use Rattle.file.specs.declared.Slot.TheVariants.{Empty, Full}
use Rattle.file.specs.declared.Side.{Side}
use Rattle.file.specs.declared.Side.TheVariants.{Low, High, Neither}
use Rattle.file.specs.declared.File.{File}
use Rattle.file.specs.Slots.{is_empty, is_taken, is_part, is_full, full_place, full_arrival}
use Rattle.file.specs.Sides.{slot_at, is_side}
use Rattle.file.specs.Fills.{with_slot, turned_by, filled_at, emptied_at}
use Rattle.file.specs.declared.Arrival.{Arrival}
use Rattle.word.specs.CheckWords.{block_numbers, next_number}
use Rattle.file.specs.Arrivals.{no_arrival, is_arrival, is_no_arrival}
use Rattle.file.proofs.ArrivalLaws.{no_arrival_fits}
use Rattle.state_sound.specs.Files.{is_no_buffer, taken_count, parts_held, full_fits, part_fits, place_fits}
use Rattle.area.specs.Lists.{one_if}
use Rattle.state_sound.proofs.FileFacts.{slot_fits, Sound}

-- the buffer beside k, and whether k is a buffer of the file
abbrev pub other : File → Side → Slot
other f Low = f.high.slot
other f High = f.low.slot
other f Neither = Empty

abbrev pub owns : File → Side → Bool
owns f Low = true
owns f High = f.double
owns f Neither = false

-- ---- what a sound file has

-- a slot without a block: nothing was found
pub quiet_slot : (s c o : Bool) (size rlen : ℕ) (x : Slot) → full_arrival x ≡ no_arrival → full_fits size x ≡ true → part_fits size rlen x ≡ true → place_fits x ≡ true
    → full_place x ≡ 0 → slot_fits s c o size rlen x ≡ true
quiet_slot s c o size rlen x none full part place at =
    and_both (is_arrival s c (full_arrival x)) _ (ap (is_arrival s c) none ∙ no_arrival_fits s c)
    (and_both (full_fits size x) _ full (and_both (part_fits size rlen x) _ part (and_both (place_fits x) _ place
    (unless_so o _ (λ q. and_both (eqb (full_place x) 0) _ (eq-eqb (full_place x) 0 at) (ap is_no_arrival none))))))

pub empty_slot : (s c o : Bool) (size rlen : ℕ) → slot_fits s c o size rlen Empty ≡ true
empty_slot s c o size rlen = quiet_slot s c o size rlen Empty refl refl refl refl refl

pub slot_fits_lem : (m w : ℕ) (f : File) (k : Side) → Sound m w f → slot_fits f.sequence f.check f.output f.size f.rlen (slot_at f k) ≡ true
slot_fits_lem m w f Low S = S.low
slot_fits_lem m w f High S = S.high
slot_fits_lem m w f Neither S = empty_slot f.sequence f.check f.output f.size f.rlen

-- only a double file has something in its second buffer
pub owns_used : (m w : ℕ) (f : File) (k : Side) → Sound m w f → is_side k ≡ true → is_empty (slot_at f k) ≡ false → owns f k ≡ true
owns_used m w f Low S s e = refl
owns_used m w f High S s e =
    by_test (λ t. f.double ≡ t → t ≡ true) f.double (λ d q. refl)
    (λ d q. true_not_false (and_right (eqb f.high.number 0) _ (sym (cond_false (ltb f.low.number f.high.number && ltb f.high.number m) (is_no_buffer f.high) d) ∙ S.second)) e) refl
owns_used m w f Neither S s e = true_not_false s refl

-- a count over both buffers is that of buffer k and the one beside it
pub taken_sides : (f : File) (k : Side) → is_side k ≡ true → one_if (is_taken (slot_at f k)) + one_if (is_taken (other f k)) ≡ taken_count f
taken_sides f Low s = refl
taken_sides f High s = omega arith
taken_sides f Neither s = true_not_false s refl

pub part_sides : (f : File) (k : Side) → is_side k ≡ true → one_if (is_part (slot_at f k)) + one_if (is_part (other f k)) ≡ parts_held f
part_sides f Low s = refl
part_sides f High s = omega arith
part_sides f Neither s = true_not_false s refl

pub owned_side : (f : File) (k : Side) → owns f k ≡ true → is_side k ≡ true
owned_side f Low o = refl
owned_side f High o = refl
owned_side f Neither o = true_not_false o refl

-- ---- a change

-- what x must be to stand in buffer k, with the order t and the next block number b
pub record Change (f : File) (k : Side) (x : Slot) (t : Bool) (b : ℕ) : Type 0 where
  pub own : owns f k ≡ true
  pub slot : slot_fits f.sequence f.check f.output f.size f.rlen x ≡ true
  pub taken : one_if (is_taken x) + one_if (is_taken (other f k)) ≤ one_if (not f.output)
  pub part : one_if (is_part x) + one_if (is_part (other f k)) ≤ one_if f.output
  pub order : t ≡ true → (is_full x && is_full (other f k)) ≡ true
  pub number : b < block_numbers

pub changed : (m w : ℕ) (f : File) (k : Side) (x : Slot) (t : Bool) (b : ℕ) → Sound m w f → Change f k x t b → Sound m w (with_slot f k x t b)
changed m w f Low x t b S C = record {
  sizes = S.sizes;
  number = C.number;
  first = S.first;
  second = S.second;
  low = C.slot;
  high = S.high;
  taken = C.taken;
  part = C.part;
  order = C.order;
  mark = S.mark;
}
changed m w f High x t b S C = record {
  sizes = S.sizes;
  number = C.number;
  first = S.first;
  second =
      cond_true (ltb f.low.number f.high.number && ltb f.high.number m) (eqb f.high.number 0 && is_empty x) C.own
      ∙ (sym (cond_true (ltb f.low.number f.high.number && ltb f.high.number m) (is_no_buffer f.high) C.own) ∙ S.second);
  low = S.low;
  high = C.slot;
  taken = omega (arith, C.taken);
  part = omega (arith, C.part);
  order = λ e. and_comm (is_full f.low.slot) (is_full x) ∙ C.order e;
  mark = S.mark;
}
changed m w f Neither x t b S C = S

-- the other buffer by itself keeps the counts
pub beside : (m w : ℕ) (f : File) (k : Side) → Sound m w f → owns f k ≡ true → (one_if (is_taken (other f k)) ≤ one_if (not f.output)) × (one_if (is_part (other f k)) ≤ one_if f.output)
beside m w f k S o =
    let s = owned_side f k o in
    (omega (arith, taken_sides f k s, S.taken), omega (arith, part_sides f k s, S.part))

-- ---- an empty buffer, and a full one

pub emptied : (m w : ℕ) (f : File) (k : Side) → Sound m w f → (is_side k ≡ true → owns f k ≡ true) → Sound m w (emptied_at f k)
unfolding emptied_at
emptied m w f k S o =
    by_test (λ t. is_side k ≡ t → Sound m w (with_slot f k Empty false f.block)) (is_side k)
    (λ s q.
    changed m w f k Empty false f.block S
    (record {
      own = o s;
      slot = empty_slot f.sequence f.check f.output f.size f.rlen;
      taken = omega (arith, (beside m w f k S (o s)).0);
      part = omega (arith, (beside m w f k S (o s)).1);
      order = λ e. true_not_false e refl;
      number = S.number;
    }))
    (λ s q. none k s) refl
  where
    none : (j : Side) → is_side j ≡ false → Sound m w (with_slot f j Empty false f.block)
    none Low s = true_not_false refl s
    none High s = true_not_false refl s
    none Neither s = S

pub full_slot : (s c o : Bool) (size rlen n at : ℕ) (e : Arrival) → 1 ≤ n → n ≤ size → at ≤ n → (eqb e.failed 0 || eqb at 0) ≡ true → is_arrival s c e ≡ true → (o ≡ true → (at ≡ 0) × (e ≡ no_arrival))
    → slot_fits s c o size rlen (Full n at e) ≡ true
full_slot s c o size rlen n at e some fit place first found zero =
    and_both (is_arrival s c e) _ found
    (and_both (leb 1 n && leb n size) _ (and_both (leb 1 n) _ (le-leb 1 n some) (le-leb n size fit))
    (and_both (leb at n && (eqb e.failed 0 || eqb at 0)) _ (and_both (leb at n) _ (le-leb at n place) first) (unless_so o _ (λ q. and_both (eqb at 0) _ (eq-eqb at 0 (zero q).0) (ap is_no_arrival (zero q).1)))))

turned_full : (f : File) (k : Side) (n : ℕ) (e : Arrival) → turned_by f k ≡ true → (is_full (Full n 0 e) && is_full (other f k)) ≡ true
turned_full f Low n e t = t
turned_full f High n e t = true_not_false t refl
turned_full f Neither n e t = true_not_false t refl

pub filled : (m w : ℕ) (f : File) (k : Side) (n : ℕ) (e : Arrival) → Sound m w f → owns f k ≡ true → 1 ≤ n → n ≤ f.size → is_arrival f.sequence f.check e ≡ true
    → (f.output ≡ true → e ≡ no_arrival) → Sound m w (filled_at f k n e)
unfolding filled_at
filled m w f k n e S o some fit err zero =
    changed m w f k (Full n 0 e) (turned_by f k) (next_number f.block) S
    (record {
      own = o;
      slot = full_slot f.sequence f.check f.output f.size f.rlen n 0 e some fit (omega arith) (or_second (eqb e.failed 0) true refl) err (λ q. (refl, zero q));
      taken = omega (arith, (beside m w f k S o).0);
      part = omega (arith, (beside m w f k S o).1);
      order = turned_full f k n e;
      number = mod-lt (f.block + 1) (omega arith);
    })
