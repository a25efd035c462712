-- Each change of a file keeps a sound file sound: read and its ends, skip and write, get, seal, put; open makes a sound file. Assumes nothing.
use mathlib.Core.Path.{◌≡◌, refl, sym, ap, subst, ◌∙◌}
use mathlib.Core.Bool.{Bool, true, false, not, cond, ◌&&◌}
use Prim.Native.Nat.{ℕ, ◌+◌, ◌-◌, ◌≤◌, ◌<◌}
use native.Mathlib.Omega.{arith}
use borrow.Author.Tests.{leb-true, lt-ltb}
use lib.Dec.{leb, ltb, eqb}
use Rattle.area.proofs.Walks.{by_test, true_not_false, and_left, and_right, and_both}
use Rattle.file.specs.declared.Arrival.{Arrival}
use Rattle.file.specs.Arrivals.{no_arrival, error_due, after_told, is_arrival}
use Rattle.file.proofs.ArrivalLaws.{no_arrival_fits, told_arrival_fits}
use Rattle.file.specs.declared.Slot.{Slot}
use Rattle.file.specs.declared.Slot.TheVariants.{Empty, Taken, Part, Full}
use Rattle.file.specs.declared.Side.{Side}
use Rattle.file.specs.declared.Side.TheVariants.{Low, High, Neither}
use Rattle.file.specs.declared.File.{File}
use Rattle.file.specs.declared.Wish.{Wish}
use Rattle.file.specs.Slots.{is_empty, is_taken, is_part, is_full, part_words}
use Rattle.file.specs.Sides.{slot_at, is_side, empty_side, taken_side, part_side, oldest}
use Rattle.file.specs.Fills.{with_slot, emptied_at, without_oldest}
use Rattle.file.specs.Sizes.{sizes_fit, opened_file}
use Rattle.file_input.specs.Delivers.{took_buffer, delivered, gave_back, with_file_mark, met_mark}
use Rattle.file_output.specs.Parts.{part_length, sealed_file}
use Rattle.file_output.specs.Sends.{after_write}
use Rattle.file.proofs.Which.{lower_cases, taken_there, part_there, full_there}
use Rattle.file_input.proofs.Ages.{Aged, no_block, old, aged}
use Rattle.file_input.specs.Gets.{is_used_up, passed, looked_at, words_given, slot_after, after_found, get_from}
use Rattle.state_sound.specs.Files.{taken_count}
use Rattle.area.specs.Lists.{one_if}
use Rattle.state_sound.proofs.FileFacts.{slot_fits, Sound, fits}
use Rattle.state_sound.proofs.FilesKept.{other, owns, quiet_slot, empty_slot, slot_fits_lem, owns_used, taken_sides, part_sides, changed, beside, emptied, full_slot, filled}

-- ---- what is not empty

taken_used : (x : Slot) → is_taken x ≡ true → is_empty x ≡ false
taken_used Empty e = sym e
taken_used Taken e = refl
taken_used (Part n) e = refl
taken_used (Full n at err) e = refl

part_used : (x : Slot) → is_part x ≡ true → is_empty x ≡ false
part_used Empty e = sym e
part_used Taken e = refl
part_used (Part n) e = refl
part_used (Full n at err) e = refl

full_used : (x : Slot) → is_full x ≡ true → is_empty x ≡ false
full_used Empty e = sym e
full_used Taken e = refl
full_used (Part n) e = refl
full_used (Full n at err) e = refl

module _ (m w : ℕ) (f : File) (S : Sound m w f) where
  pub own_empty : is_side (empty_side f) ≡ true → owns f (empty_side f) ≡ true
  unfolding empty_side
  own_empty =
      lower_cases (λ k. is_side k ≡ true → owns f k ≡ true) (is_empty f.low.slot) (f.double && is_empty f.high.slot)
      (λ a s. refl) (λ a b s. and_left f.double _ b) (λ a b s. true_not_false s refl)

  pub own_taken : is_side (taken_side f) ≡ true → owns f (taken_side f) ≡ true
  own_taken s = owns_used m w f (taken_side f) S s (taken_used (slot_at f (taken_side f)) (taken_there f s))

  pub own_part : is_side (part_side f) ≡ true → owns f (part_side f) ≡ true
  own_part s = owns_used m w f (part_side f) S s (part_used (slot_at f (part_side f)) (part_there f s))

  pub own_oldest : is_side (oldest f) ≡ true → owns f (oldest f) ≡ true
  own_oldest s = owns_used m w f (oldest f) S s (full_used (slot_at f (oldest f)) (full_there f s))

  -- a taken buffer is an input file's, a part-filled one an output file's
  pub taken_input : is_side (taken_side f) ≡ true → f.output ≡ false
  taken_input s =
      by_test (λ t. f.output ≡ t → t ≡ false) f.output
      (λ o q.
      let one : one_if (is_taken (slot_at f (taken_side f))) ≡ 1 = ap one_if (taken_there f s) in
      let none : one_if (not f.output) ≡ 0 = ap (λ (t : Bool). one_if (not t)) o in
      absurd (omega (arith, taken_sides f (taken_side f) s, S.taken)))
      (λ o q. refl) refl

  pub part_output : is_side (part_side f) ≡ true → f.output ≡ true
  part_output s =
      by_test (λ t. f.output ≡ t → t ≡ true) f.output (λ o q. refl)
      (λ o q.
      let one : one_if (is_part (slot_at f (part_side f))) ≡ 1 = ap one_if (part_there f s) in
      let none : one_if f.output ≡ 0 = ap one_if o in
      absurd (omega (arith, part_sides f (part_side f) s, S.part)))
      refl

  -- ---- input

  taken_slot : slot_fits f.sequence f.check f.output f.size f.rlen Taken ≡ true
  taken_slot = quiet_slot f.sequence f.check f.output f.size f.rlen Taken refl refl refl refl refl

  -- a read: of an input file that has no buffer taken, and has an empty one
  pub took_sound : f.output ≡ false → taken_count f ≡ 0 → is_side (empty_side f) ≡ true → Sound m w (took_buffer f)
  unfolding took_buffer
  took_sound i n s =
      let o = own_empty s in
      let room : one_if (not f.output) ≡ 1 = ap (λ (t : Bool). one_if (not t)) i in
      changed m w f (empty_side f) Taken false f.block S
      (record {
        own = o;
        slot = taken_slot;
        taken = omega (arith, taken_sides f (empty_side f) s);
        part = omega (arith, (beside m w f (empty_side f) S o).1);
        order = λ e. true_not_false e refl;
        number = S.number;
      })

  -- its good end: with 1 to B data words, and what its check found
  pub delivered_sound : (n : ℕ) (e : Arrival) → is_side (taken_side f) ≡ true → 1 ≤ n → n ≤ f.size → is_arrival f.sequence f.check e ≡ true → Sound m w (delivered f n e)
  unfolding delivered
  delivered_sound n e s some fit err = filled m w f (taken_side f) n e S (own_taken s) some fit err (λ o. true_not_false o (taken_input s))

  pub back_sound : Sound m w (gave_back f)
  unfolding gave_back
  back_sound = emptied m w f (taken_side f) S own_taken

  pub dropped_sound : Sound m w (without_oldest f)
  unfolding without_oldest
  dropped_sound = emptied m w f (oldest f) S own_oldest

  pub written_sound : (sent : Bool) → Sound m w (after_write sent f)
  unfolding after_write
  written_sound true = dropped_sound
  written_sound false = S

  pub passed_sound : Sound m w (passed f)
  unfolding passed
  passed_sound = go (is_used_up (slot_at f (oldest f)))
    where
      go : (t : Bool) → Sound m w (cond t (without_oldest f) f)
      go true = dropped_sound
      go false = S

-- a mark is read in an input file alone
marked_sound : (m w : ℕ) (f : File) → Sound m w f → f.output ≡ false → Sound m w (with_file_mark f)
marked_sound m w f S i = record {
  sizes = S.sizes;
  number = S.number;
  first = S.first;
  second = S.second;
  low = S.low;
  high = S.high;
  taken = S.taken;
  part = S.part;
  order = S.order;
  mark = λ o. true_not_false o i;
}

same_output : (f : File) (k : Side) → (emptied_at f k).output ≡ f.output
unfolding emptied_at
same_output f Low = refl
same_output f High = refl
same_output f Neither = refl

pub met_sound : (m w : ℕ) (f : File) → Sound m w f → f.output ≡ false → Sound m w (met_mark f)
unfolding met_mark gave_back
met_sound m w f S i = marked_sound m w (gave_back f) (back_sound m w f S) (same_output f (taken_side f) ∙ i)

-- ---- get

given_most : (r n at : ℕ) (e : Arrival) → words_given r (Full n at e) ≤ n - at
given_most r n at e = go (ltb 0 (error_due e)) (leb r (n - at)) refl
  where
    go : (s t : Bool) → leb r (n - at) ≡ t → cond s 0 (cond t r (n - at)) ≤ n - at
    go true t q = omega arith
    go false true q = leb-true r (n - at) q
    go false false q = omega arith

-- a full block's numbers
pub record Numbers (f : File) (n at : ℕ) (e : Arrival) : Type 0 where
  pub some : 1 ≤ n
  pub fit : n ≤ f.size
  pub place : at ≤ n
  pub found : is_arrival f.sequence f.check e ≡ true

pub numbers : (m w : ℕ) (f : File) (k : Side) (n at : ℕ) (e : Arrival) → Sound m w f → slot_at f k ≡ Full n at e → Numbers f n at e
numbers m w f k n at e S x =
    let F = fits f.sequence f.check f.output f.size f.rlen (Full n at e) (sym (ap (slot_fits f.sequence f.check f.output f.size f.rlen) x) ∙ slot_fits_lem m w f k S) in
    record {
      some = leb-true 1 n (and_left (leb 1 n) _ F.full);
      fit = leb-true n f.size (and_right (leb 1 n) _ F.full);
      place = leb-true at n (and_left (leb at n) _ F.place);
      found = F.found;
    }

-- where both are full, both are full still
order_stays : (m w : ℕ) (f : File) (k : Side) (n p : ℕ) (e : Arrival) → Sound m w f → is_side k ≡ true → f.turned ≡ true → (is_full (Full n p e) && is_full (other f k)) ≡ true
order_stays m w f Low n p e S s t = and_right (is_full f.low.slot) _ (S.order t)
order_stays m w f High n p e S s t = and_left (is_full f.low.slot) _ (S.order t)
order_stays m w f Neither n p e S s t = true_not_false s refl

pub found_sound : (m w : ℕ) (f : File) → Sound m w f → f.output ≡ false → Sound m w (after_found f)
unfolding after_found
found_sound m w f S i = go (oldest f) (aged f) (own_oldest m w f S)
  where
    go : (k : Side) → Aged f k → (is_side k ≡ true → owns f k ≡ true) → Sound m w (with_slot f k (slot_after f.rlen (slot_at f k)) f.turned f.block)
    go Neither (no_block e) o = S
    go k (old _ n at e rest t x l gone moved) o =
        let N = numbers m w f k n at e S x in
        let p = at + words_given f.rlen (Full n at e) in
        let y : slot_after f.rlen (slot_at f k) ≡ Full n p (after_told e) = ap (slot_after f.rlen) x in
        let place : p ≤ n = omega (arith, given_most f.rlen n at e, N.place) in
        subst (λ (z : Slot). Sound m w (with_slot f k z f.turned f.block)) (sym y)
        (changed m w f k (Full n p (after_told e)) f.turned f.block S
        (record {
          own = o t;
          slot = full_slot f.sequence f.check f.output f.size f.rlen n p (after_told e) N.some N.fit place refl (told_arrival_fits f.sequence f.check e N.found) (λ q. true_not_false q i);
          taken = omega (arith, (beside m w f k S (o t)).0);
          part = omega (arith, (beside m w f k S (o t)).1);
          order = order_stays m w f k n p (after_told e) S t;
          number = S.number;
        }))

pub same_passed : (f : File) → (passed f).output ≡ f.output
unfolding passed without_oldest
same_passed f = go (is_used_up (slot_at f (oldest f)))
  where
    go : (t : Bool) → (cond t (emptied_at f (oldest f)) f).output ≡ f.output
    go true = same_output f (oldest f)
    go false = refl

pub get_sound : (m w : ℕ) (f : File) → Sound m w f → f.output ≡ false → Sound m w (get_from w f).file
unfolding get_from looked_at
get_sound m w f S i =
    found_sound m w (looked_at f) (passed_sound m w (passed f) (passed_sound m w f S)) (same_passed (passed f) ∙ same_passed f ∙ i)

-- ---- output

-- a part-filled block's words
pub part_numbers : (s c o : Bool) (size rlen : ℕ) (x : Slot) → slot_fits s c o size rlen x ≡ true → is_part x ≡ true → (rlen ≤ part_words x) × (part_words x + rlen ≤ size)
part_numbers s c o size rlen Empty h p = true_not_false p refl
part_numbers s c o size rlen Taken h p = true_not_false p refl
part_numbers s c o size rlen (Part n) h p =
    let F = fits s c o size rlen (Part n) h in
    (leb-true rlen n (and_left (leb rlen n) _ F.part), leb-true (n + rlen) size (and_right (leb rlen n) _ F.part))
part_numbers s c o size rlen (Full n at e) h p = true_not_false p refl

module _ (m w : ℕ) (f : File) (S : Sound m w f) where
  pub one_record : 1 ≤ f.rlen
  one_record = leb-true 1 f.rlen (and_left (leb 1 f.rlen) _ S.sizes)

  pub within : f.rlen ≤ f.size
  within = leb-true f.rlen f.size (and_left (leb f.rlen f.size) _ (and_right (leb 1 f.rlen) _ S.sizes))

  pub sealed_sound : is_side (part_side f) ≡ true → Sound m w (sealed_file f)
  unfolding sealed_file part_length
  sealed_sound s =
      let P = part_numbers f.sequence f.check f.output f.size f.rlen (slot_at f (part_side f)) (slot_fits_lem m w f (part_side f) S) (part_there f s) in
      filled m w f (part_side f) (part_words (slot_at f (part_side f))) no_arrival S (own_part m w f S s) (omega (arith, P.0, one_record)) (omega (arith, P.1)) (no_arrival_fits f.sequence f.check) (λ o. refl)

-- ---- open

pub opened_sound : (m w : ℕ) (q : Wish) (low high : ℕ) → sizes_fit w q.sequence q.check q.size q.rlen ≡ true → low < m
    → (q.double ≡ true → (low < high) × (high < m)) → Sound m w (opened_file q low high)
unfolding opened_file
opened_sound m w q low high fit less two = record {
  sizes = fit;
  number = omega arith;
  first = less;
  second = second_fits_lem q.double two;
  low = empty_slot q.sequence q.check q.output q.size q.rlen;
  high = empty_slot q.sequence q.check q.output q.size q.rlen;
  taken = omega arith;
  part = omega arith;
  order = λ e. true_not_false e refl;
  mark = λ o. refl;
}
  where
    second_fits_lem : (d : Bool) → (d ≡ true → (low < high) × (high < m)) → cond d (ltb low (cond d high 0) && ltb (cond d high 0) m) (eqb (cond d high 0) 0 && true) ≡ true
    second_fits_lem true h = and_both (ltb low high) _ (lt-ltb low high (h refl).0) (lt-ltb high m (h refl).1)
    second_fits_lem false h = refl
