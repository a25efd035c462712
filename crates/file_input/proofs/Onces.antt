-- Get gives the words of a block in order, each exactly once, and then the block is used up: the parts that gets in a row show, joined,
-- are its data words. Its errors are told before, the read error and then the check error. Assumes nothing.
use mathlib.Core.Path.{◌≡◌, refl, sym, ap, subst, ◌∙◌}
use mathlib.Core.Bool.{Bool, true, false, not, cond, ◌&&◌}
use mathlib.Core.List.{List, [], ◌++◌}
use Prim.Native.Nat.{ℕ, zero, suc, ◌+◌, ◌-◌, ◌*◌, ◌≤◌, ◌<◌}
use native.Mathlib.Decide.{dec_lt}
use native.Mathlib.Nat.{add_assoc}
use native.Mathlib.Omega.{arith}
use borrow.Author.Tests.{lt-leb, lt-ltb, leb-true, ne_eqb}
use lib.Dec.{leb, eqb}
use lib.ListN.{take, drop}
use lib.Seq.{take-add, drop-drop}
use Rattle.area.specs.Parts.{part_of}
use Rattle.area.proofs.Walks.{true_not_false}
use Rattle.area.proofs.Marks.{cond_true, cond_false}
use Rattle.file.specs.declared.Arrival.{Arrival}
use Rattle.file.specs.Arrivals.{error_due, error_told, after_told}
use Rattle.file.proofs.ArrivalLaws.{arrival, all_told, told_read, told_nothing, told_twice, told_all}
use Rattle.word.specs.Checks.{with_error}
use Rattle.file.specs.declared.Slot.{Slot}
use Rattle.file.specs.declared.Slot.TheVariants.{Full}
use Rattle.file.specs.declared.Side.{Side}
use Rattle.file.specs.declared.Side.TheVariants.{Low, High, Neither}
use Rattle.file.specs.declared.File.{File}
use Rattle.file.specs.Slots.{is_full}
use Rattle.file.specs.Sides.{buffer_at, slot_at, start_at, is_side, lower, oldest}
use Rattle.file.specs.Fills.{with_slot, without_oldest}
use Rattle.file_input.specs.declared.Got.{Got}
use Rattle.file_input.specs.declared.Got.TheVariants.{Record, Leftover, Error}
use Rattle.file_input.specs.Gets.{is_used_up, passed, looked_at, words_given, slot_after, found_in, found_none, found, after_found, get_from}
use Rattle.file_input.specs.Histories.{shown, shown_by, after_gets}

-- the oldest block of the file lies in buffer k, number b, with n data words, the place at, how it arrived e; records have r words
pub record Reading (f : File) (k : Side) (b r n at : ℕ) (e : Arrival) : Type 0 where
  pub first : oldest f ≡ k
  pub there : is_side k ≡ true
  pub buffer : (buffer_at f k).number ≡ b
  pub slot : slot_at f k ≡ Full n at e
  pub rlen : f.rlen ≡ r

-- r words, or what is left
abbrev share : ℕ → ℕ → ℕ
share r left = cond (leb r left) r left

-- ---- one get

-- a block that is not used up is looked at as it is
pub passed_same : (f : File) → is_used_up (slot_at f (oldest f)) ≡ false → passed f ≡ f
unfolding passed
passed_same f h = cond_false (without_oldest f) f h

pub looked_same : (f : File) → is_used_up (slot_at f (oldest f)) ≡ false → looked_at f ≡ f
unfolding looked_at
looked_same f h = ap passed (passed_same f h) ∙ passed_same f h

oldest_low : (a b : Bool) (x y : Bool) → a ≡ true → x ≡ true → lower (a && not (b && y)) b ≡ Low → lower (x && not (b && y)) b ≡ Low
oldest_low a b x y p q e = rw q (rw p at e)

-- the block with another place, its error told
moved : (f : File) (k : Side) (b r n at : ℕ) (e : Arrival) (p : ℕ) → Reading f k b r n at e
    → Reading (with_slot f k (Full n p (after_told e)) f.turned f.block) k b r n p (after_told e)
unfolding oldest
moved f Low b r n at e p R = record {
  first = oldest_low (is_full f.low.slot) (is_full f.high.slot) true f.turned (ap is_full R.slot) refl R.first;
  there = refl;
  buffer = R.buffer;
  slot = refl;
  rlen = R.rlen;
}
moved f High b r n at e p R = record { first = high_first; there = refl; buffer = R.buffer; slot = refl; rlen = R.rlen }
  where
    full : is_full f.high.slot ≡ true
    full = ap is_full R.slot

    high_first : lower (is_full f.low.slot && not (true && f.turned)) true ≡ High
    high_first = rw full at R.first
moved f Neither b r n at e p R = true_not_false R.there refl

module _ (w : ℕ) (xs : List ℕ) (f : File) (k : Side) (b r n at : ℕ) (e : Arrival) (R : Reading f k b r n at e) (left : at < n) where
  fresh : looked_at f ≡ f
  fresh = looked_same f (ap (λ (j : Side). is_used_up (slot_at f j)) R.first ∙ ap is_used_up R.slot ∙ lt-leb n at left)

  -- what is found is what lies at the place of the oldest block
  got_is : (get_from w f).got ≡ found_in (b * w) r (Full n at e)
  unfolding get_from found
  got_is =
      ap (found w) fresh
      ∙ ap (λ (j : Side). cond (is_side j) (found_in (start_at f w j) f.rlen (slot_at f j)) (found_none f.marked)) R.first
      ∙ cond_true (found_in (start_at f w k) f.rlen (slot_at f k)) (found_none f.marked) R.there
      ∙ ap (λ (x : ℕ). found_in (x * w) f.rlen (slot_at f k)) R.buffer
      ∙ ap (λ (x : ℕ). found_in (b * w) x (slot_at f k)) R.rlen
      ∙ ap (λ (x : Slot). found_in (b * w) r x) R.slot

  file_is : (get_from w f).file ≡ with_slot f k (Full n (at + words_given r (Full n at e)) (after_told e)) f.turned f.block
  unfolding get_from after_found
  file_is =
      ap after_found fresh
      ∙ ap (λ (j : Side). with_slot f j (slot_after f.rlen (slot_at f j)) f.turned f.block) R.first
      ∙ ap (λ (x : ℕ). with_slot f k (slot_after x (slot_at f k)) f.turned f.block) R.rlen
      ∙ ap (λ (x : Slot). with_slot f k (slot_after r x) f.turned f.block) R.slot

  after_is : Reading (get_from w f).file k b r n (at + words_given r (Full n at e)) (after_told e)
  after_is = subst (λ (g : File). Reading g k b r n (at + words_given r (Full n at e)) (after_told e)) (sym file_is) (moved f k b r n at e (at + words_given r (Full n at e)) R)

-- an error is told by itself, with all that was found, and the words remain
pub error_told_lem : (w : ℕ) (f : File) (k : Side) (b r n at : ℕ) (e : Arrival) → 0 < error_due e → Reading f k b r n at e → at < n → (get_from w f).got ≡ Error (error_told e)
error_told_lem w f k b r n at e some R left =
    got_is w [] f k b r n at e R left
    ∙ cond_true (Error (error_told e)) (cond (leb r (n - at)) (Record (b * w + at) r) (Leftover (b * w + at) (n - at))) (lt-ltb 0 (error_due e) some)

-- a record or a leftover is the next words of the block
shown_is : (xs : List ℕ) (start r n at : ℕ) (e : Arrival) → shown xs (found_in start r (Full n at (all_told e))) ≡ part_of (start + at) (share r (n - at)) xs
shown_is xs start r n at e = go (leb r (n - at))
  where
    go : (t : Bool) → shown xs (cond t (Record (start + at) r) (Leftover (start + at) (n - at))) ≡ part_of (start + at) (cond t r (n - at)) xs
    go true = refl
    go false = refl

-- two parts that follow one another
part_join : (a s t : ℕ) (xs : List ℕ) → part_of a s xs ++ part_of (a + s) t xs ≡ part_of a (s + t) xs
part_join a s t xs = ap (λ (l : List ℕ). part_of a s xs ++ take t l) (sym (drop-drop s a xs)) ∙ sym (take-add s t (drop a xs))

-- ---- gets in a row

-- so many gets show these words, and then the block is used up; it is the oldest still, and no get has emptied it
pub record Given (w : ℕ) (xs : List ℕ) (f : File) (k : Side) (b r n at : ℕ) (e : Arrival) : Type 0 where
  pub gets : ℕ
  pub words : shown_by w xs gets f ≡ part_of (b * w + at) (n - at) xs
  pub used_up : Reading (after_gets w gets f) k b r n n (all_told e)

share_some : (r left : ℕ) → 1 ≤ r → 1 ≤ left → 1 ≤ share r left
share_some r left h l = go (leb r left)
  where
    go : (t : Bool) → 1 ≤ cond t r left
    go true = h
    go false = l

share_most : (r left : ℕ) → share r left ≤ left
share_most r left = go (leb r left) refl
  where
    go : (t : Bool) → leb r left ≡ t → cond t r left ≤ left
    go true e = leb-true r left e
    go false e = omega arith

choose : {A : Type 0} (a b : ℕ) → (a < b → A) → (b ≤ a → A) → A
choose {A} a b less more = go (dec_lt a b)
  where
    go : Dec (a < b) → A
    go (yes h) = less h
    go (no h) = more (omega (arith, h))

module _ (w : ℕ) (xs : List ℕ) (k : Side) (b r n : ℕ) (e : Arrival) (some : 1 ≤ r) where
  given_done : (f : File) (at : ℕ) → n ≤ at → at ≤ n → Reading f k b r n at (all_told e) → Given w xs f k b r n at e
  unfolding shown_by after_gets
  given_done f at d l R =
      let same : at ≡ n = omega arith in
      let none : n - at ≡ 0 = omega arith in
      record { gets = 0; words = sym (ap (λ (j : ℕ). part_of (b * w + at) j xs) none); used_up = subst (λ (p : ℕ). Reading f k b r n p (all_told e)) same R }

  given_step : (f : File) (at : ℕ) → at < n → Reading f k b r n at (all_told e) → Given w xs (get_from w f).file k b r n (at + share r (n - at)) e → Given w xs f k b r n at e
  unfolding shown_by after_gets
  given_step f at m R G =
      let s = share r (n - at) in
      let place : b * w + (at + s) ≡ b * w + at + s = sym (add_assoc (b * w) at s) in
      let rest : s + (n - (at + s)) ≡ n - at = omega (arith, share_most r (n - at)) in
      record {
        gets = suc G.gets;
        words =
            ap (λ (l : List ℕ). l ++ shown_by w xs G.gets (get_from w f).file) (ap (shown xs) (got_is w xs f k b r n at (all_told e) R m) ∙ shown_is xs (b * w) r n at e)
            ∙ ap (λ (l : List ℕ). part_of (b * w + at) s xs ++ l) (G.words ∙ ap (λ (a : ℕ). part_of a (n - (at + s)) xs) place)
            ∙ part_join (b * w + at) s (n - (at + s)) xs
            ∙ ap (λ (j : ℕ). part_of (b * w + at) j xs) rest;
        used_up = G.used_up;
      }

  rest_given : (fuel : ℕ) (f : File) (at : ℕ) → n - at ≤ fuel → at ≤ n → Reading f k b r n at (all_told e) → Given w xs f k b r n at e
  rest_given zero f at h l R = given_done f at (omega arith) l R
  rest_given (suc fuel) f at h l R =
      choose at n
      (λ m.
      let some_left : 1 ≤ n - at = omega arith in
      given_step f at m R
      (rest_given fuel (get_from w f).file (at + share r (n - at)) (omega (arith, share_some r (n - at) some some_left)) (omega (arith, share_most r (n - at))) (after_is w xs f k b r n at (all_told e) R m)))
      (λ m. given_done f at m l R)

  -- of a block without an error, from a place on
  pub words_given_lem : (f : File) (at : ℕ) → at ≤ n → Reading f k b r n at (all_told e) → Given w xs f k b r n at e
  words_given_lem f at l R = rest_given (n - at) f at (omega arith) l R

  -- a get that tells an error shows no words, and leaves the block unread
  error_first : (f : File) (d : Arrival) → 0 < error_due d → 0 < n → Reading f k b r n 0 d → Given w xs (get_from w f).file k b r n 0 e → Given w xs f k b r n 0 e
  unfolding shown_by after_gets
  error_first f d wrong l R G = record {
    gets = suc G.gets;
    words = ap (λ (g : Got). shown xs g ++ shown_by w xs G.gets (get_from w f).file) (error_told_lem w f k b r n 0 d wrong R l) ∙ G.words;
    used_up = G.used_up;
  }

  unread : (f : File) (d : Arrival) → 0 < error_due d → 0 < n → Reading f k b r n 0 d → Reading (get_from w f).file k b r n 0 (after_told d)
  unread f d wrong l R =
      let none : words_given r (Full n 0 d) ≡ 0 = cond_true 0 (share r (n - 0)) (lt-ltb 0 (error_due d) wrong) in
      let same : 0 + words_given r (Full n 0 d) ≡ 0 = omega (arith, none) in
      subst (λ (p : ℕ). Reading (get_from w f).file k b r n p (after_told d)) same (after_is w xs f k b r n 0 d R l)

  -- of a block of which one error was told
  second_given : (f : File) → 1 ≤ n → Reading f k b r n 0 (after_told e) → Given w xs f k b r n 0 e
  second_given f l R =
      choose 0 (error_due (after_told e))
      (λ wrong.
      error_first f (after_told e) wrong l R
      (words_given_lem (get_from w f).file 0 (omega arith) (subst (λ (x : Arrival). Reading (get_from w f).file k b r n 0 x) (told_twice e) (unread f (after_told e) wrong l R))))
      (λ none.
      let quiet : error_due (after_told e) ≡ 0 = omega arith in
      words_given_lem f 0 (omega arith) (subst (λ (x : Arrival). Reading f k b r n 0 x) (sym (told_nothing (after_told e) quiet) ∙ told_twice e) R))

  -- of a whole block: its errors first, if it has any, and then its data words
  pub block_given : (f : File) → 1 ≤ n → Reading f k b r n 0 e → Given w xs f k b r n 0 e
  block_given f l R =
      choose 0 (error_due e)
      (λ wrong. error_first f e wrong l R (second_given (get_from w f).file l (unread f e wrong l R)))
      (λ none.
      let quiet : error_due e ≡ 0 = omega arith in
      words_given_lem f 0 (omega arith) (subst (λ (x : Arrival). Reading f k b r n 0 x) (told_all e quiet) R))

-- of a block that was kept after a permanent error the read error is told first, and the check error, if there is one, by the next get
module _ (w : ℕ) (f : File) (k : Side) (b r n : ℕ) (e : Arrival) (failed : 0 < e.failed) (some : 1 ≤ n) (R : Reading f k b r n 0 e) where
  unlike : eqb e.failed 0 ≡ false
  unlike = ne_eqb e.failed 0 (λ z. omega (arith, failed, z))

  due : error_due e ≡ e.failed
  due = cond_false e.check.error e.failed unlike

  pub read_error_first : (get_from w f).got ≡ Error (with_error e.failed e.check)
  read_error_first = error_told_lem w f k b r n 0 e (omega (arith, failed, due)) R some ∙ ap (λ (m : ℕ). Error (with_error m e.check)) due

  pub check_error_next : 0 < e.check.error → (get_from w (get_from w f).file).got ≡ Error e.check
  check_error_next wrong =
      let after : after_told e ≡ arrival 0 e.check = told_read e unlike in
      let S : Reading (get_from w f).file k b r n 0 (arrival 0 e.check) =
      subst (λ (x : Arrival). Reading (get_from w f).file k b r n 0 x) after
      (subst (λ (p : ℕ). Reading (get_from w f).file k b r n p (after_told e))
      (ap (λ (m : ℕ). 0 + m) (cond_true 0 (share r (n - 0)) (lt-ltb 0 (error_due e) (omega (arith, failed, due))))) (after_is w [] f k b r n 0 e R some)) in
      error_told_lem w (get_from w f).file k b r n 0 (arrival 0 e.check) wrong S some
