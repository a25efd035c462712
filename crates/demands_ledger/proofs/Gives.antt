-- The ledger of an input file at a get: it gives the read error of the oldest block, its check error, or its next words. Assumes nothing.
use mathlib.Core.Path.{◌≡◌, refl, sym, ap, subst, ◌∙◌}
use mathlib.Core.Bool.{Bool, true, false, cond}
use mathlib.Core.List.{List, [], ◌∷◌, ◌++◌, map, append-nil}
use Prim.Native.Nat.{ℕ, zero, suc, ◌+◌, ◌-◌, ◌*◌, ◌≤◌}
use native.Mathlib.Nat.{add-zero}
use native.Mathlib.Omega.{arith}
use borrow.Author.Tests.{leb-true, lt-ltb, eqb-true, eq-eqb}
use lib.Dec.{leb, ltb, eqb}
use lib.ListN.{length}
use Rattle.area.specs.Parts.{part_of}
use Rattle.area.proofs.Walks.{true_not_false}
use Rattle.area.proofs.Marks.{cond_true, cond_false}
use Rattle.word.specs.Checks.{with_error}
use Rattle.file.specs.declared.Arrival.{Arrival}
use Rattle.file.specs.Arrivals.{error_due, after_told}
use Rattle.file.proofs.ArrivalLaws.{arrival, told_read}
use Rattle.word.specs.declared.Checked.{Checked}
use Rattle.file.specs.declared.Slot.{Slot}
use Rattle.file.specs.declared.Slot.TheVariants.{Full}
use Rattle.file.specs.declared.Side.{Side}
use Rattle.file.specs.declared.Side.TheVariants.{Neither}
use Rattle.file.specs.declared.File.{File}
use Rattle.file.specs.Sides.{buffer_at, slot_at, start_at, is_side, oldest}
use Rattle.file.specs.Fills.{with_slot}
use Rattle.file_input.proofs.Ages.{block, Aged, no_block, old, aged}
use Rattle.file_input.specs.declared.Got.{Got}
use Rattle.file_input.specs.declared.Got.TheVariants.{Record, Leftover, Error}
use Rattle.file_input.specs.Gets.{passed, looked_at, words_given, slot_after, found_in, found_none, found, after_found, get_from}
use Rattle.file_input.specs.Histories.{shown}
use Rattle.state_sound.proofs.FileFacts.{Sound}
use Rattle.state_sound.proofs.Changes.{numbers, passed_sound}
use Rattle.pack_record.proofs.Written.{part_join}
use Rattle.demands_ledger.specs.Ledgers.{Item, word, wrong, Came, wrongs_by, wrongs, given_by, past_used, without}
use Rattle.demands_ledger.specs.Blocks.{unread_in}
use Rattle.demands_ledger.proofs.Told.{All, UntoldFirst, Brought}
use Rattle.demands_ledger.proofs.Lists.{map_append}
use Rattle.demands_ledger.proofs.Sides.{slot_same, block_stays}
use Rattle.demands_ledger.proofs.Brings.{head_all, untold_still, brought_given, passed_brought}

-- what an answer gives of the area
abbrev pub gives : List ℕ → Got → List Item
gives xs g = given_by g (shown xs g)

none_given : (xs : List ℕ) (t : Bool) → gives xs (found_none t) ≡ []
none_given xs true = refl
none_given xs false = refl

nothing_eaten : (owed : List (List Item)) → without 0 owed ≡ owed
nothing_eaten [] = refl
nothing_eaten (items ∷ rest) = refl

-- ---- what is left of a block is what get gives of it, and what is left then

module _ (w b r n at : ℕ) (xs : List ℕ) (within : at ≤ n) where
  -- its check error
  error_given : (t : Bool) (e : Checked) (z : ℕ) (other : Got) → t ≡ true
      → wrong e ∷ map word (part_of (b * w + at) (n - at) xs)
      ≡ gives xs (cond t (Error e) other) ++ map word (part_of (b * w + (at + cond t 0 z)) (n - (at + cond t 0 z)) xs)
  error_given true e z other q = ap (λ (i : ℕ). wrong e ∷ map word (part_of (b * w + i) (n - i) xs)) (sym (add-zero at))
  error_given false e z other q = absurd (let k : ◌≡◌ {A = ℕ} 0 1 = cc in omega arith)

  -- its next words
  words_follow : (c : ℕ) → c ≤ n - at
      → map word (part_of (b * w + at) (n - at) xs) ≡ map word (part_of (b * w + at) c xs) ++ map word (part_of (b * w + (at + c)) (n - (at + c)) xs)
  words_follow c l =
      let sum : n - at ≡ c + (n - (at + c)) = omega arith in
      let place : b * w + at + c ≡ b * w + (at + c) = omega arith in
      ap (map word)
      (ap (λ (i : ℕ). part_of (b * w + at) i xs) sum ∙ part_join (b * w + at) c (n - (at + c)) xs
      ∙ ap (λ (i : ℕ). part_of (b * w + at) c xs ++ part_of i (n - (at + c)) xs) place)
      ∙ map_append word (part_of (b * w + at) c xs) (part_of (b * w + (at + c)) (n - (at + c)) xs)

  words_given_lem : (t u : Bool) (e : Got) → t ≡ false → leb r (n - at) ≡ u
      → map word (part_of (b * w + at) (n - at) xs)
      ≡ gives xs (cond t e (cond u (Record (b * w + at) r) (Leftover (b * w + at) (n - at)))) ++ map word
      (part_of (b * w + (at + cond t 0 (cond u r (n - at)))) (n - (at + cond t 0 (cond u r (n - at)))) xs)
  words_given_lem true u e q l = absurd (let k : ◌≡◌ {A = ℕ} 0 1 = cc in omega arith)
  words_given_lem false true e q l = words_follow r (leb-true r (n - at) l)
  words_given_lem false false e q l = words_follow (n - at) (omega arith)

  no_error : ltb 0 0 ≡ false
  no_error = refl

  -- its check error, or its next words
  check_given : (i : ℕ) (c : Checked) → wrongs_by i c ++ map word (part_of (b * w + at) (n - at) xs)
      ≡ gives xs (cond (ltb 0 i) (Error c) (cond (leb r (n - at)) (Record (b * w + at) r) (Leftover (b * w + at) (n - at)))) ++ map word
      (part_of (b * w + (at + cond (ltb 0 i) 0 (cond (leb r (n - at)) r (n - at)))) (n - (at + cond (ltb 0 i) 0 (cond (leb r (n - at)) r (n - at)))) xs)
  check_given (suc i) c = error_given (ltb 0 (suc i)) c _ _ (lt-ltb 0 (suc i) (omega arith))
  check_given zero c = words_given_lem (ltb 0 0) (leb r (n - at)) (Error c) no_error refl

  -- its read error: the check error, if there is one, and the words remain
  read_given : (t : Bool) (x : ℕ) (c : Checked) (z : ℕ) (other : Got) → t ≡ true → (x ≡ 0 → ⊥)
      → wrongs x c ++ map word (part_of (b * w + at) (n - at) xs)
      ≡ gives xs (cond t (Error (with_error x c)) other) ++ (wrongs 0 c ++ map word (part_of (b * w + (at + cond t 0 z)) (n - (at + cond t 0 z)) xs))
  read_given true zero c z other q some = absurd (some refl)
  read_given true (suc x) c z other q some =
      ap (λ (i : ℕ). wrong (with_error (suc x) c) ∷ (wrongs_by c.error c ++ map word (part_of (b * w + i) (n - i) xs))) (sym (add-zero at))
  read_given false x c z other q some = absurd (let k : ◌≡◌ {A = ℕ} 0 1 = cc in omega arith)

  pub left_given : (e : Arrival)
      → unread_in w xs (block b n at e) ≡ gives xs (found_in (b * w) r (Full n at e)) ++ unread_in w xs (block b n (at + words_given r (Full n at e)) (after_told e))
  left_given e = go (eqb e.failed 0) refl
    where
      Left : ℕ → Arrival → Type 0
      Left m a =
          unread_in w xs (block b n at e)
          ≡ gives xs (cond (ltb 0 (error_due e)) (Error (with_error m e.check)) (cond (leb r (n - at)) (Record (b * w + at) r) (Leftover (b * w + at) (n - at))))
          ++ unread_in w xs (block b n (at + words_given r (Full n at e)) a)

      go : (t : Bool) → eqb e.failed 0 ≡ t
          → unread_in w xs (block b n at e) ≡ gives xs (found_in (b * w) r (Full n at e)) ++ unread_in w xs (block b n (at + words_given r (Full n at e)) (after_told e))
      go true q =
          subst (λ (a : Arrival). unread_in w xs (block b n at a)
          ≡ gives xs (found_in (b * w) r (Full n at a)) ++ unread_in w xs (block b n (at + words_given r (Full n at a)) (after_told a)))
          (ap (λ (m : ℕ). arrival m e.check) (sym (eqb-true e.failed 0 q)))
          (check_given e.check.error e.check)
      go false q =
          let due : error_due e ≡ e.failed = cond_false e.check.error e.failed q in
          let some : e.failed ≡ 0 → ⊥ = λ z. true_not_false (eq-eqb e.failed 0 z) q in
          let wrong-is : ltb 0 (error_due e) ≡ true = lt-ltb 0 (error_due e) (omega (arith, due, some)) in
          subst (Left (error_due e)) (sym (told_read e q))
          (subst (λ (m : ℕ). Left m (arrival 0 e.check)) (sym due)
          (read_given (ltb 0 (error_due e)) e.failed e.check _ _ wrong-is some))

-- ---- get

module _ (m w : ℕ) (f : File) (S : Sound m w f) (xs : List ℕ) where
  found_brought : (came : List Came) (gone : List Item) (owed : List (List Item)) → Brought w f xs came gone owed
      → Brought w (after_found f) xs came (gone ++ gives xs (found w f)) (without (length (gives xs (found w f))) owed)
  unfolding found after_found
  found_brought came gone owed T = go (oldest f) (aged f)
    where
      To : File → List Item → Type 0
      To g now = Brought w g xs came (gone ++ now) (without (length now) owed)

      go : (k : Side) → Aged f k
          → To (with_slot f k (slot_after f.rlen (slot_at f k)) f.turned f.block)
          (gives xs (cond (is_side k) (found_in (start_at f w k) f.rlen (slot_at f k)) (found_none f.marked)))
      go Neither (no_block e) =
          subst (To f) (sym (none_given xs f.marked))
          (subst (λ (v : List Item). Brought w f xs came v (without 0 owed)) (sym (append-nil gone))
          (subst (Brought w f xs came gone) (sym (nothing_eaten owed)) T))
      go k (old _ n at e rest s x l left moved) =
          subst (λ (g : Got). To (with_slot f k (slot_after f.rlen (slot_at f k)) f.turned f.block) (gives xs g))
          (sym (cond_true (found_in (start_at f w k) f.rlen (slot_at f k)) (found_none f.marked) s))
          (subst (λ (y : Slot). To (with_slot f k (slot_after f.rlen y) f.turned f.block) (gives xs (found_in (start_at f w k) f.rlen y)))
          (sym x)
          (brought_given w f (with_slot f k (Full n (at + words_given f.rlen (Full n at e)) (after_told e)) f.turned f.block) xs xs came gone owed
          (slot_same f k (Full n (at + words_given f.rlen (Full n at e)) (after_told e)) f.turned f.block) T
          (block (buffer_at f k).number n at e) (block (buffer_at f k).number n (at + words_given f.rlen (Full n at e)) (after_told e)) rest
          (gives xs (found_in (start_at f w k) f.rlen (Full n at e))) l (moved (at + words_given f.rlen (Full n at e)) (after_told e) f.block)
          (block_stays f k (Full n (at + words_given f.rlen (Full n at e)) (after_told e)) f.turned)
          (untold_still (buffer_at f k).number f.rlen n at e (head_all UntoldFirst (block (buffer_at f k).number n at e) rest (subst (All UntoldFirst) l T.untold)))
          (left_given w (buffer_at f k).number f.rlen n at xs (numbers m w f k n at e S x).place e)))

pub get_brought : (m w : ℕ) (f : File) → Sound m w f → (xs : List ℕ) → m * w ≤ length xs
    → (came : List Came) (gone : List Item) (owed : List (List Item)) → Brought w f xs came gone owed
    → Brought w (get_from w f).file xs came (gone ++ gives xs (get_from w f).got)
    (without (length (gives xs (get_from w f).got)) (past_used (past_used owed)))
unfolding get_from looked_at
get_brought m w f S xs long came gone owed T =
    let P = passed_sound m w f S in
    found_brought m w (passed (passed f)) (passed_sound m w (passed f) P) xs came gone (past_used (past_used owed))
    (passed_brought m w (passed f) P xs long came gone (past_used owed) (passed_brought m w f S xs long came gone owed T))
