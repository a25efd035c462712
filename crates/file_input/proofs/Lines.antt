-- The oldest block is what was delivered or sealed first of those still full. Over any history of a file, the buffers of its full blocks, the
-- oldest first, are those in which blocks were delivered or sealed, in that order, without as many of the first as have become empty.
-- Assumes nothing.
use mathlib.Core.Path.{◌≡◌, refl, sym, ap, ap₂, ◌∙◌}
use mathlib.Core.Bool.{Bool, true, false, cond}
use mathlib.Core.List.{List, [], ◌∷◌, ◌++◌, map, append_assoc, append-nil}
use Prim.Native.Nat.{ℕ, zero, suc, ◌+◌, ◌-◌, ◌≤◌}
use native.Mathlib.Omega.{arith}
use lib.ListN.{length, drop, length-append, length-drop, length-map}
use lib.Seq.{drop-drop, drop-append-le}
use Rattle.area.proofs.Walks.{by_test, true_not_false}
use Rattle.file.specs.declared.Arrival.{Arrival}
use Rattle.file.specs.Arrivals.{no_arrival, after_told}
use Rattle.file.specs.declared.Slot.{Slot}
use Rattle.file.specs.declared.Slot.TheVariants.{Empty, Taken, Part, Full}
use Rattle.file.specs.declared.Side.{Side}
use Rattle.file.specs.declared.Side.TheVariants.{Low, High, Neither}
use Rattle.file.specs.declared.File.{File}
use Rattle.file.specs.declared.Wish.{Wish}
use Rattle.file.specs.Sides.{buffer_at, slot_at, is_side, taken_side, part_side, oldest}
use Rattle.file.specs.Fills.{with_slot, filled_at, without_oldest}
use Rattle.file_input.specs.Delivers.{took_buffer, delivered, gave_back, met_mark}
use Rattle.file_output.specs.Puts.{added, after_put}
use Rattle.file_output.specs.Parts.{is_complete, part_length, sealed_file}
use Rattle.file.specs.Sizes.{opened_file}
use Rattle.file_input.specs.Ages.{Block, full_in, full_at, in_order, line}
use Rattle.file_input.proofs.Ages.{block, taken_none, part_none, young, Aged, no_block, old, aged, opened_line, took_line, back_line, met_line, added_line, oldest_leaves}
use Rattle.file_input.specs.Gets.{is_used_up, passed, looked_at, slot_after, words_given, after_found}
use Rattle.file_input.specs.Histories.{Event, read, giveBack, mark, get, skip, put, seal, send, deliver, after, buffers_in_line, number_of, becomes_full, one, become_empty, after_all, all_filled, all_emptied}
use Rattle.file_input.proofs.Onces.{passed_same}

abbrev number : Block → ℕ
number b = b.number

map_append : (a b : List Block) → map number (a ++ b) ≡ map number a ++ map number b
map_append [] b = refl
map_append (x ∷ a) b = ap (λ (l : List ℕ). x.number ∷ l) (map_append a b)

map_drop : (n : ℕ) (a : List Block) → map number (drop n a) ≡ drop n (map number a)
map_drop zero a = refl
map_drop (suc n) [] = refl
map_drop (suc n) (x ∷ a) = map_drop n a

-- ---- blocks that become full

filled_line : (f : File) (k : Side) (n : ℕ) (e : Arrival) → full_at f k ≡ [] → buffers_in_line (filled_at f k n e) ≡ buffers_in_line f ++ number_of f k
unfolding filled_at
filled_line f Low n e q = ap (map number) (young f Low n e refl q) ∙ map_append (line f) (block f.low.number n 0 e ∷ [])
filled_line f High n e q = ap (map number) (young f High n e refl q) ∙ map_append (line f) (block f.high.number n 0 e ∷ [])
filled_line f Neither n e q = sym (append-nil (buffers_in_line f))

put_line : (f : File) → buffers_in_line (after_put f) ≡ buffers_in_line f ++ becomes_full f put
unfolding after_put sealed_file
put_line f = go (is_complete (added f))
  where
    go : (t : Bool) → buffers_in_line (cond t (sealed_file (added f)) (added f)) ≡ buffers_in_line f ++ cond t (number_of (added f) (part_side (added f))) []
    go true =
        filled_line (added f) (part_side (added f)) (part_length (added f)) no_arrival (part_none (added f))
        ∙ ap (λ (l : List Block). map number l ++ number_of (added f) (part_side (added f))) (added_line f)
    go false = ap (map number) (added_line f) ∙ sym (append-nil (buffers_in_line f))

-- ---- blocks that become empty

no_line_lem : (f : File) → is_side (oldest f) ≡ false → line f ≡ []
no_line_lem f = go (oldest f) (aged f)
  where
    go : (k : Side) → Aged f k → is_side k ≡ false → line f ≡ []
    go Neither (no_block e) s = e
    go k (old _ n at e rest t x l gone moved) s = true_not_false t s

some_line : (f : File) → is_side (oldest f) ≡ true → 1 ≤ length (line f)
some_line f = go (oldest f) (aged f)
  where
    go : (k : Side) → Aged f k → is_side k ≡ true → 1 ≤ length (line f)
    go Neither (no_block e) s = true_not_false s refl
    go k (old _ n at e rest t x l gone moved) s = omega (arith, ap length l)

-- a block that is used up is there
used_side : (f : File) (k : Side) → is_used_up (slot_at f k) ≡ true → is_side k ≡ true
used_side f Low u = refl
used_side f High u = refl
used_side f Neither u = u

dropped_line : (f : File) → line (without_oldest f) ≡ drop (one (is_side (oldest f))) (line f)
dropped_line f =
    by_test (λ t. is_side (oldest f) ≡ t → line (without_oldest f) ≡ drop (one t) (line f)) (is_side (oldest f))
    (λ s e. oldest_leaves f) (λ s e. oldest_leaves f ∙ ap (drop 1) (no_line_lem f s) ∙ sym (no_line_lem f s)) refl

passed_line : (f : File) → line (passed f) ≡ drop (one (is_used_up (slot_at f (oldest f)))) (line f)
unfolding passed
passed_line f = go (is_used_up (slot_at f (oldest f)))
  where
    go : (t : Bool) → line (cond t (without_oldest f) f) ≡ drop (one t) (line f)
    go true = oldest_leaves f
    go false = refl

looked_line : (f : File) → line (looked_at f) ≡ drop (become_empty f get) (line f)
unfolding looked_at
looked_line f =
    passed_line (passed f) ∙ ap (drop (one (is_used_up (slot_at (passed f) (oldest (passed f)))))) (passed_line f)
    ∙ drop-drop (one (is_used_up (slot_at (passed f) (oldest (passed f))))) (one (is_used_up (slot_at f (oldest f)))) (line f)

-- get moves the place in the oldest block, and no block
found_line : (f : File) → buffers_in_line (after_found f) ≡ buffers_in_line f
unfolding after_found
found_line f = go (oldest f) (aged f)
  where
    go : (k : Side) → Aged f k → buffers_in_line (with_slot f k (slot_after f.rlen (slot_at f k)) f.turned f.block) ≡ buffers_in_line f
    go Neither (no_block e) = refl
    go k (old _ n at e rest t x l gone moved) =
        ap (λ (s : Slot). buffers_in_line (with_slot f k (slot_after f.rlen s) f.turned f.block)) x
        ∙ ap (map number) (moved (at + words_given f.rlen (Full n at e)) (after_told e) f.block) ∙ sym (ap (map number) l)

-- ---- one event

still : (f g : File) → line g ≡ line f → buffers_in_line g ≡ buffers_in_line f ++ []
still f g e = ap (map number) e ∙ sym (append-nil (buffers_in_line f))

gone : (f : File) (n : ℕ) → drop n (buffers_in_line f) ≡ drop n (buffers_in_line f ++ [])
gone f n = ap (drop n) (sym (append-nil (buffers_in_line f)))

pub event_line : (f : File) (e : Event) → buffers_in_line (after f e) ≡ drop (become_empty f e) (buffers_in_line f ++ becomes_full f e)
unfolding delivered sealed_file
event_line f read = still f (took_buffer f) (took_line f)
event_line f (deliver n e) = filled_line f (taken_side f) n e (taken_none f)
event_line f giveBack = still f (gave_back f) (back_line f)
event_line f mark = still f (met_mark f) (met_line f)
event_line f get = found_line (looked_at f) ∙ ap (map number) (looked_line f) ∙ map_drop (become_empty f get) (line f) ∙ gone f (become_empty f get)
event_line f skip = ap (map number) (dropped_line f) ∙ map_drop (become_empty f skip) (line f) ∙ gone f (become_empty f skip)
event_line f put = put_line f
event_line f seal = filled_line f (part_side f) (part_length f) no_arrival (part_none f)
event_line f send = ap (map number) (dropped_line f) ∙ map_drop (become_empty f send) (line f) ∙ gone f (become_empty f send)

-- no more blocks become empty than are full
used_most : (f : File) → one (is_used_up (slot_at f (oldest f))) ≤ length (line f)
used_most f =
    by_test (λ t. one t ≤ length (line f)) (is_used_up (slot_at f (oldest f))) (λ u. some_line f (used_side f (oldest f) u)) (λ u. omega arith)

side_most : (f : File) → one (is_side (oldest f)) ≤ length (line f)
side_most f = by_test (λ t. one t ≤ length (line f)) (is_side (oldest f)) (λ s. some_line f s) (λ s. omega arith)

empty_most : (f : File) (e : Event) → become_empty f e ≤ length (line f)
empty_most f read = omega arith
empty_most f (deliver n e) = omega arith
empty_most f giveBack = omega arith
empty_most f mark = omega arith
empty_most f get =
    let left : length (line (passed f)) ≡ length (line f) - one (is_used_up (slot_at f (oldest f))) =
    ap length (passed_line f) ∙ length-drop (one (is_used_up (slot_at f (oldest f)))) (line f) in
    omega (arith, used_most f, used_most (passed f))
empty_most f skip = side_most f
empty_most f put = omega arith
empty_most f seal = omega arith
empty_most f send = side_most f

-- ---- a history

pub history_line : (f : File) (h : List Event) → buffers_in_line (after_all f h) ≡ drop (all_emptied f h) (buffers_in_line f ++ all_filled f h)
unfolding after_all all_filled all_emptied
history_line f [] = sym (append-nil (buffers_in_line f))
history_line f (e ∷ h) =
    let n = become_empty f e in
    let now = buffers_in_line f ++ becomes_full f e in
    let rest = all_filled (after f e) h in
    let fits : n ≤ length now = omega (arith, empty_most f e, length-map (line f) number, length-append (buffers_in_line f) (becomes_full f e)) in
    history_line (after f e) h
    ∙ ap (λ (l : List ℕ). drop (all_emptied (after f e) h) (l ++ rest)) (event_line f e)
    ∙ ap (drop (all_emptied (after f e) h)) (sym (drop-append-le n now rest fits))
    ∙ drop-drop (all_emptied (after f e) h) n (now ++ rest)
    ∙ ap (drop (n + all_emptied (after f e) h)) (append_assoc (buffers_in_line f) (becomes_full f e) rest)

-- the oldest is the first in the line
pub oldest_first : (f : File) → is_side (oldest f) ≡ true → buffers_in_line f ≡ (buffer_at f (oldest f)).number ∷ drop 1 (buffers_in_line f)
oldest_first f = go (oldest f) (aged f)
  where
    go : (k : Side) → Aged f k → is_side k ≡ true → buffers_in_line f ≡ (buffer_at f k).number ∷ drop 1 (buffers_in_line f)
    go Neither (no_block e) s = true_not_false s refl
    go k (old _ n at e rest t x l gone moved) s =
        ap (map number) l ∙ sym (ap (λ (m : List Block). (buffer_at f k).number ∷ drop 1 (map number m)) l)

-- since the open: the full blocks are those delivered or sealed, in that order, without the first ones, which have become empty
pub order_kept : (q : Wish) (low high : ℕ) (h : List Event)
    → buffers_in_line (after_all (opened_file q low high) h) ≡ drop (all_emptied (opened_file q low high) h) (all_filled (opened_file q low high) h)
order_kept q low high h =
    history_line (opened_file q low high) h
    ∙ ap (λ (l : List Block). drop (all_emptied (opened_file q low high) h) (map number l ++ all_filled (opened_file q low high) h)) (opened_line q low high)

-- ---- why two looks are enough: there are two buffers, and after two no used-up block stands first

few : (b : ℕ) (x : Slot) → length (full_in b x) ≤ 1
few b Empty = omega arith
few b Taken = omega arith
few b (Part n) = omega arith
few b (Full n at e) = omega arith

length_order : (t : Bool) (a b : List Block) → length (in_order t a b) ≡ length a + length b
length_order true a b = omega (arith, length-append b a)
length_order false a b = length-append a b

short : (f : File) → length (line f) ≤ 2
unfolding line
short f = omega (arith, length_order f.turned (full_at f Low) (full_at f High), few f.low.number f.low.slot, few f.high.number f.high.slot)

abbrev used : File → Bool
used f = is_used_up (slot_at f (oldest f))

pub looked_fresh : (f : File) → is_used_up (slot_at (looked_at f) (oldest (looked_at f))) ≡ false
unfolding looked_at
looked_fresh f = go (used f) (used (passed f)) (used (looked_at f)) refl refl refl
  where
    go : (a b c : Bool) → used f ≡ a → used (passed f) ≡ b → used (looked_at f) ≡ c → c ≡ false
    go a b false p q r = refl
    go a false true p q r = true_not_false r (ap used (passed_same (passed f) q) ∙ q)
    go false true true p q r = true_not_false q (ap used (passed_same f p) ∙ p)
    go true true true p q r =
        let two : become_empty f get ≡ 2 = ap₂ (λ (x y : Bool). one x + one y) p q in
        let left : length (line (looked_at f)) ≡ length (line f) - become_empty f get = ap length (looked_line f) ∙ length-drop (become_empty f get) (line f) in
        absurd (omega (arith, short f, some_line (looked_at f) (used_side (looked_at f) (oldest (looked_at f)) r)))
