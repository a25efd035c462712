-- The line of a file's full blocks as the file changes: a block that is delivered or sealed comes last, the oldest is the first and leaves first,
-- and nothing else moves. Assumes nothing.
use mathlib.Core.Path.{◌≡◌, refl, sym, ap, ◌∙◌}
use mathlib.Core.Bool.{Bool, true, false, cond, ◌&&◌}
use mathlib.Core.List.{List, [], ◌∷◌, ◌++◌, append-nil}
use Prim.Native.Nat.{ℕ}
use lib.ListN.{drop}
use lib.Dec.{leb}
use Rattle.area.proofs.Walks.{true_not_false, and_right}
use Rattle.file.specs.declared.Arrival.{Arrival}
use Rattle.file.specs.Arrivals.{no_arrival}
use Rattle.file.specs.declared.Slot.{Slot}
use Rattle.file.specs.declared.Slot.TheVariants.{Empty, Taken, Part, Full}
use Rattle.file.specs.declared.Side.{Side}
use Rattle.file.specs.declared.Side.TheVariants.{Low, High, Neither}
use Rattle.file.specs.declared.File.{File}
use Rattle.file.specs.declared.Wish.{Wish}
use Rattle.file.specs.Slots.{is_empty, is_taken, is_part, is_full}
use Rattle.file.specs.Sides.{buffer_at, slot_at, is_side, empty_side, taken_side, part_side, oldest}
use Rattle.file.specs.Fills.{with_slot, filled_at, emptied_at, without_oldest}
use Rattle.file.specs.Sizes.{opened_file}
use Rattle.file_input.specs.Delivers.{took_buffer, delivered, gave_back, with_file_mark, met_mark}
use Rattle.file_output.specs.Puts.{put_side, words_after, added}
use Rattle.file_output.specs.Parts.{part_length, sealed_file}
use Rattle.file_input.specs.Ages.{Block, full_in, full_at, in_order, line}
use Rattle.file.proofs.Which.{lower_cases}

abbrev pub block : ℕ → ℕ → ℕ → Arrival → Block
block b n at e = record { number = b; words = n; place = at; arrival = e }

-- ---- two lists in order

order_low : {A : Type 0} (t : Bool) (l : List A) → in_order t l [] ≡ l
order_low true l = refl
order_low false l = append-nil l

order_high : {A : Type 0} (t : Bool) (h : List A) → in_order t [] h ≡ h
order_high true h = append-nil h
order_high false h = refl

-- ---- a buffer that has no full block

empty_quiet : (b : ℕ) (x : Slot) → is_empty x ≡ true → full_in b x ≡ []
empty_quiet b Empty e = refl
empty_quiet b Taken e = refl
empty_quiet b (Part n) e = refl
empty_quiet b (Full n at err) e = true_not_false e refl

taken_quiet : (b : ℕ) (x : Slot) → is_taken x ≡ true → full_in b x ≡ []
taken_quiet b Empty e = refl
taken_quiet b Taken e = refl
taken_quiet b (Part n) e = refl
taken_quiet b (Full n at err) e = true_not_false e refl

part_quiet : (b : ℕ) (x : Slot) → is_part x ≡ true → full_in b x ≡ []
part_quiet b Empty e = refl
part_quiet b Taken e = refl
part_quiet b (Part n) e = refl
part_quiet b (Full n at err) e = true_not_false e refl

empty_none : (f : File) → full_at f (empty_side f) ≡ []
unfolding empty_side
empty_none f =
    lower_cases (λ k. full_at f k ≡ []) (is_empty f.low.slot) (f.double && is_empty f.high.slot)
    (λ a. empty_quiet f.low.number f.low.slot a) (λ a b. empty_quiet f.high.number f.high.slot (and_right f.double _ b)) (λ a b. refl)

pub taken_none : (f : File) → full_at f (taken_side f) ≡ []
unfolding taken_side
taken_none f = lower_cases (λ k. full_at f k ≡ []) (is_taken f.low.slot) (is_taken f.high.slot) (λ a. taken_quiet f.low.number f.low.slot a) (λ a b. taken_quiet f.high.number f.high.slot b) (λ a b. refl)

pub part_none : (f : File) → full_at f (part_side f) ≡ []
unfolding part_side
part_none f = lower_cases (λ k. full_at f k ≡ []) (is_part f.low.slot) (is_part f.high.slot) (λ a. part_quiet f.low.number f.low.slot a) (λ a b. part_quiet f.high.number f.high.slot b) (λ a b. refl)

put_none : (f : File) → full_at f (put_side f) ≡ []
unfolding put_side
put_none f = go (is_side (part_side f))
  where
    go : (t : Bool) → full_at f (cond t (part_side f) (empty_side f)) ≡ []
    go true = part_none f
    go false = empty_none f

-- a slot that is not full, before and after
quiet : (f : File) (k : Side) (x : Slot) (t : Bool) (n : ℕ) → full_at f k ≡ [] → ((b : ℕ) → full_in b x ≡ []) → line (with_slot f k x t n) ≡ line f
unfolding line
quiet f Low x t n e d =
    ap (λ (l : List Block). in_order t l (full_at f High)) (d f.low.number) ∙ order_high t (full_at f High)
    ∙ sym (ap (λ (l : List Block). in_order f.turned l (full_at f High)) e ∙ order_high f.turned (full_at f High))
quiet f High x t n e d =
    ap (in_order t (full_at f Low)) (d f.high.number) ∙ order_low t (full_at f Low)
    ∙ sym (ap (in_order f.turned (full_at f Low)) e ∙ order_low f.turned (full_at f Low))
quiet f Neither x t n e d = refl

low_young : (b : ℕ) (x : Block) (s : Slot) → in_order (is_full s) (x ∷ []) (full_in b s) ≡ full_in b s ++ (x ∷ [])
low_young b x Empty = refl
low_young b x Taken = refl
low_young b x (Part n) = refl
low_young b x (Full n at e) = refl

-- a block that becomes full comes last
pub young : (f : File) (k : Side) (n : ℕ) (e : Arrival) → is_side k ≡ true → full_at f k ≡ [] → line (filled_at f k n e) ≡ line f ++ (block (buffer_at f k).number n 0 e ∷ [])
unfolding line filled_at
young f Low n e s q =
    low_young f.high.number (block f.low.number n 0 e) f.high.slot
    ∙ ap (λ (l : List Block). l ++ (block f.low.number n 0 e ∷ [])) (sym (ap (λ (l : List Block). in_order f.turned l (full_at f High)) q ∙ order_high f.turned (full_at f High)))
young f High n e s q =
    ap (λ (l : List Block). l ++ (block f.high.number n 0 e ∷ [])) (sym (ap (in_order f.turned (full_at f Low)) q ∙ order_low f.turned (full_at f Low)))
young f Neither n e s q = true_not_false s refl

-- ---- the oldest

-- the oldest is the first of the line: without it the rest remains, and a change of its place or error moves nothing
pub data Aged (f : File) : Side → Type 0 where
  no_block : line f ≡ [] → Aged f Neither
  old : (k : Side) (n at : ℕ) (e : Arrival) (rest : List Block) → is_side k ≡ true → slot_at f k ≡ Full n at e → line f ≡ block (buffer_at f k).number n at e ∷ rest
      → ((b : ℕ) → line (with_slot f k Empty false b) ≡ rest)
      → ((p : ℕ) (d : Arrival) (b : ℕ) → line (with_slot f k (Full n p d) f.turned b) ≡ block (buffer_at f k).number n p d ∷ rest)
      → Aged f k

abbrev with_both : File → Slot → Slot → Bool → File
with_both f x y t = record {
  opened = f.opened;
  channel = f.channel;
  unit = f.unit;
  output = f.output;
  double = f.double;
  sequence = f.sequence;
  check = f.check;
  size = f.size;
  rlen = f.rlen;
  low = record { number = f.low.number; slot = x };
  high = record { number = f.high.number; slot = y };
  turned = t;
  block = f.block;
  marked = f.marked;
}

aged_by : (f : File) (x y : Slot) (t : Bool) → Aged (with_both f x y t) (oldest (with_both f x y t))
unfolding oldest line
aged_by f Empty Empty t = no_block (order_low t [])
aged_by f Empty Taken t = no_block (order_low t [])
aged_by f Empty (Part m) t = no_block (order_low t [])
aged_by f Taken Empty t = no_block (order_low t [])
aged_by f Taken Taken t = no_block (order_low t [])
aged_by f Taken (Part m) t = no_block (order_low t [])
aged_by f (Part m) Empty t = no_block (order_low t [])
aged_by f (Part m) Taken t = no_block (order_low t [])
aged_by f (Part m) (Part k) t = no_block (order_low t [])
aged_by f Empty (Full n at e) t = old High n at e [] refl refl (order_high t _) (λ b. refl) (λ p d b. order_high t _)
aged_by f Taken (Full n at e) t = old High n at e [] refl refl (order_high t _) (λ b. refl) (λ p d b. order_high t _)
aged_by f (Part m) (Full n at e) t = old High n at e [] refl refl (order_high t _) (λ b. refl) (λ p d b. order_high t _)
aged_by f (Full n at e) Empty t = old Low n at e [] refl refl (order_low t _) (λ b. refl) (λ p d b. order_low t _)
aged_by f (Full n at e) Taken t = old Low n at e [] refl refl (order_low t _) (λ b. refl) (λ p d b. order_low t _)
aged_by f (Full n at e) (Part m) t = old Low n at e [] refl refl (order_low t _) (λ b. refl) (λ p d b. order_low t _)
aged_by f (Full n at e) (Full n' at' e') true = old High n' at' e' (block f.low.number n at e ∷ []) refl refl refl (λ b. refl) (λ p d b. refl)
aged_by f (Full n at e) (Full n' at' e') false = old Low n at e (block f.high.number n' at' e' ∷ []) refl refl refl (λ b. refl) (λ p d b. refl)

pub aged : (f : File) → Aged f (oldest f)
aged f = aged_by f f.low.slot f.high.slot f.turned

-- ---- each change of a file

pub opened_line : (q : Wish) (low high : ℕ) → line (opened_file q low high) ≡ []
unfolding line opened_file
opened_line q low high = refl

pub took_line : (f : File) → line (took_buffer f) ≡ line f
unfolding took_buffer
took_line f = quiet f (empty_side f) Taken false f.block (empty_none f) (λ b. refl)

pub delivered_line : (f : File) (n : ℕ) (e : Arrival) → is_side (taken_side f) ≡ true → line (delivered f n e) ≡ line f ++ (block (buffer_at f (taken_side f)).number n 0 e ∷ [])
unfolding delivered
delivered_line f n e s = young f (taken_side f) n e s (taken_none f)

pub back_line : (f : File) → line (gave_back f) ≡ line f
unfolding gave_back emptied_at
back_line f = quiet f (taken_side f) Empty false f.block (taken_none f) (λ b. refl)

mark_line : (f : File) → line (with_file_mark f) ≡ line f
unfolding line
mark_line f = refl

pub met_line : (f : File) → line (met_mark f) ≡ line f
unfolding met_mark
met_line f = mark_line (gave_back f) ∙ back_line f

pub added_line : (f : File) → line (added f) ≡ line f
unfolding added
added_line f = go (leb (words_after f) f.size)
  where
    go : (t : Bool) → line (cond t (with_slot f (put_side f) (Part (words_after f)) false f.block) f) ≡ line f
    go true = quiet f (put_side f) (Part (words_after f)) false f.block (put_none f) (λ b. refl)
    go false = refl

pub sealed_line : (f : File) → is_side (part_side f) ≡ true → line (sealed_file f) ≡ line f ++ (block (buffer_at f (part_side f)).number (part_length f) 0 no_arrival ∷ [])
unfolding sealed_file
sealed_line f s = young f (part_side f) (part_length f) no_arrival s (part_none f)

-- the oldest leaves first
pub oldest_leaves : (f : File) → line (without_oldest f) ≡ drop 1 (line f)
unfolding without_oldest emptied_at
oldest_leaves f = go (oldest f) (aged f)
  where
    go : (k : Side) → Aged f k → line (with_slot f k Empty false f.block) ≡ drop 1 (line f)
    go Neither (no_block e) = e ∙ sym (ap (drop 1) e)
    go k (old _ n at e rest s x l gone moved) = gone f.block ∙ sym (ap (drop 1) l)
