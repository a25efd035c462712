-- The full blocks of a sound file where the area changes beside them: they lie as they did. Assumes nothing.
use mathlib.Core.Path.{◌≡◌, refl, sym, ap, ◌∙◌}
use mathlib.Core.Logic.{◌≢◌}
use mathlib.Core.Bool.{Bool, true, false, ◌&&◌}
use mathlib.Core.List.{List, [], ◌∷◌, ◌++◌, map}
use Prim.Native.Nat.{ℕ, zero, suc, ◌+◌, ◌-◌, ◌*◌, ◌≤◌}
use native.Mathlib.Omega.{arith}
use borrow.Author.Tests.{ltb-true}
use lib.Dec.{ltb}
use lib.ListN.{take, drop}
use lib.Seq.{take-take, drop-drop}
use Rattle.area.specs.Parts.{part_of}
use Rattle.area.proofs.Walks.{true_not_false, and_left}
use Rattle.area.proofs.Marks.{cond_true}
use Rattle.file.specs.declared.Arrival.{Arrival}
use Rattle.file.specs.declared.Slot.{Slot}
use Rattle.file.specs.declared.Slot.TheVariants.{Empty, Taken, Part, Full}
use Rattle.file.specs.declared.Side.{Side}
use Rattle.file.specs.declared.Side.TheVariants.{Low, High, Neither}
use Rattle.file.specs.declared.File.{File}
use Rattle.file.specs.Slots.{is_empty, is_full}
use Rattle.file.specs.Sides.{buffer_at, slot_at, is_side}
use Rattle.word.specs.CheckWords.{extra}
use Rattle.file_input.specs.Ages.{Block, full_in, full_at, in_order, line}
use Rattle.file_input.proofs.Ages.{block}
use Rattle.state_sound.specs.Files.{is_no_buffer}
use Rattle.state_sound.proofs.FileFacts.{Sound}
use Rattle.state_sound.proofs.FilesKept.{owns, owns_used}
use Rattle.state_sound.proofs.Changes.{numbers}
use Rattle.state_sound.proofs.Inside.{size_fits}
use Rattle.pack_record.specs.Only.{Only}
use Rattle.pack_record.proofs.Written.{other_buffer}
use Rattle.demands_ledger.specs.Ledgers.{word, wrongs}
use Rattle.demands_ledger.specs.Blocks.{block_in, unread_in, blocks_in, unread_of}
use Rattle.demands_ledger.proofs.Told.{All, none, more}
use Rattle.demands_ledger.proofs.Lists.{all_append, map_same}

-- ---- what holds of every full block

all_in : (P : Block → Type 0) (b : ℕ) (x : Slot) → ((n at : ℕ) (e : Arrival) → x ≡ Full n at e → P (block b n at e)) → All P (full_in b x)
all_in P b Empty h = none
all_in P b Taken h = none
all_in P b (Part n) h = none
all_in P b (Full n at e) h = more (h n at e refl) none

pub all_line : (P : Block → Type 0) (f : File)
    → ((k : Side) (n at : ℕ) (e : Arrival) → is_side k ≡ true → slot_at f k ≡ Full n at e → P (block (buffer_at f k).number n at e))
    → All P (line f)
unfolding line
all_line P f h = go f.turned
  where
    low : All P (full_at f Low)
    low = all_in P f.low.number f.low.slot (λ n at e. h Low n at e refl)

    high : All P (full_at f High)
    high = all_in P f.high.number f.high.slot (λ n at e. h High n at e refl)

    go : (t : Bool) → All P (in_order t (full_at f Low) (full_at f High))
    go true = all_append P (full_at f High) (full_at f Low) high low
    go false = all_append P (full_at f Low) (full_at f High) low high

-- ---- a part of a buffer that did not change

take_drop_take : (c n at : ℕ) (xs : List ℕ) → c + n ≤ at → take n (drop c (take at xs)) ≡ take n (drop c xs)
take_drop_take zero n at xs h = take-take n at xs (omega arith)
take_drop_take (suc c) n zero xs h = absurd (omega arith)
take_drop_take (suc c) n (suc at) [] h = refl
take_drop_take (suc c) n (suc at) (x ∷ xs) h = take_drop_take c n at xs (omega arith)

-- c words into a buffer
pub part_of_buffer : (w b c n : ℕ) (xs : List ℕ) → c + n ≤ w → take n (drop c (part_of (b * w) w xs)) ≡ part_of (b * w + c) n xs
part_of_buffer w b c n xs h = take_drop_take c n w (drop (b * w) xs) h ∙ ap (take n) (drop-drop c (b * w) xs)

pub same_part : (w b c n : ℕ) (xs zs : List ℕ) → c + n ≤ w → part_of (b * w) w zs ≡ part_of (b * w) w xs
    → part_of (b * w + c) n zs ≡ part_of (b * w + c) n xs
same_part w b c n xs zs h e = sym (part_of_buffer w b c n zs h) ∙ ap (λ (l : List ℕ). take n (drop c l)) e ∙ part_of_buffer w b c n xs h

pub same_first : (w b n : ℕ) (xs zs : List ℕ) → n ≤ w → part_of (b * w) w zs ≡ part_of (b * w) w xs → part_of (b * w) n zs ≡ part_of (b * w) n xs
same_first w b n xs zs h e = sym (take-take n w (drop (b * w) zs) h) ∙ ap (take n) e ∙ take-take n w (drop (b * w) xs) h

-- ---- the blocks of a file

module _ (m w : ℕ) (f : File) (S : Sound m w f) where
  module _ (xs zs : List ℕ) (same : (k : Side) → owns f k ≡ true → is_full (slot_at f k) ≡ true → part_of ((buffer_at f k).number * w) w zs ≡ part_of
      ((buffer_at f k).number * w) w xs) where
    there : (k : Side) (n at : ℕ) (e : Arrival) → is_side k ≡ true → slot_at f k ≡ Full n at e
        → part_of ((buffer_at f k).number * w) w zs ≡ part_of ((buffer_at f k).number * w) w xs
    there k n at e s x = same k (owns_used m w f k S s (ap is_empty x)) (ap is_full x)

    pub blocks_same : blocks_in w f zs ≡ blocks_in w f xs
    blocks_same =
        map_same (block_in w (extra f.sequence f.check) zs) (block_in w (extra f.sequence f.check) xs) (line f)
        (all_line _ f (λ k n at e s x.
        let N = numbers m w f k n at e S x in
        same_first w (buffer_at f k).number (n + extra f.sequence f.check) xs zs (omega (arith, size_fits m w f S, N.fit))
        (there k n at e s x)))

    pub unread_same : unread_of w f zs ≡ unread_of w f xs
    unread_same =
        map_same (unread_in w zs) (unread_in w xs) (line f)
        (all_line _ f (λ k n at e s x.
        let N = numbers m w f k n at e S x in
        ap (λ (l : List ℕ). wrongs e.failed e.check ++ map word l)
        (same_part w (buffer_at f k).number at (n - at) xs zs (omega (arith, size_fits m w f S, N.fit, N.place)) (there k n at e s x))))

  -- the two buffers of a file are two
  sides_apart : f.double ≡ true → f.low.number ≢ f.high.number
  sides_apart d e =
      let l = ltb-true f.low.number f.high.number (and_left (ltb f.low.number f.high.number) _
      (sym (cond_true (ltb f.low.number f.high.number && ltb f.high.number m) (is_no_buffer f.high) d) ∙ S.second)) in
      omega (arith, l)

  -- a change in one of its buffers, which has no full block, leaves the other
  pub beside : (j : Side) (xs zs : List ℕ) → owns f j ≡ true → is_full (slot_at f j) ≡ false → Only ((buffer_at f j).number * w) w xs zs
      → (k : Side) → owns f k ≡ true → is_full (slot_at f k) ≡ true → part_of ((buffer_at f k).number * w) w zs ≡ part_of ((buffer_at f k).number * w) w xs
  beside Low xs zs o n O Low p full = true_not_false full n
  beside Low xs zs o n O High p full = other_buffer w f.low.number f.high.number xs zs O (λ e. sides_apart p (sym e))
  beside Low xs zs o n O Neither p full = true_not_false p refl
  beside High xs zs o n O Low p full = other_buffer w f.high.number f.low.number xs zs O (sides_apart o)
  beside High xs zs o n O High p full = true_not_false full n
  beside High xs zs o n O Neither p full = true_not_false p refl
  beside Neither xs zs o n O k p full = true_not_false o refl
