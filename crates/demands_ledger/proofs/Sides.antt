-- A file with something else in one of its buffers: what stays, and where its part-filled block lies. Assumes nothing.
use mathlib.Core.Path.{◌≡◌, refl, sym, ap, ap₂, ◌∙◌}
use mathlib.Core.Bool.{Bool, true, false, cond}
use mathlib.Core.List.{List, []}
use Prim.Native.Nat.{ℕ, ◌+◌, ◌*◌}
use native.Mathlib.Omega.{arith}
use lib.Dec.{ltb}
use Rattle.area.specs.Parts.{part_of}
use Rattle.area.proofs.Walks.{true_not_false}
use Rattle.file.proofs.SlotLaws.{empty_words}
use Rattle.file.specs.declared.Arrival.{Arrival}
use Rattle.file.specs.declared.Slot.{Slot}
use Rattle.file.specs.declared.Slot.TheVariants.{Empty, Taken, Part, Full}
use Rattle.file.specs.declared.Side.{Side}
use Rattle.file.specs.declared.Side.TheVariants.{Low, High, Neither}
use Rattle.file.specs.declared.File.{File}
use Rattle.file.specs.Slots.{is_empty, is_part, is_full, part_words}
use Rattle.file.specs.Sides.{buffer_at, slot_at, start_at, is_side, lower, empty_side, part_side}
use Rattle.file.specs.Fills.{with_slot}
use Rattle.file_output.specs.Puts.{put_side}
use Rattle.file_output.specs.Parts.{part_start, part_length, is_complete}
use Rattle.file_input.specs.Ages.{full_in, full_at}
use Rattle.file.proofs.Which.{none_side, empty_there, part_there}
use Rattle.state_sound.proofs.FileFacts.{Sound}
use Rattle.state_sound.proofs.FilesKept.{other, owns, slot_fits_lem}
use Rattle.state_sound.proofs.Changes.{own_part, part_numbers}
use Rattle.state_sound.proofs.Inside.{size_fits}
use Rattle.demands_ledger.specs.Blocks.{part_in}
use Rattle.demands_ledger.proofs.Lines.{same_first}

-- ---- what stays

pub record Same (f g : File) : Type 0 where
  pub opened : g.opened ≡ f.opened
  pub channel : g.channel ≡ f.channel
  pub unit : g.unit ≡ f.unit
  pub output : g.output ≡ f.output
  pub sequence : g.sequence ≡ f.sequence
  pub check : g.check ≡ f.check
  pub size : g.size ≡ f.size
  pub rlen : g.rlen ≡ f.rlen

pub same_self : (f : File) → Same f f
same_self f =
    record { opened = refl; channel = refl; unit = refl; output = refl; sequence = refl; check = refl; size = refl; rlen = refl }

pub same_then : (f g h : File) → Same f g → Same g h → Same f h
same_then f g h A B = record {
  opened = B.opened ∙ A.opened;
  channel = B.channel ∙ A.channel;
  unit = B.unit ∙ A.unit;
  output = B.output ∙ A.output;
  sequence = B.sequence ∙ A.sequence;
  check = B.check ∙ A.check;
  size = B.size ∙ A.size;
  rlen = B.rlen ∙ A.rlen;
}

pub slot_same : (f : File) (k : Side) (x : Slot) (t : Bool) (b : ℕ) → Same f (with_slot f k x t b)
slot_same f Low x t b =
    record { opened = refl; channel = refl; unit = refl; output = refl; sequence = refl; check = refl; size = refl; rlen = refl }
slot_same f High x t b =
    record { opened = refl; channel = refl; unit = refl; output = refl; sequence = refl; check = refl; size = refl; rlen = refl }
slot_same f Neither x t b = same_self f

pub slot_block : (f : File) (k : Side) (x : Slot) (t : Bool) (b : ℕ) → is_side k ≡ true → (with_slot f k x t b).block ≡ b
slot_block f Low x t b s = refl
slot_block f High x t b s = refl
slot_block f Neither x t b s = true_not_false s refl

pub block_stays : (f : File) (k : Side) (x : Slot) (t : Bool) → (with_slot f k x t f.block).block ≡ f.block
block_stays f Low x t = refl
block_stays f High x t = refl
block_stays f Neither x t = refl

-- whether a mark was read
pub mark_stays : (f : File) (k : Side) (x : Slot) (t : Bool) (b : ℕ) → (with_slot f k x t b).marked ≡ f.marked
mark_stays f Low x t b = refl
mark_stays f High x t b = refl
mark_stays f Neither x t b = refl

-- ---- a buffer that has no full block

pub no_full : (f : File) (k : Side) → is_full (slot_at f k) ≡ false → full_at f k ≡ []
no_full f k = go (buffer_at f k).number (slot_at f k)
  where
    go : (b : ℕ) (x : Slot) → is_full x ≡ false → full_in b x ≡ []
    go b Empty e = refl
    go b Taken e = refl
    go b (Part n) e = refl
    go b (Full n at err) e = true_not_false refl e

part_not_full : (x : Slot) → is_part x ≡ true → is_full x ≡ false
part_not_full Empty e = refl
part_not_full Taken e = refl
part_not_full (Part n) e = refl
part_not_full (Full n at err) e = true_not_false e refl

empty_not_full : (x : Slot) → is_empty x ≡ true → is_full x ≡ false
empty_not_full Empty e = refl
empty_not_full Taken e = refl
empty_not_full (Part n) e = refl
empty_not_full (Full n at err) e = true_not_false e refl

pub part_side_free : (f : File) → is_side (part_side f) ≡ true → is_full (slot_at f (part_side f)) ≡ false
part_side_free f s = part_not_full (slot_at f (part_side f)) (part_there f s)

pub put_side_free : (f : File) → is_side (put_side f) ≡ true → is_full (slot_at f (put_side f)) ≡ false
unfolding put_side
put_side_free f = go (is_side (part_side f)) refl
  where
    go : (t : Bool) → is_side (part_side f) ≡ t → is_side (cond t (part_side f) (empty_side f)) ≡ true
        → is_full (slot_at f (cond t (part_side f) (empty_side f))) ≡ false
    go true p s = part_side_free f s
    go false p s = empty_not_full (slot_at f (empty_side f)) (empty_there f s)

-- ---- the part-filled block

module _ (f : File) (k : Side) (s : is_side k ≡ true) (alone : is_part (other f k) ≡ false) where
  part_now : (n : ℕ) (b : ℕ) → part_side (with_slot f k (Part n) false b) ≡ k
  unfolding part_side
  part_now n b = go k s alone
    where
      go : (k : Side) → is_side k ≡ true → is_part (other f k) ≡ false → part_side (with_slot f k (Part n) false b) ≡ k
      go Low s a = refl
      go High s a = ap (λ (t : Bool). lower t true) a
      go Neither s a = true_not_false s refl

  start_now : (w n b : ℕ) → part_start w (with_slot f k (Part n) false b) ≡ start_at f w k
  unfolding part_start
  start_now w n b = ap (start_at (with_slot f k (Part n) false b) w) (part_now n b) ∙ go k
    where
      go : (k : Side) → start_at (with_slot f k (Part n) false b) w k ≡ start_at f w k
      go Low = refl
      go High = refl
      go Neither = refl

  length_now : (n b : ℕ) → part_length (with_slot f k (Part n) false b) ≡ n
  unfolding part_length
  length_now n b = ap (λ (j : Side). part_words (slot_at (with_slot f k (Part n) false b) j)) (part_now n b) ∙ go k s
    where
      go : (k : Side) → is_side k ≡ true → part_words (slot_at (with_slot f k (Part n) false b) k) ≡ n
      go Low s = refl
      go High s = refl
      go Neither s = true_not_false s refl

  -- n words in buffer k
  pub part_held : (w n : ℕ) (b : ℕ) (zs : List ℕ) → part_in w (with_slot f k (Part n) false b) zs ≡ part_of (start_at f w k) n zs
  part_held w n b zs = ap₂ (λ (a c : ℕ). part_of a c zs) (start_now w n b) (length_now n b)

  pub complete_when : (n b : ℕ) → is_complete (with_slot f k (Part n) false b) ≡ ltb f.size (n + f.rlen)
  unfolding is_complete
  complete_when n b = ap (λ (j : ℕ). ltb (with_slot f k (Part n) false b).size (j + (with_slot f k (Part n) false b).rlen)) (length_now n b) ∙ go k
    where
      go : (k : Side) → ltb (with_slot f k (Part n) false b).size (n + (with_slot f k (Part n) false b).rlen) ≡ ltb f.size (n + f.rlen)
      go Low = refl
      go High = refl
      go Neither = refl

  -- a full block in buffer k: there is none
  pub part_gone : (w n at : ℕ) (e : Arrival) (t : Bool) (b : ℕ) (zs : List ℕ) → part_in w (with_slot f k (Full n at e) t b) zs ≡ []
  unfolding part_length part_side
  part_gone w n at e t b zs = ap (λ (j : ℕ). part_of (part_start w (with_slot f k (Full n at e) t b)) j zs) (go k s alone)
    where
      go : (k : Side) → is_side k ≡ true → is_part (other f k) ≡ false → part_length (with_slot f k (Full n at e) t b) ≡ 0
      go Low s a = ap (λ (p : Bool). part_words (slot_at (with_slot f Low (Full n at e) t b) (lower false p))) a
      go High s a = ap (λ (p : Bool). part_words (slot_at (with_slot f High (Full n at e) t b) (lower p false))) a
      go Neither s a = true_not_false s refl

-- the words of the part-filled block are those that the buffer of a put holds
pub part_had : (w : ℕ) (f : File) (xs : List ℕ) → is_side (put_side f) ≡ true
    → part_in w f xs ≡ part_of (start_at f w (put_side f)) (part_words (slot_at f (put_side f))) xs
unfolding part_start part_length put_side
part_had w f xs = go (is_side (part_side f)) refl
  where
    go : (t : Bool) → is_side (part_side f) ≡ t → is_side (cond t (part_side f) (empty_side f)) ≡ true
        → part_of (start_at f w (part_side f)) (part_words (slot_at f (part_side f))) xs
        ≡ part_of (start_at f w (cond t (part_side f) (empty_side f))) (part_words (slot_at f (cond t (part_side f) (empty_side f)))) xs
    go true p s = refl
    go false p s =
        ap (λ (k : Side). part_of (start_at f w k) (part_words (slot_at f k)) xs) (none_side (part_side f) p)
        ∙ sym (ap (λ (n : ℕ). part_of (start_at f w (empty_side f)) n xs) (empty_words (slot_at f (empty_side f)) (empty_there f s)))

-- a change in a buffer that is part-filled neither before nor after leaves the part-filled block
pub part_stays : (w : ℕ) (f : File) (k : Side) (x : Slot) (t : Bool) (b : ℕ) (zs : List ℕ) → is_part (slot_at f k) ≡ false → is_part x ≡ false
    → part_in w (with_slot f k x t b) zs ≡ part_in w f zs
unfolding part_start part_length part_side
part_stays w f Low x t b zs e d =
    ap (λ (p : Bool). of (with_slot f Low x t b) (lower p (is_part f.high.slot))) d ∙ go (is_part f.high.slot) ∙ sym
    (ap (λ (p : Bool). of f (lower p (is_part f.high.slot))) e)
  where
    of : File → Side → List ℕ
    of g j = part_of (start_at g w j) (part_words (slot_at g j)) zs

    go : (p : Bool) → of (with_slot f Low x t b) (lower false p) ≡ of f (lower false p)
    go true = refl
    go false = refl
part_stays w f High x t b zs e d =
    ap (λ (p : Bool). of (with_slot f High x t b) (lower (is_part f.low.slot) p)) d ∙ go (is_part f.low.slot) ∙ sym
    (ap (λ (p : Bool). of f (lower (is_part f.low.slot) p)) e)
  where
    of : File → Side → List ℕ
    of g j = part_of (start_at g w j) (part_words (slot_at g j)) zs

    go : (p : Bool) → of (with_slot f High x t b) (lower p false) ≡ of f (lower p false)
    go true = refl
    go false = refl
part_stays w f Neither x t b zs e d = refl

-- the part-filled block where its buffer did not change
pub part_same : (m w : ℕ) (f : File) → Sound m w f → (xs zs : List ℕ)
    → ((k : Side) → owns f k ≡ true → part_of ((buffer_at f k).number * w) w zs ≡ part_of ((buffer_at f k).number * w) w xs) → part_in w f zs ≡ part_in w f xs
unfolding part_start part_length
part_same m w f S xs zs same = go (is_side (part_side f)) refl
  where
    go : (t : Bool) → is_side (part_side f) ≡ t → part_in w f zs ≡ part_in w f xs
    go true s =
        let N = part_numbers f.sequence f.check f.output f.size f.rlen (slot_at f (part_side f)) (slot_fits_lem m w f (part_side f) S) (part_there f s) in
        same_first w (buffer_at f (part_side f)).number (part_words (slot_at f (part_side f))) xs zs (omega (arith, size_fits m w f S, N.1))
        (same (part_side f) (own_part m w f S s))
    go false s =
        ap (λ (k : Side). part_of (start_at f w k) (part_words (slot_at f k)) zs) (none_side (part_side f) s) ∙ sym
        (ap (λ (k : Side). part_of (start_at f w k) (part_words (slot_at f k)) xs) (none_side (part_side f) s))
