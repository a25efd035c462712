-- Reading is exact: any bytes are the records that are given, up to the ignored bits, and then the end or the one fault; and bytes that are
-- records are given as those. What is written is read back. Assumes nothing.
use mathlib.Core.Path.{◌≡◌, refl, sym, ap, ap₂, ◌∙◌, subst}
use mathlib.Core.Bool.{Bool, true, false, not, ◌&&◌}
use mathlib.Core.List.{List, [], ◌∷◌, ◌++◌, append_assoc, append-nil}
use Prim.Native.Nat.{ℕ, zero, suc, ◌+◌, ◌-◌, ◌*◌, ◌/◌, ◌^◌, ◌≤◌, ◌<◌}
use native.Mathlib.Omega.{arith}
use borrow.Author.Tests.{ltb-true, leb-true, eq-eqb, le-leb, eqb-true}
use lib.Dec.{eqb, leb}
use lib.ListN.{length, take, drop, length-append, length-drop, take-append-drop}
use lib.Seq.{drop-drop, drop_at}
use Rattle.area.specs.Lists.{all_of}
use Rattle.area.specs.Parts.{is_word}
use Rattle.area.proofs.Walks.{and_left, and_right, true_not_false}
use Rattle.tape.specs.declared.Next.{Next}
use Rattle.tape.specs.declared.Next.TheVariants.{More, End, Mark, Block, Fault}
use Rattle.tape.specs.Lengths.{length_at, length_bytes, padded, record_size}
use Rattle.tape.specs.Characters.{words_from, data_bytes}
use Rattle.tape.specs.Faults.{differ_at, fault_of}
use Rattle.tape.specs.Records.{record_of, record_at, next_in}
use Rattle.tape.specs.Reels.{Piece, Words, TapeMark, Ending, Open, Ended, Faulty, Reel, onto, read_next, read_on, read_all, reel_of}
use Rattle.tape.specs.Images.{is_byte, Holds, IsImage, nothing, Stops, IsReel, is_piece, image_bytes}
use Rattle.tape.specs.Images as images
use Rattle.tape.specs.Writing.{block_bytes, is_sized}
use Rattle.tape.proofs.Laws.Trips.{length_first, bytes_back, words_from_lem, holds_length, holds_read, read_holds, data_holds}
use Rattle.tape.proofs.Laws.Lengths.{length_from}
use Rattle.tape.proofs.Laws.Numbers.{fault_none}
use Rattle.tape.proofs.Laws.Nexts.{record_end, record_mark, record_block}
use Rattle.tape.proofs.Laws.Seen.{Seen, end, mark, block, fault, seen_record}
use Rattle.tape.proofs.Laws.Windows.{enough}
use Rattle.tape.proofs.Laws.Words.{length_words}
use Rattle.tape.proofs.Laws.Writes.{length_lengths}

-- ---- bytes that are records are given as those

-- the record of n words that bytes hold
module _ (held bs : List ℕ) (n at : ℕ) (some : 1 ≤ n) (most : n ≤ 1024) (long : length held ≡ 6 * n) where
  abbrev xs : List ℕ
  xs = length_bytes (6 * n) ++ (held ++ (length_bytes (6 * n) ++ bs))

  long_xs : length xs ≡ 6 * n + 8 + length bs
  long_xs =
      length-append (length_bytes (6 * n)) (held ++ (length_bytes (6 * n) ++ bs)) ∙ omega (
        arith,
        length-append held (length_bytes (6 * n) ++ bs),
        length-append (length_bytes (6 * n)) bs,
        length_lengths (6 * n),
      )

  first_is : length_at xs 0 ≡ 6 * n
  first_is = length_first (6 * n) (held ++ (length_bytes (6 * n) ++ bs)) (omega arith)

  after_data : drop (4 + padded (6 * n)) xs ≡ length_bytes (6 * n) ++ bs
  after_data =
      let e : length (length_bytes (6 * n) ++ held) ≡ 4 + padded (6 * n) =
      length-append (length_bytes (6 * n)) held ∙ omega (arith, length_lengths (6 * n)) in
      ap (drop (4 + padded (6 * n))) (sym (append_assoc (length_bytes (6 * n)) held (length_bytes (6 * n) ++ bs)))
      ∙ drop_at (length_bytes (6 * n) ++ held) (length_bytes (6 * n) ++ bs) (4 + padded (6 * n)) e

  second_is : length_at xs (4 + padded (6 * n)) ≡ 6 * n
  second_is = sym (length_from xs (4 + padded (6 * n))) ∙ ap (λ (l : List ℕ). length_at l 0) after_data ∙ length_first (6 * n) bs (omega arith)

  differ_is : differ_at xs (6 * n) ≡ false
  differ_is =
      let k : record_size (6 * n) ≤ length xs = omega (arith, long_xs) in
      rw (le-leb (record_size (6 * n)) (length xs) k, eq-eqb (length_at xs (4 + padded (6 * n))) (6 * n) second_is)

  block_is : record_at xs at ≡ Block (at + 4) n (at + (6 * n + 8))
  unfolding record_at
  block_is =
      let f : fault_of (length xs) (6 * n) (differ_at xs (6 * n)) ≡ 0 =
      fault_none (length xs) (6 * n) (differ_at xs (6 * n)) (omega arith) (omega arith) (omega (arith, long_xs)) differ_is in
      let size : record_size (6 * n) ≡ 6 * n + 8 = omega arith in
      let words : 6 * n / 6 ≡ n = omega arith in
      ap (λ (k : ℕ). record_of at (length xs) k (differ_at xs k)) first_is
      ∙ record_block at (length xs) (6 * n) (differ_at xs (6 * n)) (omega (arith, long_xs)) (λ q. omega arith) f
      ∙ ap₂ (λ (w s : ℕ). Block (at + 4) w (at + s)) words size

  rest_is : (k : ℕ) → k ≡ 6 * n + 8 → drop k xs ≡ bs
  unfolding length_bytes
  rest_is k e =
      let p : 4 + padded (6 * n) + 4 ≡ k = omega arith in
      ap (λ (j : ℕ). drop j xs) (sym p) ∙ sym (drop-drop 4 (4 + padded (6 * n)) xs) ∙ ap (drop 4) after_data

  words_are : (k : ℕ) → k ≡ 4 → (ws : List ℕ) → length ws ≡ n → Holds held ws → words_from xs k n ≡ ws
  unfolding length_bytes
  words_are k e ws l h =
      ap (λ (j : ℕ). words_from xs j n) e ∙ sym (words_from_lem xs 4 0 4 n refl)
      ∙ ap (words_from (held ++ (length_bytes (6 * n) ++ bs)) 0) (sym l) ∙ holds_read (length_bytes (6 * n) ++ bs) h

abbrev pub finished : List Piece → ℕ → Reel
finished ps place = record { pieces = ps; ending = Ended; place = place; left = [] }

next_end : (at : ℕ) → record_at [] at ≡ End
unfolding record_at
next_end at = record_end at 0 _ _ refl

next_mark : (bs : List ℕ) (at : ℕ) → record_at (length_bytes 0 ++ bs) at ≡ Mark (at + 4)
unfolding record_at
next_mark bs at =
    let long : length (length_bytes 0 ++ bs) ≡ 4 + length bs = length-append (length_bytes 0) bs ∙ omega (arith, length_lengths 0) in
    record_mark at (length (length_bytes 0 ++ bs)) _ _ (omega arith) (length_first 0 bs (omega arith))

rest_mark : (bs : List ℕ) (k : ℕ) → k ≡ 4 → drop k (length_bytes 0 ++ bs) ≡ bs
rest_mark bs k e = drop_at (length_bytes 0) bs k (length_lengths 0 ∙ sym e)

-- records before what else is read
abbrev before : List Piece → Reel → Reel
before ps r = record { pieces = ps ++ r.pieces; ending = r.ending; place = r.place; left = r.left }

image_then : (back : List ℕ) (k : ℕ) (xs : List ℕ) (rs : List Piece) (at : ℕ) → IsImage xs rs → length (xs ++ back) < k
    → read_on k true (xs ++ back) at ≡ before rs (read_all true back (at + length xs))
unfolding read_on read_next next_in onto read_all
image_then back zero xs rs at i h = absurd (omega arith)
image_then back (suc k) xs rs at nothing h =
    let z : at ≡ at + 0 = omega arith in
    enough true (suc k) (suc (length back)) back at h (omega arith) ∙ ap (read_all true back) z
image_then back (suc k) xs rs at (images.mark {bs} {ps} i) h =
    let cs = bs ++ back in
    let long : length (length_bytes 0 ++ bs) ≡ 4 + length bs = length-append (length_bytes 0) bs ∙ omega (arith, length_lengths 0) in
    let all : length ((length_bytes 0 ++ bs) ++ back) ≡ 4 + length cs = length-append (length_bytes 0 ++ bs) back ∙ omega (arith, length-append bs back) in
    let place : at + 4 + length bs ≡ at + length (length_bytes 0 ++ bs) = omega arith in
    ap (λ (l : List ℕ). read_on (suc k) true l at) (append_assoc (length_bytes 0) bs back)
    ∙ ap (read_next (read_on k true) (length_bytes 0 ++ cs) at) (next_mark cs at)
    ∙ ap (λ (l : List ℕ). onto TapeMark (read_on k true l (at + 4))) (rest_mark cs (at + 4 - at) (omega arith))
    ∙ ap (onto TapeMark) (image_then back k bs ps (at + 4) i (omega arith)) ∙ ap (λ (p : ℕ). before (TapeMark ∷ ps) (read_all true back p)) place
image_then back (suc k) xs rs at (images.block {bs} {ps} held ws some most holds i) h =
    let n = length ws in
    let l = length_bytes (6 * n) in
    let cs = bs ++ back in
    let zs = l ++ (held ++ (l ++ bs)) in
    let full : length zs ≡ 6 * n + 8 + length bs = long_xs held bs n at some most (holds_length holds) in
    let all : length (zs ++ back) ≡ 6 * n + 8 + length cs = length-append zs back ∙ omega (arith, length-append bs back) in
    let place : at + (6 * n + 8) + length bs ≡ at + length zs = omega arith in
    let joins : zs ++ back ≡ l ++ (held ++ (l ++ cs)) =
    append_assoc l (held ++ (l ++ bs)) back ∙ ap (λ (x : List ℕ). l ++ x) (append_assoc held (l ++ bs) back ∙ ap (λ (x : List ℕ). held ++ x) (append_assoc l bs back)) in
    ap (λ (x : List ℕ). read_on (suc k) true x at) joins
    ∙ ap (read_next (read_on k true) (l ++ (held ++ (l ++ cs))) at) (block_is held cs n at some most (holds_length holds))
    ∙ ap₂ (λ (vs x : List ℕ). onto (Words vs) (read_on k true x (at + (6 * n + 8))))
    (words_are held cs n at some most (holds_length holds) (at + 4 - at) (omega arith) ws refl holds)
    (rest_is held cs n at some most (holds_length holds) (at + (6 * n + 8) - at) (omega arith))
    ∙ ap (onto (Words ws)) (image_then back k bs ps (at + (6 * n + 8)) i (omega arith)) ∙ ap (λ (p : ℕ). before (Words ws ∷ ps) (read_all true back p)) place

-- after its records a reel has what stands there
stop_read : (back : List ℕ) (at : ℕ) (e : Ending) → Stops back at e → read_all true back at ≡ record { pieces = []; ending = e; place = at; left = [] }
unfolding read_all read_on read_next next_in
stop_read back at Open none = elim none [ ]
stop_read back at Ended (images.end z) = ap (λ (l : List ℕ). read_all true l at) z ∙ ap (read_next (read_on 0 true) [] at) (next_end at)
stop_read back at (Faulty n) (images.fault m e) = ap (read_next (read_on (length back) true) back at) e

nil_right : (ps : List Piece) → ps ++ [] ≡ ps
nil_right [] = refl
nil_right (p ∷ ps) = ap (λ (l : List Piece). p ∷ l) (nil_right ps)

-- the reel of bytes is the only one: whatever is their records and then the end or a fault is what is read
pub reel_only : (bs : List ℕ) (r : Reel) → IsReel bs 0 r → r.left ≡ [] → reel_of bs ≡ r
unfolding reel_of read_all
reel_only bs r i none =
    let z : 0 + length i.front ≡ r.place = sym i.place in
    ap reel_of i.split ∙ image_then i.back (suc (length (i.front ++ i.back))) i.front r.pieces 0 i.records (omega arith)
    ∙ ap (λ (p : ℕ). before r.pieces (read_all true i.back p)) z
    ∙ ap (before r.pieces) (stop_read i.back r.place r.ending i.stops)
    ∙ ap (λ (ps : List Piece). record { pieces = ps; ending = r.ending; place = r.place; left = [] }) (nil_right r.pieces)
    ∙ ap (λ (l : List ℕ). record { pieces = r.pieces; ending = r.ending; place = r.place; left = l }) (sym none)

-- bytes that are records, up to the ignored bits, are read as those records, to the end
pub image_gives : (bs : List ℕ) (ps : List Piece) → IsImage bs ps → reel_of bs ≡ finished ps (length bs)
image_gives bs ps i =
    reel_only bs (finished ps (length bs))
    (record { front = bs; back = []; split = sym (append-nil bs); records = i; place = omega arith; stops = images.end refl }) refl

-- ---- what is written is read back

image_written : (bcd : Bool) (ps : List Piece) → all_of is_piece ps ≡ true → IsImage (image_bytes bcd ps) ps
unfolding all_of image_bytes block_bytes
image_written bcd [] h = nothing
image_written bcd (TapeMark ∷ ps) h = images.mark (image_written bcd ps h)
image_written bcd (Words ws ∷ ps) h =
    let good = and_left (all_of is_word ws && is_sized (length ws)) _ h in
    let sized = and_right (all_of is_word ws) _ good in
    let l = length_bytes (6 * length ws) in
    let d = data_bytes bcd ws in
    subst (λ (xs : List ℕ). IsImage xs (Words ws ∷ ps))
    (sym (append_assoc l (d ++ l) (image_bytes bcd ps) ∙ ap (λ (x : List ℕ). l ++ x) (append_assoc d l (image_bytes bcd ps))))
    (images.block d ws (leb-true _ _ (and_left (leb 1 (length ws)) _ sized)) (leb-true _ _ (and_right (leb 1 (length ws)) _ sized))
    (data_holds bcd ws (and_left (all_of is_word ws) _ good)) (image_written bcd ps (and_right (all_of is_word ws && is_sized (length ws)) _ h)))

-- "What we write, we read back as the same blocks and marks", any list of them, in binary and in BCD
pub written_read : (bcd : Bool) (ps : List Piece) → all_of is_piece ps ≡ true → reel_of (image_bytes bcd ps) ≡ finished ps (length (image_bytes bcd ps))
written_read bcd ps h = image_gives (image_bytes bcd ps) ps (image_written bcd ps h)

-- ---- any bytes are the records that are given, and then the end or the one fault

bytes_drop : (k : ℕ) (bs : List ℕ) → all_of is_byte bs ≡ true → all_of is_byte (drop k bs) ≡ true
unfolding all_of
bytes_drop zero bs h = h
bytes_drop (suc k) [] h = refl
bytes_drop (suc k) (b ∷ bs) h = bytes_drop k bs (and_right (is_byte b) _ h)

-- four bytes are the bytes of the length that they are
first_four : (bs : List ℕ) → 4 ≤ length bs → all_of is_byte bs ≡ true → take 4 bs ≡ length_bytes (length_at bs 0)
unfolding all_of
first_four [] h g = absurd (omega arith)
first_four (a ∷ []) h g = absurd (omega arith)
first_four (a ∷ b ∷ []) h g = absurd (omega arith)
first_four (a ∷ b ∷ c ∷ []) h g = absurd (omega arith)
first_four (a ∷ b ∷ c ∷ d ∷ bs) h g =
    let g1 = and_right (is_byte a) _ g in
    let g2 = and_right (is_byte b) _ g1 in
    let g3 = and_right (is_byte c) _ g2 in
    sym (bytes_back a b c d (ltb-true a (2 ^ 8) (and_left _ _ g)) (ltb-true b (2 ^ 8) (and_left _ _ g1)) (ltb-true c (2 ^ 8) (and_left _ _ g2)) (ltb-true d (2 ^ 8) (and_left _ _ g3)))

no_bytes : (bs : List ℕ) → length bs ≡ 0 → bs ≡ []
no_bytes [] e = refl
no_bytes (b ∷ bs) e = absurd (omega arith)

-- a second length that does not differ
same_second : (bs : List ℕ) (n : ℕ) → record_size n ≤ length bs → differ_at bs n ≡ false → length_at bs (4 + padded n) ≡ n
same_second bs n h e = go (eqb (length_at bs (4 + padded n)) n) refl
    (sym (ap (λ (b : Bool). b && not (eqb (length_at bs (4 + padded n)) n)) (le-leb (record_size n) (length bs) h)) ∙ e)
  where
    go : (b : Bool) → eqb (length_at bs (4 + padded n)) n ≡ b → not b ≡ false → length_at bs (4 + padded n) ≡ n
    go true p q = eqb-true (length_at bs (4 + padded n)) n p
    go false p q = true_not_false refl q

-- the bytes of a block, in their four parts
module _ (bs : List ℕ) (n : ℕ) (good : all_of is_byte bs ≡ true) (whole : 6 * n + 8 ≤ length bs) (first : length_at bs 0 ≡ 6 * n) (same : differ_at bs (6 * n) ≡ false) where
  abbrev held : List ℕ
  held = take (6 * n) (drop 4 bs)

  first_part : take 4 bs ≡ length_bytes (6 * n)
  first_part = first_four bs (omega arith) good ∙ ap length_bytes first

  last_part : take 4 (drop (4 + 6 * n) bs) ≡ length_bytes (6 * n)
  last_part =
      let p : 4 + padded (6 * n) ≡ 4 + 6 * n = omega arith in
      first_four (drop (4 + 6 * n) bs) (omega (arith, length-drop (4 + 6 * n) bs)) (bytes_drop (4 + 6 * n) bs good)
      ∙ ap length_bytes (length_from bs (4 + 6 * n) ∙ ap (length_at bs) (sym p) ∙ same_second bs (6 * n) (omega arith) same)

  four_parts : bs ≡ length_bytes (6 * n) ++ (held ++ (length_bytes (6 * n) ++ drop (6 * n + 8) bs))
  four_parts =
      let s : 4 + 6 * n + 4 ≡ 6 * n + 8 = omega arith in
      sym (take-append-drop 4 bs) ∙ ap₂ (λ (x y : List ℕ). x ++ y) first_part
      (sym (take-append-drop (6 * n) (drop 4 bs))
      ∙ ap (λ (x : List ℕ). held ++ x)
      (drop-drop (6 * n) 4 bs ∙ sym (take-append-drop 4 (drop (4 + 6 * n) bs))
      ∙ ap₂ (λ (x y : List ℕ). x ++ y) last_part (drop-drop 4 (4 + 6 * n) bs ∙ ap (λ (k : ℕ). drop k bs) s)))

-- a record more in front of a reel
module _ (bs rest : List ℕ) (at next : ℕ) (r : Reel) (p : Piece) (bytes : List ℕ) where
  more_front : bs ≡ bytes ++ rest → next ≡ at + length bytes → ((front : List ℕ) → IsImage front r.pieces → IsImage (bytes ++ front) (p ∷ r.pieces))
      → IsReel rest next r → IsReel bs at (onto p r)
  unfolding onto
  more_front e n build i =
      record {
        front = bytes ++ i.front;
        back = i.back;
        split = e ∙ ap (λ (l : List ℕ). bytes ++ l) i.split ∙ sym (append_assoc bytes i.front i.back);
        records = build i.front i.records;
        place = i.place ∙ ap (λ (k : ℕ). k + length i.front) n ∙ omega (arith, length-append bytes i.front);
        stops = i.stops;
      }

-- the record of a block in front of an image
block_front : (held ws : List ℕ) (n : ℕ) → length ws ≡ n → 1 ≤ n → n ≤ 1024 → Holds held ws → (bs : List ℕ) (ps : List Piece) → IsImage bs ps
    → IsImage ((length_bytes (6 * n) ++ (held ++ length_bytes (6 * n))) ++ bs) (Words ws ∷ ps)
block_front held ws n e some most h bs ps i =
    let l = length_bytes (6 * n) in
    subst (λ (xs : List ℕ). IsImage xs (Words ws ∷ ps))
    (ap (λ (k : ℕ). length_bytes (6 * k) ++ (held ++ (length_bytes (6 * k) ++ bs))) e
    ∙ sym (append_assoc l (held ++ l) bs ∙ ap (λ (x : List ℕ). l ++ x) (append_assoc held l bs)))
    (images.block held ws (omega arith) (omega arith) h i)

nothing_read : (bs : List ℕ) (at : ℕ) (e : Ending) → Stops bs at e → IsReel bs at (record { pieces = []; ending = e; place = at; left = [] })
nothing_read bs at e s = record { front = []; back = bs; split = refl; records = nothing; place = omega arith; stops = s }

read_reel : (k : ℕ) (bs : List ℕ) (at : ℕ) → all_of is_byte bs ≡ true → length bs < k → IsReel bs at (read_on k true bs at)
unfolding read_on read_next next_in
read_reel zero bs at good h = absurd (omega arith)
read_reel (suc k) bs at good h = go (λ n some room. read_reel k (drop n bs)) (record_at bs at) (seen_record bs at)
  where
    Rest : Type 0
    Rest = (n : ℕ) → 1 ≤ n → n ≤ length bs → (place : ℕ) → all_of is_byte (drop n bs) ≡ true → length (drop n bs) < k → IsReel (drop n bs) place (read_on k true (drop n bs) place)

    go : Rest → (x : Next) → Seen bs at x → IsReel bs at (read_next (read_on k true) bs at x)
    go rec More none = elim none [ ]
    go rec End (end z e) = nothing_read bs at Ended (images.end (no_bytes bs z))
    go rec (Fault n p) (fault m e) = nothing_read bs at (Faulty n) (images.fault n e)
    go rec (Mark n) (mark room e) =
        let four : n - at ≡ 4 = omega arith in
        let split : bs ≡ length_bytes 0 ++ drop (n - at) bs =
        sym (take-append-drop 4 bs) ∙ ap₂ (λ (x : List ℕ) (i : ℕ). x ++ drop i bs) (first_four bs room good ∙ ap length_bytes e) (sym four) in
        more_front bs (drop (n - at) bs) at n (read_on k true (drop (n - at) bs) n) TapeMark (length_bytes 0) split (omega (arith, length_lengths 0))
        (λ front i. images.mark i)
        (rec (n - at) (omega arith) (omega arith) n (bytes_drop (n - at) bs good) (omega (arith, length-drop (n - at) bs)))
    go rec (Block p n x) (block m some most room e d) =
        let l = length_bytes (6 * n) in
        let ws = words_from bs (p - at) n in
        let kept = take (6 * n) (drop 4 bs) in
        let holds : Holds kept ws =
        subst (λ (vs : List ℕ). Holds kept vs) (words_from_lem bs 4 0 (p - at) n (omega arith)) (read_holds n (drop 4 bs) (omega (arith, length-drop 4 bs))) in
        let count : length ws ≡ n = length_words bs (p - at) n in
        let size : 6 * n + 8 ≡ x - at = omega arith in
        let split : bs ≡ (l ++ (kept ++ l)) ++ drop (x - at) bs =
        four_parts bs n good room e d
        ∙ sym (append_assoc l (kept ++ l) (drop (6 * n + 8) bs) ∙ ap (λ (y : List ℕ). l ++ y) (append_assoc kept l (drop (6 * n + 8) bs)))
        ∙ ap (λ (i : ℕ). (l ++ (kept ++ l)) ++ drop i bs) size in
        let long : length (l ++ (kept ++ l)) ≡ 6 * n + 8 =
        length-append l (kept ++ l) ∙ omega (arith, length-append kept l, length_lengths (6 * n), holds_length holds) in
        more_front bs (drop (x - at) bs) at x (read_on k true (drop (x - at) bs) x) (Words ws) (l ++ (kept ++ l)) split (omega arith)
        (λ front i. block_front kept ws n count some most holds front _ i)
        (rec (x - at) (omega arith) (omega arith) x (bytes_drop (x - at) bs good) (omega (arith, length-drop (x - at) bs)))

-- whatever the bytes are, a reel is theirs: its records, up to the ignored bits, are the bytes up to the place where it ends, and there
-- the image ends or the fault that is given stands
pub reel_exact : (bs : List ℕ) → all_of is_byte bs ≡ true → IsReel bs 0 (reel_of bs)
unfolding reel_of read_all
reel_exact bs good = read_reel (suc (length bs)) bs 0 good (omega arith)
