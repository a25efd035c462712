-- What a reader gives does not depend on where the image is cut into windows. Assumes nothing.
use mathlib.Core.Path.{◌≡◌, refl, sym, ap, ap₂, ◌∙◌}
use mathlib.Core.Bool.{Bool, true, false}
use mathlib.Core.List.{List, [], ◌∷◌, ◌++◌, append_assoc, append-nil}
use Prim.Native.Nat.{ℕ, zero, suc, ◌+◌, ◌-◌, ◌*◌, ◌≤◌, ◌<◌}
use native.Mathlib.Decide.{dec_lt}
use native.Mathlib.Omega.{arith}
use borrow.Author.Tests.{lt-ltb, le-ltb}
use lib.ListN.{length, drop, length-append, length-drop}
use lib.Seq.{drop-append-le}
use Rattle.area.proofs.Marks.{cond_true, cond_false}
use Rattle.tape.specs.declared.Next.{Next}
use Rattle.tape.specs.declared.Next.TheVariants.{More, End, Mark, Block, Fault}
use Rattle.tape.specs.Characters.{word_at, words_from}
use Rattle.tape.specs.Records.{largest, record_at, next_in}
use Rattle.tape.specs.Reels.{Piece, Words, TapeMark, Ending, Open, Ended, Faulty, Reel, onto, read_next, read_on, read_all, reel_of, and_then, in_windows, joined}
use Rattle.tape.proofs.Laws.Seen.{Seen, end, mark, block, fault, SeenIn, waits, sees, seen, seen_record, record_same, byte_same}

-- ---- one turn more than there are bytes is always enough

module _ (ended : Bool) where
  pub enough : (k j : ℕ) (bs : List ℕ) (at : ℕ) → length bs < k → length bs < j → read_on k ended bs at ≡ read_on j ended bs at
  unfolding read_on read_next
  enough zero j bs at h l = absurd (omega arith)
  enough (suc k) zero bs at h l = absurd (omega arith)
  enough (suc k) (suc j) bs at h l = go (λ n some. enough k j (drop n bs)) (next_in ended bs at) (seen bs at ended)
    where
      Rest : Type 0
      Rest = (n : ℕ) → 1 ≤ n → (place : ℕ) → length (drop n bs) < k → length (drop n bs) < j → read_on k ended (drop n bs) place ≡ read_on j ended (drop n bs) place

      found : Rest → (x : Next) → Seen bs at x → read_next (read_on k ended) bs at x ≡ read_next (read_on j ended) bs at x
      found rec More none = elim none [ ]
      found rec End (end z e) = refl
      found rec (Fault n p) (fault m e) = refl
      found rec (Mark n) (mark room e) =
          ap (onto TapeMark) (rec (n - at) (omega arith) n (omega (arith, length-drop (n - at) bs)) (omega (arith, length-drop (n - at) bs)))
      found rec (Block p n x) (block m some most room e d) =
          ap (onto (Words (words_from bs (p - at) n)))
          (rec (x - at) (omega arith) x (omega (arith, length-drop (x - at) bs)) (omega (arith, length-drop (x - at) bs)))

      go : Rest → (x : Next) → SeenIn bs at x → read_next (read_on k ended) bs at x ≡ read_next (read_on j ended) bs at x
      go rec More waits = refl
      go rec x (sees s) = found rec x s

-- ---- bytes that come later

-- words that stand in the first bytes are those of all
words_same : (bs rest : List ℕ) (k n : ℕ) → k + 6 * n ≤ length bs → words_from (bs ++ rest) k n ≡ words_from bs k n
unfolding words_from
words_same bs rest k zero h = refl
words_same bs rest k (suc n) h =
    let e : word_at (bs ++ rest) k ≡ word_at bs k =
    rw (
      byte_same bs rest 0 k (omega arith),
      byte_same bs rest 0 (k + 1) (omega arith),
      byte_same bs rest 0 (k + 2) (omega arith),
      byte_same bs rest 0 (k + 3) (omega arith),
      byte_same bs rest 0 (k + 4) (omega arith),
      byte_same bs rest 0 (k + 5) (omega arith),
    ) in
    ap₂ (λ (x : ℕ) (xs : List ℕ). x ∷ xs) e (words_same bs rest (k + 6) n (omega arith))

onto_then : (f : List ℕ → ℕ → Reel) (p : Piece) (r : Reel) (e : Ending) → onto p (and_then f e r) ≡ and_then f e (onto p r)
unfolding onto and_then
onto_then f p r Open = refl
onto_then f p r Ended = refl
onto_then f p r (Faulty n) = refl

-- what is certain of a window is certain of the image
next_same : (bs rest : List ℕ) (at : ℕ) → largest ≤ length bs → next_in true (bs ++ rest) at ≡ record_at bs at
unfolding next_in
next_same bs rest at h = record_same bs rest at h

next_many : (bs : List ℕ) (at : ℕ) → largest ≤ length bs → next_in false bs at ≡ record_at bs at
unfolding next_in
next_many bs at h = cond_false _ _ (le-ltb (length bs) largest h)

next_few : (bs : List ℕ) (at : ℕ) → length bs < largest → next_in false bs at ≡ More
unfolding next_in
next_few bs at h = cond_true _ _ (lt-ltb (length bs) largest h)

module _ (rest : List ℕ) where
  abbrev later : List ℕ → ℕ → Reel
  later bs at = read_all true (bs ++ rest) at

  split : (k j : ℕ) (bs : List ℕ) (at : ℕ) → length bs < k → length (bs ++ rest) < j
      → read_on j true (bs ++ rest) at ≡ and_then later (read_on k false bs at).ending (read_on k false bs at)
  unfolding read_on read_next read_all and_then onto
  split zero j bs at h l = absurd (omega arith)
  split (suc k) zero bs at h l = absurd (omega arith)
  split (suc k) (suc j) bs at h l = go (dec_lt (length bs) largest) (λ n some. split k j (drop n bs))
    where
      Rest : Type 0
      Rest = (n : ℕ) → 1 ≤ n → (place : ℕ) → length (drop n bs) < k → length (drop n bs ++ rest) < j
          → read_on j true (drop n bs ++ rest) place ≡ and_then later (read_on k false (drop n bs) place).ending (read_on k false (drop n bs) place)

      shorter : (n : ℕ) → 1 ≤ n → n ≤ length bs → length (drop n bs ++ rest) < j
      shorter n some room = omega (arith, length-append (drop n bs) rest, length-append bs rest, length-drop n bs)

      sure : Rest → (x : Next) → Seen bs at x → read_next (read_on j true) (bs ++ rest) at x
          ≡ and_then later (read_next (read_on k false) bs at x).ending (read_next (read_on k false) bs at x)
      sure rec More none = elim none [ ]
      sure rec End (end z e) = refl
      sure rec (Fault n p) (fault m e) = refl
      sure rec (Mark n) (mark room e) =
          let r = read_on k false (drop (n - at) bs) n in
          ap (λ (l : List ℕ). onto TapeMark (read_on j true l n)) (drop-append-le (n - at) bs rest (omega arith))
          ∙ ap (onto TapeMark) (rec (n - at) (omega arith) n (omega (arith, length-drop (n - at) bs)) (shorter (n - at) (omega arith) (omega arith)))
          ∙ onto_then later TapeMark r r.ending
      sure rec (Block p n x) (block m some most room e d) =
          let r = read_on k false (drop (x - at) bs) x in
          ap (λ (ws : List ℕ). onto (Words ws) (read_on j true (drop (x - at) (bs ++ rest)) x)) (words_same bs rest (p - at) n (omega arith))
          ∙ ap (λ (l : List ℕ). onto (Words (words_from bs (p - at) n)) (read_on j true l x)) (drop-append-le (x - at) bs rest (omega arith))
          ∙ ap (onto (Words (words_from bs (p - at) n)))
          (rec (x - at) (omega arith) x (omega (arith, length-drop (x - at) bs)) (shorter (x - at) (omega arith) (omega arith)))
          ∙ onto_then later (Words (words_from bs (p - at) n)) r r.ending

      go : Dec (length bs < largest) → Rest → read_next (read_on j true) (bs ++ rest) at (next_in true (bs ++ rest) at)
          ≡ and_then later (read_next (read_on k false) bs at (next_in false bs at)).ending (read_next (read_on k false) bs at (next_in false bs at))
      go (yes few) rec =
          enough true (suc j) (suc (length (bs ++ rest))) (bs ++ rest) at l (omega arith)
          ∙ ap (λ (x : Next). and_then later (read_next (read_on k false) bs at x).ending (read_next (read_on k false) bs at x)) (sym (next_few bs at few))
      go (no many) rec =
          let all : largest ≤ length bs = omega (arith, many) in
          ap (read_next (read_on j true) (bs ++ rest) at) (next_same bs rest at all)
          ∙ sure rec (record_at bs at) (seen_record bs at)
          ∙ ap (λ (x : Next). and_then later (read_next (read_on k false) bs at x).ending (read_next (read_on k false) bs at x)) (sym (next_many bs at all))

-- ---- windows

then_same : (f g : List ℕ → ℕ → Reel) → ((bs : List ℕ) (at : ℕ) → f bs at ≡ g bs at) → (e : Ending) (r : Reel) → and_then f e r ≡ and_then g e r
unfolding and_then
then_same f g h Open r =
    ap (λ (s : Reel). record { pieces = r.pieces ++ s.pieces; ending = s.ending; place = s.place; left = s.left }) (h r.left r.place)
then_same f g h Ended r = refl
then_same f g h (Faulty n) r = refl

windows_all : (windows : List (List ℕ)) (held : List ℕ) (at : ℕ) → in_windows held at windows ≡ read_all true (held ++ joined windows) at
unfolding in_windows joined read_all
windows_all [] held at = ap (λ (l : List ℕ). read_all true l at) (sym (append-nil held))
windows_all (window ∷ windows) held at =
    let bs = held ++ window in
    let r = read_all false bs at in
    then_same (λ l place. in_windows l place windows) (later (joined windows)) (λ l place. windows_all windows l place) r.ending r
    ∙ sym (split (joined windows) (suc (length bs)) (suc (length (bs ++ joined windows))) bs at (omega arith) (omega arith))
    ∙ ap (λ (l : List ℕ). read_all true l at) (append_assoc held window (joined windows))

-- however an image is cut into windows, its reel is that of the image in one piece
pub window_reel : (windows : List (List ℕ)) → in_windows [] 0 windows ≡ reel_of (joined windows)
unfolding reel_of
window_reel windows = windows_all windows [] 0

-- two ways to cut one image give the same
pub cut_anywhere : (windows others : List (List ℕ)) → joined windows ≡ joined others → in_windows [] 0 windows ≡ in_windows [] 0 others
cut_anywhere windows others e = window_reel windows ∙ ap reel_of e ∙ sym (window_reel others)

-- what is held between two windows is shorter than the largest record, whatever came before: constant memory
small : (k : ℕ) (bs : List ℕ) (at : ℕ) → length bs < k → length (read_on k false bs at).left < largest
unfolding read_on read_next onto
small zero bs at h = absurd (omega arith)
small (suc k) bs at h = go (dec_lt (length bs) largest) (λ n some room. small k (drop n bs))
  where
    Rest : Type 0
    Rest = (n : ℕ) → 1 ≤ n → n ≤ length bs → (place : ℕ) → length (drop n bs) < k → length (read_on k false (drop n bs) place).left < largest

    sure : Rest → (x : Next) → Seen bs at x → length (read_next (read_on k false) bs at x).left < largest
    sure rec More none = elim none [ ]
    sure rec End (end z e) = omega arith
    sure rec (Fault n p) (fault m e) = omega arith
    sure rec (Mark n) (mark room e) = rec (n - at) (omega arith) (omega arith) n (omega (arith, length-drop (n - at) bs))
    sure rec (Block p n x) (block m some most room e d) = rec (x - at) (omega arith) (omega arith) x (omega (arith, length-drop (x - at) bs))

    go : Dec (length bs < largest) → Rest → length (read_next (read_on k false) bs at (next_in false bs at)).left < largest
    go (yes few) rec = rw (next_few bs at few) few
    go (no many) rec = rw (next_many bs at (omega (arith, many))) (sure rec (record_at bs at) (seen_record bs at))

pub held_small : (bs : List ℕ) (at : ℕ) → length (read_all false bs at).left < largest
unfolding read_all
held_small bs at = small (suc (length bs)) bs at (omega arith)
