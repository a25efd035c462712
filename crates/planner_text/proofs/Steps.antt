-- One turn of each loop over a text, at place i, and its end; the cases of what a line says. Assumes nothing.
use mathlib.Core.Path.{◌≡◌, refl, sym, ap, ◌∙◌}
use mathlib.Core.Bool.{Bool, true, false, cond, ◌&&◌}
use mathlib.Core.List.{List, [], ◌∷◌, ◌++◌, map, append_assoc, append-nil}
use Prim.Native.Nat.{ℕ, suc, ◌+◌, ◌-◌, ◌≤◌, ◌<◌}
use native.Mathlib.Numerals.{add-one}
use native.Mathlib.Omega.{arith}
use borrow.Author.Tests.{eq-eqb, ne_eqb, le-leb, lt-leb}
use lib.Dec.{eqb, leb}
use lib.ListN.{length, get_or, take, drop, set, drop_of_length-le, length-drop}
use lib.Seq.{drop-cons, drop-drop, take-suc-set, take_all, take-nil}
use Rattle.area.specs.Lists.{count_of}
use lib.Pointwise.{pointwise}
use Rattle.area.proofs.Walks.{by_test}
use Rattle.session_line.specs.Lines.{feed, onto, lines_of}
use Rattle.planner_text.specs.Fields.{up_to, first_to, rest_to, same_bytes, digit, capped, digits_from, number_of, blank, size_word}
use Rattle.planner_text.specs.Texts.{field1, field2, field3, close_event, open_event, event_of, byte_or0, size_of, packed, row_of}

-- ---- the way to a byte

pub up_within : (stop : ℕ) (text : List ℕ) → up_to stop text ≤ length text
unfolding up_to
up_within stop [] = omega arith
up_within stop (c ∷ cs) = by_test (λ b. cond b 0 (suc (up_to stop cs)) ≤ suc (length cs)) (eqb c stop) (λ _. omega arith) (λ _. omega (arith, up_within stop cs))

-- ---- two texts side by side

pub same_is : (a b : List ℕ) → pointwise eqb a b ≡ same_bytes a b
unfolding same_bytes
same_is [] [] = refl
same_is [] (y ∷ ys) = refl
same_is (x ∷ xs) [] = refl
same_is (x ∷ xs) (y ∷ ys) = ap (λ (t : Bool). eqb x y && t) (same_is xs ys)

-- ---- digits

module _ (text : List ℕ) (i v : ℕ) where
  pub digits_go : i < length text → digit (get_or text i 0) ≡ true → digits_from v (drop i text) ≡ digits_from (capped v (get_or text i 0)) (drop (i + 1) text)
  unfolding digits_from
  digits_go h e = rw (add-one, drop-cons text i 0 h, e)

  pub digits_stop : i < length text → digit (get_or text i 0) ≡ false → digits_from v (drop i text) ≡ 256
  unfolding digits_from
  digits_stop h e = rw (drop-cons text i 0 h, e)

  pub digits_end : length text ≤ i → digits_from v (drop i text) ≡ v
  unfolding digits_from
  digits_end h = rw (drop_of_length-le text h)

module _ (field : List ℕ) where
  pub number_none : length field ≡ 0 → 256 ≡ number_of field
  unfolding number_of
  number_none e = rw (eq-eqb (length field) 0 e)

  module _ (some : length field ≡ 0 → ⊥) where
    pub number_one : length field ≡ 1 → digits_from 0 field ≡ number_of field
    unfolding number_of
    number_one e = rw (ne_eqb (length field) 0 some, eq-eqb (length field) 1 e)

    pub number_zero : (length field ≡ 1 → ⊥) → get_or field 0 0 ≡ 48 → 256 ≡ number_of field
    unfolding number_of
    number_zero ne z = rw (ne_eqb (length field) 0 some, ne_eqb (length field) 1 ne, eq-eqb (get_or field 0 0) 48 z)

    pub number_more : (length field ≡ 1 → ⊥) → (get_or field 0 0 ≡ 48 → ⊥) → digits_from 0 field ≡ number_of field
    unfolding number_of
    number_more ne z = rw (ne_eqb (length field) 0 some, ne_eqb (length field) 1 ne, ne_eqb (get_or field 0 0) 48 z)

-- ---- lines: the first, and those after it

pub lines_first : (c : ℕ) (cs : List ℕ) → lines_of (c ∷ cs) ≡ first_to feed (c ∷ cs) ∷ lines_of (rest_to feed (c ∷ cs))
unfolding lines_of first_to rest_to up_to onto
lines_first c [] =
    by_test (λ t. cond t ([] ∷ lines_of []) (onto c (lines_of [])) ≡ take (cond t 0 (suc (up_to feed []))) (c ∷ []) ∷ lines_of (drop (cond t 0 (suc (up_to feed [])) + 1) (c ∷ []))) (eqb c feed)
    (λ _. refl)
    (λ _. refl)
lines_first c (x ∷ xs) =
    by_test (λ t. cond t ([] ∷ lines_of (x ∷ xs)) (onto c (lines_of (x ∷ xs))) ≡ take (cond t 0 (suc (up_to feed (x ∷ xs)))) (c ∷ x ∷ xs) ∷ lines_of (drop (cond t 0 (suc (up_to feed (x ∷ xs))) + 1) (c ∷ x ∷ xs))) (eqb c feed)
    (λ _. refl)
    (λ _. let rest = lines_first x xs in rw (rest, add-one (suc (up_to feed (x ∷ xs)))) (rw (add-one (up_to feed (x ∷ xs)))))

lines_none : lines_of [] ≡ []
unfolding lines_of
lines_none = refl

pub lines_at_lem : (text : List ℕ) (i : ℕ) → i < length text → lines_of (drop i text) ≡ first_to feed (drop i text) ∷ lines_of (rest_to feed (drop i text))
lines_at_lem text i h =
    let here : drop i text ≡ get_or text i 0 ∷ drop (suc i) text = drop-cons text i 0 h in
    ap lines_of here ∙ (lines_first (get_or text i 0) (drop (suc i) text) ∙ ap (λ (x : List ℕ). first_to feed x ∷ lines_of (rest_to feed x)) (sym here))

-- ---- what a line says, case by case

module _ (line : List ℕ) (file n : ℕ) (f : file ≡ number_of (field2 line)) where
  pub event_none : 64 ≤ file → 255 ≡ event_of line
  unfolding event_of
  event_none h = rw (← f, le-leb 64 file h)

  module _ (h : file < 64) (c : n ≡ count_of blank line) where
    pub event_close : n ≡ 1 → close_event file (field1 line) ≡ event_of line
    unfolding event_of
    event_close e = rw (← f, lt-leb 64 file h, ← c, eq-eqb n 1 e)

    pub event_open : (n ≡ 1 → ⊥) → n ≡ 2 → open_event file (field1 line) (field3 line) ≡ event_of line
    unfolding event_of
    event_open ne e = rw (← f, lt-leb 64 file h, ← c, ne_eqb n 1 ne, eq-eqb n 2 e)

    pub event_other : (n ≡ 1 → ⊥) → (n ≡ 2 → ⊥) → 255 ≡ event_of line
    unfolding event_of
    event_other ne nf = rw (← f, lt-leb 64 file h, ← c, ne_eqb n 1 ne, ne_eqb n 2 nf)

module _ (line : List ℕ) (n : ℕ) (c : n ≡ count_of blank line) where
  pub size_said : (word : Bool) → word ≡ same_bytes (field1 line) size_word → (word && eqb n 1) ≡ true → byte_or0 (number_of (field2 line)) ≡ size_of line
  unfolding size_of
  size_said word w e = rw (← c, ← w, e)

  pub size_none : (word : Bool) → word ≡ same_bytes (field1 line) size_word → (word && eqb n 1) ≡ false → 0 ≡ size_of line
  unfolding size_of
  size_none word w e = rw (← c, ← w, e)

module _ (line : List ℕ) (n file : ℕ) (c : n ≡ count_of blank line) (f : file ≡ number_of (field1 line)) where
  pub row_file_lem : 256 ≤ file → 16711680 ≡ row_of line
  unfolding row_of
  row_file_lem h = rw (← f, le-leb 256 file h)

  module _ (h : file < 256) (b : ℕ) (e : b ≡ number_of (field2 line)) where
    pub row_first_lem : (leb 1 n && leb 256 b) ≡ true → 16711680 ≡ row_of line
    unfolding row_of
    row_first_lem w = rw (← f, lt-leb 256 file h, ← c, ← e, w)

    module _ (w : (leb 1 n && leb 256 b) ≡ false) (s : ℕ) (g : s ≡ number_of (field3 line)) where
      pub row_second_lem : (leb 2 n && leb 256 s) ≡ true → 16711680 ≡ row_of line
      unfolding row_of
      row_second_lem z = rw (← f, lt-leb 256 file h, ← c, ← e, w, ← g, z)

      pub row_whole : (leb 2 n && leb 256 s) ≡ false → packed n file s b ≡ row_of line
      unfolding row_of
      row_whole z = rw (← f, lt-leb 256 file h, ← c, ← e, w, ← g, z)

-- ---- the part of a text from a place on, as a slice gives it

pub whole_rest : (k : ℕ) (text : List ℕ) → take (length text - k) (drop k text) ≡ drop k text
whole_rest k text = take_all (length text - k) (drop k text) (omega (arith, length-drop k text))

-- ---- the room filled line by line: what stands there, with what is left, is the whole

module _ (say : List ℕ → ℕ) (text out whole : List ℕ) (i n : ℕ) where
  pub put_line : (i' room said : ℕ) → i < length text → n < length out → length out ≡ room
      → said ≡ say (first_to feed (take (length text - i) (drop i text))) → drop i' text ≡ rest_to feed (drop i text)
      → take n out ++ take (room - n) (map say (lines_of (drop i text))) ≡ whole
      → take (n + 1) (set out n said) ++ take (room - (n + 1)) (map say (lines_of (drop i' text))) ≡ whole
  put_line i' room said h l r s e inv =
      let line = first_to feed (drop i text) in
      let says : said ≡ say line = s ∙ ap (λ (x : List ℕ). say (first_to feed x)) (whole_rest i text) in
      let first : lines_of (drop i text) ≡ line ∷ lines_of (drop i' text) = lines_at_lem text i h ∙ ap (λ (x : List ℕ). line ∷ lines_of x) (sym e) in
      let left : room - n ≡ suc (room - suc n) = omega arith in
      let more : take (room - n) (map say (lines_of (drop i text))) ≡ say line ∷ take (room - suc n) (map say (lines_of (drop i' text)))
      = ap (λ (x : List (List ℕ)). take (room - n) (map say x)) first ∙ ap (λ (k : ℕ). take k (map say (line ∷ lines_of (drop i' text)))) left in
      rw (says, add-one n, take-suc-set out n (say line) l, append_assoc) (sym (ap (λ (x : List ℕ). take n out ++ x) more) ∙ inv)

  pub put_full : (room : ℕ) → length out ≡ room → room ≤ n → take n out ++ take (room - n) (map say (lines_of (drop i text))) ≡ whole → take n out ≡ whole
  put_full room r h inv =
      let none : room - n ≡ 0 = omega arith in
      sym (append-nil (take n out)) ∙ (ap (λ (k : ℕ). take n out ++ take k (map say (lines_of (drop i text)))) (sym none) ∙ inv)

  pub put_end : (room : ℕ) → length text ≤ i → take n out ++ take (room - n) (map say (lines_of (drop i text))) ≡ whole → take n out ≡ whole
  put_end room h inv =
      let none : take (room - n) (map say (lines_of (drop i text))) ≡ [] = ap (λ (x : List ℕ). take (room - n) (map say (lines_of x))) (drop_of_length-le text h) ∙ (ap (λ (x : List (List ℕ)). take (room - n) (map say x)) lines_none ∙ take-nil (room - n)) in
      sym (append-nil (take n out)) ∙ (ap (λ (x : List ℕ). take n out ++ x) (sym none) ∙ inv)

  pub put_start_lem : (room : ℕ) → take 0 out ++ take (room - 0) (map say (lines_of (drop i text))) ≡ take room (map say (lines_of (drop i text)))
  put_start_lem room =
      let all : room - 0 ≡ room = omega arith in
      ap (λ (k : ℕ). take k (map say (lines_of (drop i text)))) all

-- ---- parts of a text

module _ (stop : ℕ) (text : List ℕ) (n : ℕ) (e : n ≡ up_to stop text) where
  pub rest_some : take (length text - (n + 1)) (drop (n + 1) text) ≡ rest_to stop text
  unfolding rest_to
  rest_some = whole_rest (n + 1) text ∙ ap (λ (k : ℕ). drop (k + 1) text) e

  pub rest_none : length text ≤ n → take (length text - n) (drop n text) ≡ rest_to stop text
  unfolding rest_to
  rest_none h = whole_rest n text ∙ (drop_of_length-le text h ∙ sym (drop_of_length-le text {i = up_to stop text + 1} (omega arith)))

module _ (text : List ℕ) (at n : ℕ) (e : n ≡ up_to feed (take (length text - at) (drop at text))) where
  here : n ≡ up_to feed (drop at text)
  here = e ∙ ap (up_to feed) (whole_rest at text)

  pub after_some : drop (at + n + 1) text ≡ rest_to feed (drop at text)
  unfolding rest_to
  after_some =
      let k : at + n + 1 ≡ at + (up_to feed (drop at text) + 1) = omega (arith, here) in
      ap (λ (j : ℕ). drop j text) k ∙ sym (drop-drop (up_to feed (drop at text) + 1) at text)

  pub after_none : length text - at ≤ n → drop (length text) text ≡ rest_to feed (drop at text)
  unfolding rest_to
  after_none h =
      drop_of_length-le text {i = length text} (omega arith)
      ∙ sym (drop_of_length-le (drop at text) {i = up_to feed (drop at text) + 1} (omega (arith, here, length-drop at text)))

-- ---- the first line

pub first_none : (text : List ℕ) → length text ≡ 0 → lines_of text ≡ drop 1 (lines_of text)
unfolding lines_of
first_none [] e = refl
first_none (c ∷ cs) e = absurd (omega arith)

pub first_after : (text rest : List ℕ) → 0 < length text → rest ≡ rest_to feed text → lines_of rest ≡ drop 1 (lines_of text)
first_after text rest h e = ap lines_of e ∙ sym (ap (drop 1) (lines_at_lem text 0 h))

pub first_line_lem : (text : List ℕ) → first_to feed text ≡ get_or (lines_of text) 0 []
unfolding lines_of first_to up_to
first_line_lem [] = refl
first_line_lem (c ∷ cs) = sym (ap (λ (x : List (List ℕ)). get_or x 0 []) (lines_first c cs))
