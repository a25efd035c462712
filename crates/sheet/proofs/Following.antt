-- The requests that are listed event by event are the first 512 of all, each followed through the events after it. Assumes nothing.
use mathlib.Core.Path.{◌≡◌, refl, sym, ap, ap₂, ◌∙◌, subst}
use mathlib.Core.Bool.{Bool, true, false, not, cond}
use mathlib.Core.List.{List, [], ◌∷◌, ◌++◌, map, append_assoc, append-nil}
use Prim.Native.Nat.{ℕ, zero, suc, ◌+◌, ◌≤◌, ◌<◌}
use native.Mathlib.Numerals.{add-one}
use native.Mathlib.Omega.{arith}
use borrow.Author.Tests.{leb-true, leb-false, lt-ltb, le-ltb}
use lib.Dec.{leb, ltb}
use lib.ListN.{length, take, set, length-append, length-take, length-map, length-set}
use lib.Seq.{take_all, take-append-le, take-suc-set}
use Rattle.sheet.specs.declared.Event.{Event}
use Rattle.sheet.specs.declared.Row.{Row}
use Rattle.sheet.specs.declared.Listed.{Listed}
use Rattle.sheet.specs.Rows.{most_listed, next, new_row, row_after, row_through, onto, requests, listed_with, none_listed, row_in, listed_after, listed_through, rows_of}

-- ---- lists

map_append : {A B : Type 0} (f : A → B) (xs ys : List A) → map f (xs ++ ys) ≡ map f xs ++ map f ys
map_append f [] ys = refl
map_append f (x ∷ xs) ys = ap (λ (zs : List _). f x ∷ zs) (map_append f xs ys)

map_take : {A B : Type 0} (f : A → B) (n : ℕ) (xs : List A) → take n (map f xs) ≡ map f (take n xs)
map_take f zero xs = refl
map_take f (suc n) [] = refl
map_take f (suc n) (x ∷ xs) = ap (λ (zs : List _). f x ∷ zs) (map_take f n xs)

-- ---- all requests, event by event

abbrev new_if : Bool → Row → List Row
new_if asked row = cond asked (row ∷ []) []

unfoldable all_after : Event → ℕ → List Row → List Row
all_after e k all = map (row_after e k) all ++ new_if e.asked (new_row e k)

unfoldable all_through : ℕ → List Row → List Event → List Row
all_through k all [] = all
all_through k all (e ∷ es) = all_through (next k) (all_after e k all) es

abbrev through_all : ℕ → List Event → List Row → List Row
through_all k es = map (λ (row : Row). row_through k row es)

through_none : (k : ℕ) (all : List Row) → through_all k [] all ≡ all
unfolding row_through
through_none k [] = refl
through_none k (x ∷ xs) = ap (λ (zs : List Row). x ∷ zs) (through_none k xs)

through_more : (k : ℕ) (e : Event) (es : List Event) (all : List Row)
    → through_all (next k) es (map (row_after e k) all) ≡ through_all k (e ∷ es) all
unfolding row_through
through_more k e es [] = refl
through_more k e es (x ∷ xs) = ap (λ (zs : List Row). row_through (next k) (row_after e k x) es ∷ zs) (through_more k e es xs)

new_through : (k : ℕ) (es : List Event) (row : Row) (b : Bool) (rest : List Row)
    → through_all k es (new_if b row) ++ rest ≡ onto b (row_through k row es) rest
new_through k es row true rest = refl
new_through k es row false rest = refl

all_through_lem : (es : List Event) (k : ℕ) (all : List Row) → all_through k all es ≡ through_all k es all ++ requests k es
unfolding all_through requests all_after
all_through_lem [] k all = sym (append-nil (through_all k [] all) ∙ through_none k all)
all_through_lem (e ∷ es) k all =
    all_through_lem es (next k) (map (row_after e k) all ++ new_if e.asked (new_row e k))
    ∙ ap (λ (zs : List Row). zs ++ requests (next k) es) (map_append (λ (row : Row). row_through (next k) row es) (map (row_after e k) all) (new_if e.asked (new_row e k)))
    ∙ append_assoc (through_all (next k) es (map (row_after e k) all)) (through_all (next k) es (new_if e.asked (new_row e k))) (requests (next k) es)
    ∙ ap₂ (λ (xs ys : List Row). xs ++ ys) (through_more k e es all) (new_through (next k) es (new_row e k) e.asked (requests (next k) es))

-- ---- the rows that are listed are the first 512 of all

pub record Lists (l : Listed) (all : List Row) : Type 0 where
  pub rows : rows_of l ≡ take most_listed all
  pub count : l.count ≡ length (take most_listed all)
  pub more : l.more ≡ ltb most_listed (length all)
  pub long : length l.rows ≡ most_listed

module _ (e : Event) (k : ℕ) (l : Listed) (all : List Row) (L : Lists l all) where
  abbrev rows' : List Row
  rows' = map (row_after e k) l.rows

  abbrev all' : List Row
  all' = map (row_after e k) all

  mapped : take l.count (map (row_after e k) l.rows) ≡ take most_listed (map (row_after e k) all)
  mapped = map_take (row_after e k) l.count l.rows ∙ ap (map (row_after e k)) L.rows ∙ sym (map_take (row_after e k) most_listed all)

  same_count : l.count ≡ length (take most_listed (map (row_after e k) all))
  same_count = L.count ∙ sym (ap length (map_take (row_after e k) most_listed all) ∙ length-map (take most_listed all) (row_after e k))

  long_all : length (map (row_after e k) all) ≡ length all
  long_all = length-map all (row_after e k)

  long_rows : length (map (row_after e k) l.rows) ≡ most_listed
  long_rows = length-map l.rows (row_after e k) ∙ L.long

  lists_same : Lists (listed_with (map (row_after e k) l.rows) l.count l.more) (map (row_after e k) all ++ [])
  lists_same =
      let none : map (row_after e k) all ++ [] ≡ map (row_after e k) all = append-nil (map (row_after e k) all) in
      record {
        rows = mapped ∙ ap (take most_listed) (sym none);
        count = same_count ∙ ap (λ (zs : List Row). length (take most_listed zs)) (sym none);
        more = L.more ∙ ap (ltb most_listed) (sym (ap length none ∙ long_all));
        long = long_rows;
      }

  lists_full : most_listed ≤ l.count → Lists (listed_with (map (row_after e k) l.rows) l.count true) (map (row_after e k) all ++ (new_row e k ∷ []))
  lists_full h =
      let n : length (take most_listed all) ≤ length all = omega (arith, length-take most_listed all) in
      let enough : most_listed ≤ length (map (row_after e k) all) = omega (arith, h, n, L.count, long_all) in
      let cut : take most_listed (map (row_after e k) all ++ (new_row e k ∷ [])) ≡ take most_listed (map (row_after e k) all) =
      take-append-le most_listed (map (row_after e k) all) (new_row e k ∷ []) enough in
      record {
        rows = mapped ∙ sym cut;
        count = same_count ∙ ap length (sym cut);
        more = sym (lt-ltb most_listed (length (map (row_after e k) all ++ (new_row e k ∷ []))) (omega (arith, enough, length-append (map (row_after e k) all) (new_row e k ∷ []))));
        long = long_rows;
      }

  lists_more : l.count < most_listed
      → Lists (listed_with (set (map (row_after e k) l.rows) l.count (new_row e k)) (l.count + 1) l.more) (map (row_after e k) all ++ (new_row e k ∷ []))
  lists_more h =
      let n : length (take most_listed all) ≡ length all = omega (arith, length-take most_listed all, L.count, h) in
      let size : l.count ≡ length all = L.count ∙ n in
      let short : length (map (row_after e k) all) ≤ most_listed = omega (arith, h, size, long_all) in
      let longer : length (map (row_after e k) all ++ (new_row e k ∷ [])) ≡ l.count + 1 = omega (arith, length-append (map (row_after e k) all) (new_row e k ∷ []), size, long_all) in
      let whole : take most_listed (map (row_after e k) all ++ (new_row e k ∷ [])) ≡ map (row_after e k) all ++ (new_row e k ∷ []) =
      take_all most_listed (map (row_after e k) all ++ (new_row e k ∷ [])) (omega (arith, longer, h)) in
      let inside : l.count < length (map (row_after e k) l.rows) = omega (arith, h, long_rows) in
      record {
        rows =
            ap (λ (m : ℕ). take m (set (map (row_after e k) l.rows) l.count (new_row e k))) (add-one l.count)
            ∙ take-suc-set (map (row_after e k) l.rows) l.count (new_row e k) inside
            ∙ ap (λ (zs : List Row). zs ++ (new_row e k ∷ [])) (mapped ∙ take_all most_listed (map (row_after e k) all) short)
            ∙ sym whole;
        count = sym (ap length whole ∙ longer);
        more =
            L.more
            ∙ le-ltb most_listed (length all) (omega (arith, size, h))
            ∙ sym (le-ltb most_listed (length (map (row_after e k) all ++ (new_row e k ∷ []))) (omega (arith, longer, h)));
        long = length-set (map (row_after e k) l.rows) l.count (new_row e k) ∙ long_rows;
      }

  lists_asked : (b : Bool) → leb most_listed l.count ≡ b
      → Lists (cond b (listed_with (map (row_after e k) l.rows) l.count true) (listed_with (cond b (map (row_after e k) l.rows) (set (map (row_after e k) l.rows) l.count (new_row e k))) (l.count + 1) l.more))
      (map (row_after e k) all ++ (new_row e k ∷ []))
  lists_asked true h = lists_full (leb-true most_listed l.count h)
  lists_asked false h = lists_more (leb-false most_listed l.count h)

  lists_after : Lists (listed_after e k l) (all_after e k all)
  unfolding listed_after all_after row_in
  lists_after = go e.asked
    where
      go : (a : Bool) → Lists (cond (not a) (listed_with (map (row_after e k) l.rows) l.count l.more)
          (cond (leb most_listed l.count) (listed_with (map (row_after e k) l.rows) l.count true)
          (listed_with (cond (leb most_listed l.count) (map (row_after e k) l.rows) (set (map (row_after e k) l.rows) l.count (new_row e k))) (l.count + 1) l.more)))
          (map (row_after e k) all ++ new_if a (new_row e k))
      go true = lists_asked (leb most_listed l.count) refl
      go false = lists_same

lists_through : (es : List Event) (k : ℕ) (l : Listed) (all : List Row) → Lists l all → Lists (listed_through k l es) (all_through k all es)
unfolding listed_through all_through
lists_through [] k l all L = L
lists_through (e ∷ es) k l all L = lists_through es (next k) (listed_after e k l) (all_after e k all) (lists_after e k l all L)

none_lists : Lists none_listed []
unfolding none_listed
none_lists = record { rows = refl; count = refl; more = refl; long = refl }

-- "At most 512 are listed, in order of acceptance"
pub requests_listed : (k : ℕ) (es : List Event) → Lists (listed_through k none_listed es) (requests k es)
requests_listed k es =
    subst (λ (zs : List Row). Lists (listed_through k none_listed es) zs) (all_through_lem es k []) (lists_through es k none_listed [] none_lists)
