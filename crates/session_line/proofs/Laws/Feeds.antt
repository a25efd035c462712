-- Laws of lines cut at line feeds. Assumes nothing.
use mathlib.Core.Path.{◌≡◌, refl, sym, ap, ◌∙◌}
use mathlib.Core.Bool.{Bool, true, false, cond}
use mathlib.Core.List.{List, [], ◌∷◌, ◌++◌, append_assoc, append-nil}
use Prim.Native.Nat.{ℕ, suc, ◌+◌, ◌≤◌, ◌<◌}
use native.Mathlib.Numerals.{add-one}
use native.Mathlib.Omega.{arith}
use borrow.Author.Tests.{eq-eqb, ne_eqb}
use lib.Dec.{eqb}
use lib.ListN.{length, get_or, take, drop, drop_of_length-le}
use lib.Seq.{drop-cons}
use Rattle.session_line.specs.Lines.{feed, onto, lines_of, feed_at, ended_lines, begun_line, last_line}

-- ---- the walk to the first line feed: at every place i, n is i and how far it is from there

module _ (xs : List ℕ) (i n : ℕ) where
  feed_step : i < length xs → feed_at (drop i xs) ≡ cond (eqb (get_or xs i 0) feed) 0 (suc (feed_at (drop (i + 1) xs)))
  unfolding feed_at
  feed_step h = rw (add-one, drop-cons xs i 0)

  pub feed_hit : i < length xs → n ≡ i + feed_at (drop i xs) → get_or xs i 0 ≡ feed → i ≡ n
  feed_hit h inv e =
      let g : feed_at (drop i xs) ≡ 0 = feed_step h ∙ rw (eq-eqb (get_or xs i 0) feed e) in
      omega arith

  pub feed_miss : i < length xs → n ≡ i + feed_at (drop i xs) → (get_or xs i 0 ≡ feed → ⊥) → n ≡ i + 1 + feed_at (drop (i + 1) xs)
  feed_miss h inv e =
      let g : feed_at (drop i xs) ≡ suc (feed_at (drop (i + 1) xs)) = feed_step h ∙ rw (ne_eqb (get_or xs i 0) feed e) in
      omega arith

  pub feed_done : length xs ≤ i → n ≡ i + feed_at (drop i xs) → i ≡ n
  unfolding feed_at
  feed_done h inv = let g : feed_at (drop i xs) ≡ 0 = rw (drop_of_length-le xs h) in omega arith

pub feed_within : (xs : List ℕ) → feed_at xs ≤ length xs
unfolding feed_at
feed_within [] = omega arith
feed_within (c ∷ cs) = go (eqb c feed) (feed_within cs)
  where
    go : (b : Bool) → feed_at cs ≤ length cs → cond b 0 (suc (feed_at cs)) ≤ suc (length cs)
    go true h = omega arith
    go false h = omega arith

-- ---- the next line of a part, and the part after it

snoc : (l : List ℕ) (c : ℕ) (cs : List ℕ) → (l ++ (c ∷ [])) ++ cs ≡ l ++ (c ∷ cs)
snoc l c cs = append_assoc l (c ∷ []) cs

-- with a line feed: the line has ended, and the rest begins anew
pub ended_next : (l xs : List ℕ) → feed_at xs < length xs
    → (ended_lines l xs ≡ (l ++ take (feed_at xs) xs) ∷ ended_lines [] (drop (feed_at xs + 1) xs)) × (begun_line l xs ≡ begun_line [] (drop (feed_at xs + 1) xs))
unfolding feed_at ended_lines begun_line
ended_next l [] h = absurd (omega arith)
ended_next l (c ∷ cs) h = go (eqb c feed) h (ended_next (l ++ (c ∷ [])) cs)
  where
    go : (b : Bool) → cond b 0 (suc (feed_at cs)) < suc (length cs)
        → (feed_at cs < length cs → (ended_lines (l ++ (c ∷ [])) cs ≡ ((l ++ (c ∷ [])) ++ take (feed_at cs) cs) ∷ ended_lines [] (drop (feed_at cs + 1) cs))
        × (begun_line (l ++ (c ∷ [])) cs ≡ begun_line [] (drop (feed_at cs + 1) cs)))
        → (cond b (l ∷ ended_lines [] cs) (ended_lines (l ++ (c ∷ [])) cs)
        ≡ (l ++ take (cond b 0 (suc (feed_at cs))) (c ∷ cs)) ∷ ended_lines [] (drop (cond b 0 (suc (feed_at cs)) + 1) (c ∷ cs)))
        × (cond b (begun_line [] cs) (begun_line (l ++ (c ∷ [])) cs) ≡ begun_line [] (drop (cond b 0 (suc (feed_at cs)) + 1) (c ∷ cs)))
    go true k more = (ap (λ (x : List ℕ). x ∷ ended_lines [] cs) (sym (append-nil l)), refl)
    go false k more =
        let m = more (omega arith) in
        let e : suc (feed_at cs) + 1 ≡ suc (feed_at cs + 1) = omega arith in
        (rw (e, ← snoc l c (take (feed_at cs) cs)) m.0, rw e m.1)

-- without one: nothing has ended
pub ended_none : (l xs : List ℕ) → length xs ≤ feed_at xs → (ended_lines l xs ≡ []) × (begun_line l xs ≡ l ++ xs)
unfolding feed_at ended_lines begun_line
ended_none l [] h = (refl, sym (append-nil l))
ended_none l (c ∷ cs) h = go (eqb c feed) h (ended_none (l ++ (c ∷ [])) cs)
  where
    go : (b : Bool) → suc (length cs) ≤ cond b 0 (suc (feed_at cs))
        → (length cs ≤ feed_at cs → (ended_lines (l ++ (c ∷ [])) cs ≡ []) × (begun_line (l ++ (c ∷ [])) cs ≡ (l ++ (c ∷ [])) ++ cs))
        → (cond b (l ∷ ended_lines [] cs) (ended_lines (l ++ (c ∷ [])) cs) ≡ [])
        × (cond b (begun_line [] cs) (begun_line (l ++ (c ∷ [])) cs) ≡ l ++ (c ∷ cs))
    go true k more = absurd (omega arith)
    go false k more = let m = more (omega arith) in (m.0, m.1 ∙ snoc l c cs)

-- ---- a session in two parts is the session in one

pub ended_append : (l xs ys : List ℕ) → ended_lines l (xs ++ ys) ≡ ended_lines l xs ++ ended_lines (begun_line l xs) ys
unfolding ended_lines begun_line
ended_append l [] ys = refl
ended_append l (c ∷ cs) ys = go (eqb c feed) (ended_append [] cs ys) (ended_append (l ++ (c ∷ [])) cs ys)
  where
    go : (b : Bool) → ended_lines [] (cs ++ ys) ≡ ended_lines [] cs ++ ended_lines (begun_line [] cs) ys
        → ended_lines (l ++ (c ∷ [])) (cs ++ ys) ≡ ended_lines (l ++ (c ∷ [])) cs ++ ended_lines (begun_line (l ++ (c ∷ [])) cs) ys
        → cond b (l ∷ ended_lines [] (cs ++ ys)) (ended_lines (l ++ (c ∷ [])) (cs ++ ys))
        ≡ cond b (l ∷ ended_lines [] cs) (ended_lines (l ++ (c ∷ [])) cs) ++ ended_lines (cond b (begun_line [] cs) (begun_line (l ++ (c ∷ [])) cs)) ys
    go true p q = ap (λ (ls : List (List ℕ)). l ∷ ls) p
    go false p q = q

pub begun_append : (l xs ys : List ℕ) → begun_line l (xs ++ ys) ≡ begun_line (begun_line l xs) ys
unfolding begun_line
begun_append l [] ys = refl
begun_append l (c ∷ cs) ys = go (eqb c feed) (begun_append [] cs ys) (begun_append (l ++ (c ∷ [])) cs ys)
  where
    go : (b : Bool) → begun_line [] (cs ++ ys) ≡ begun_line (begun_line [] cs) ys
        → begun_line (l ++ (c ∷ [])) (cs ++ ys) ≡ begun_line (begun_line (l ++ (c ∷ [])) cs) ys
        → cond b (begun_line [] (cs ++ ys)) (begun_line (l ++ (c ∷ [])) (cs ++ ys)) ≡ begun_line (cond b (begun_line [] cs) (begun_line (l ++ (c ∷ [])) cs)) ys
    go true p q = p
    go false p q = q

-- ---- a session's lines are those that end in it, and the one that has begun

-- l in front of the first line
prefixed : List ℕ → List (List ℕ) → List (List ℕ)
prefixed [] ls = ls
prefixed (c ∷ l) ls = onto c (prefixed l ls)

prefixed_line : (l k : List ℕ) (ls : List (List ℕ)) → prefixed l (k ∷ ls) ≡ (l ++ k) ∷ ls
unfolding prefixed onto
prefixed_line [] k ls = refl
prefixed_line (c ∷ l) k ls = ap (onto c) (prefixed_line l k ls)

prefixed_onto : (l : List ℕ) (c : ℕ) (ls : List (List ℕ)) → prefixed l (onto c ls) ≡ prefixed (l ++ (c ∷ [])) ls
unfolding prefixed
prefixed_onto [] c ls = refl
prefixed_onto (x ∷ l) c ls = ap (onto x) (prefixed_onto l c ls)

prefixed_last : (l : List ℕ) → prefixed l [] ≡ last_line l
unfolding prefixed last_line onto
prefixed_last [] = refl
prefixed_last (c ∷ l) = ap (onto c) (prefixed_last l) ∙ last_onto c l
  where
    last_onto : (c : ℕ) (l : List ℕ) → onto c (last_line l) ≡ (c ∷ l) ∷ []
    last_onto c [] = refl
    last_onto c (x ∷ l) = refl

lines_from : (l xs : List ℕ) → prefixed l (lines_of xs) ≡ ended_lines l xs ++ last_line (begun_line l xs)
unfolding lines_of ended_lines begun_line prefixed
lines_from l [] = prefixed_last l
lines_from l (c ∷ cs) = go (eqb c feed) (lines_from [] cs) (lines_from (l ++ (c ∷ [])) cs)
  where
    go : (b : Bool) → prefixed [] (lines_of cs) ≡ ended_lines [] cs ++ last_line (begun_line [] cs)
        → prefixed (l ++ (c ∷ [])) (lines_of cs) ≡ ended_lines (l ++ (c ∷ [])) cs ++ last_line (begun_line (l ++ (c ∷ [])) cs)
        → prefixed l (cond b ([] ∷ lines_of cs) (onto c (lines_of cs)))
        ≡ cond b (l ∷ ended_lines [] cs) (ended_lines (l ++ (c ∷ [])) cs) ++ last_line (cond b (begun_line [] cs) (begun_line (l ++ (c ∷ [])) cs))
    go true p q = prefixed_line l [] (lines_of cs) ∙ ap (λ (x : List ℕ). x ∷ lines_of cs) (append-nil l) ∙ ap (λ (ls : List (List ℕ)). l ∷ ls) p
    go false p q = prefixed_onto l c (lines_of cs) ∙ q

pub lines_ended : (xs : List ℕ) → lines_of xs ≡ ended_lines [] xs ++ last_line (begun_line [] xs)
unfolding prefixed
lines_ended xs = lines_from [] xs
