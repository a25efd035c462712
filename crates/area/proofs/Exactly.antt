-- What `lowest` says of a call's rows: the number given is that of the row that applies with none that applies before it, and 0 is given
-- exactly if none applies. Assumes nothing.
use mathlib.Core.Path.{◌≡◌, refl, sym, subst, ◌∙◌}
use mathlib.Core.Bool.{Bool, true, false, ◌&&◌}
use mathlib.Core.List.{[], ◌∷◌}
use Prim.Native.Nat.{ℕ, ◌<◌}
use native.Mathlib.Omega.{arith}
use lib.Dec.{ltb}
use lib.ListN.{length}
use borrow.Author.Tests.{ltb-true}
use Rattle.area.specs.Refusals.{Rows, lowest, Row, here, later, Given, NoneApplies, Exactly}
use Rattle.area.proofs.Walks.{true_not_false, and_left, and_right}
use Rattle.area.proofs.Lowest.{lowest_here, lowest_past}

-- the numbers of the rows rise, from above `from` on
abbrev pub rising : ℕ → Rows → Bool
rising from [] = true
rising from (x ∷ xs) = ltb from x.0 && rising x.0 xs

row_above : {n : ℕ} {b : Bool} {from : ℕ} {rows : Rows} → rising from rows ≡ true → Row n b rows → from < n
row_above {n} {b} {from} r here = ltb-true from n (and_left (ltb from n) _ r)
row_above {n} {b} {from} r (later {k} p) =
    let up = ltb-true from k (and_left (ltb from k) _ r) in
    omega (arith, row_above (and_right (ltb from k) _ r) p)

some_row : {n : ℕ} {b : Bool} {rows : Rows} → Row n b rows → 0 < length rows
some_row here = omega arith
some_row (later p) = omega arith

-- of two rows in rising order the first is the lower, and a number has one row
module _ (k : ℕ) (b : Bool) (rows : Rows) (from : ℕ) (up : rising from ((k, b) ∷ rows) ≡ true) where
  rest_rises : rising k rows ≡ true
  rest_rises = and_right (ltb from k) _ up

  first_given : b ≡ true → Given ((k, b) ∷ rows) k
  first_given e = record { condition = b; row = here; applies = e; no_lower = lower }
    where
      lower : (n : ℕ) (c : Bool) → Row n c ((k, b) ∷ rows) → n < k → c ≡ false
      lower n c here l = absurd (omega arith)
      lower n c (later p) l = absurd (omega (arith, row_above rest_rises p))

  later_given : (n : ℕ) → b ≡ false → Given rows n → Given ((k, b) ∷ rows) n
  later_given n e g = record { condition = g.condition; row = later g.row; applies = g.applies; no_lower = lower }
    where
      lower : (j : ℕ) (c : Bool) → Row j c ((k, b) ∷ rows) → j < n → c ≡ false
      lower j c here l = e
      lower j c (later p) l = g.no_lower j c p l

  given_later : (n : ℕ) → b ≡ false → Given ((k, b) ∷ rows) n → Given rows n
  given_later n e g = record { condition = g.condition; row = below g.row g.applies; applies = g.applies; no_lower = λ j c p l. g.no_lower j c (later p) l }
    where
      below : {j : ℕ} {c : Bool} → Row j c ((k, b) ∷ rows) → c ≡ true → Row j c rows
      below here t = true_not_false t e
      below (later p) t = p

  given_first : (n : ℕ) → b ≡ true → Given ((k, b) ∷ rows) n → n ≡ k
  given_first n e g = go g.row (λ l. true_not_false e (g.no_lower k b here l))
    where
      go : {j : ℕ} {c : Bool} → Row j c ((k, b) ∷ rows) → (k < j → ⊥) → j ≡ k
      go here never = refl
      go (later p) never = absurd (never (row_above rest_rises p))

exactly_from : (from : ℕ) (rows : Rows) → rising from rows ≡ true → Exactly rows
unfolding lowest
exactly_from from [] up = record {
  given = λ n some e. absurd (omega arith);
  gives = λ n g. absurd (omega (arith, some_row g.row));
  none = λ e k b p. absurd (omega (arith, some_row p));
  nothing = λ f. refl;
}
exactly_from from ((k, b) ∷ rows) up = go b refl (exactly_from k rows (rest_rises k b rows from up))
  where
    some : 0 < k
    some = let l = ltb-true from k (and_left (ltb from k) _ up) in omega arith

    go : (t : Bool) → b ≡ t → Exactly rows → Exactly ((k, b) ∷ rows)
    go true e rest = record {
      given = λ n l q. subst (λ (j : ℕ). Given ((k, b) ∷ rows) j) (sym (lowest_here k b rows e) ∙ q) (first_given k b rows from up e);
      gives = λ n g. lowest_here k b rows e ∙ sym (given_first k b rows from up n e g);
      none = λ q. absurd (omega (arith, some, sym (lowest_here k b rows e) ∙ q));
      nothing = λ f. true_not_false e (f k b here);
    }
    go false e rest = record {
      given = λ n l q. later_given k b rows from up n e (rest.given n l (sym (lowest_past k b rows e) ∙ q));
      gives = λ n g. lowest_past k b rows e ∙ rest.gives n (given_later k b rows from up n e g);
      none = λ q. every (rest.none (sym (lowest_past k b rows e) ∙ q));
      nothing = λ f. lowest_past k b rows e ∙ rest.nothing (λ j c p. f j c (later p));
    }
      where
        every : NoneApplies rows → NoneApplies ((k, b) ∷ rows)
        every f j c here = e
        every f j c (later p) = f j c p

-- for a call's rows, in rising order
pub exactly : (rows : Rows) → rising 0 rows ≡ true → Exactly rows
exactly = exactly_from 0
