-- Decimal numbers in a text of bytes. Assumes nothing.
use Rattle.std.specs.Prelude.{Bool, cond, ◌&&◌, List, [], ◌∷◌, ℕ, ◌+◌, ◌-◌, ◌*◌, ◌^◌, min, leb, drop}
use Rattle.numbers.specs.declared.Number.{Number}

-- a byte is one of the digits 0 to 9
abbrev pub is_digit : ℕ → Bool
is_digit c = leb 48 c && leb c 57

-- the number v with the digit c after it, or 2^64 - 1 where that is more
unfoldable pub tenfold : ℕ → ℕ → ℕ
tenfold v c = min (v * 10 + (c - 48)) (2 ^ 64 - 1)

-- how many bytes stand before the first digit
unfoldable pub gap : List ℕ → ℕ
gap [] = 0
gap (c ∷ cs) = cond (is_digit c) 0 (1 + gap cs)

-- how many digits stand at the start
unfoldable pub digits : List ℕ → ℕ
digits [] = 0
digits (c ∷ cs) = cond (is_digit c) (1 + digits cs) 0

-- the number v with the digits at the start after it
unfoldable pub value_from : ℕ → List ℕ → ℕ
value_from v [] = v
value_from v (c ∷ cs) = cond (is_digit c) (value_from (tenfold v c) cs) v

-- the number that comes next from a place on, and the place after its digits
unfoldable pub next_of : List ℕ → ℕ → Number
next_of text at =
    let start = at + gap (drop at text) in
    record { value = value_from 0 (drop start text); at = start + digits (drop start text) }
