-- What the exported functions take and answer as numbers. Assumes nothing.
use Rattle.std.specs.Prelude.{Bool, List, ℕ, ◌+◌, ◌*◌, ◌/◌, ◌%◌, eqb}
use Rattle.block.specs.Blocks.{judged_block}

-- the chosen fields: 1 sequence, 2 check sums
abbrev pub has_sequence : ℕ → Bool
has_sequence fields = eqb (fields % 2) 1

abbrev pub has_check : ℕ → Bool
has_check fields = eqb (fields / 2 % 2) 1

-- what judging tells as one number: 256 times the refusal, and the error
abbrev pub judged_number : List ℕ → ℕ → ℕ → ℕ
judged_number block fields number =
    let j = judged_block block (has_sequence fields) (has_check fields) number in
    j.refusal * 256 + j.found.error
