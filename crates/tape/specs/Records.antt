-- What stands at a place of an image (M-100). Assumes nothing.
use Rattle.std.specs.Prelude.{Bool, not, cond, ◌&&◌, List, ℕ, ◌+◌, ◌/◌, eqb, leb, ltb, length}
use Rattle.tape.specs.declared.Next.{Next}
use Rattle.tape.specs.declared.Next.TheVariants.{More, End, Mark, Block, Fault}
use Rattle.tape.specs.Lengths.{length_at, record_size}
use Rattle.tape.specs.Faults.{differ_at, fault_of}

-- the bytes of the largest record
abbrev pub largest : ℕ
largest = 6152

-- "a length of zero is a tape mark"
abbrev pub is_mark : ℕ → ℕ → Bool
is_mark left n = leb 4 left && eqb n 0

-- what `left` bytes at place `at` are, the first length being n: nothing is the end, then a mark, a fault or a block
unfoldable pub record_of : ℕ → ℕ → ℕ → Bool → Next
record_of at left n differ =
    cond (eqb left 0) End
    (cond (is_mark left n) (Mark (at + 4))
    (cond (eqb (fault_of left n differ) 0) (Block (at + 4) (n / 6) (at + record_size n)) (Fault (fault_of left n differ) at)))

-- the record at the front of bs, bytes of an image from place `at` on
unfoldable pub record_at : List ℕ → ℕ → Next
record_at bs at = record_of at (length bs) (length_at bs 0) (differ_at bs (length_at bs 0))

-- the same while more bytes may come: fewer than the largest record has are too few to say
unfoldable pub next_in : Bool → List ℕ → ℕ → Next
next_in ended bs at = cond (not ended && ltb (length bs) largest) More (record_at bs at)
