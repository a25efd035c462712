-- Which bytes are the image of which records (M-100). Assumes nothing.
use Rattle.std.specs.Prelude.{◌≡◌, Bool, true, ◌&&◌, List, [], ◌∷◌, ◌++◌, ℕ, ◌+◌, ◌*◌, ◌/◌, ◌%◌, ◌^◌, ◌≤◌, ◌<◌, ltb, length}
use Rattle.area.specs.Lists.{all_of}
use Rattle.area.specs.Parts.{is_word}
use Rattle.tape.specs.declared.Next.TheVariants.{Fault}
use Rattle.tape.specs.Lengths.{length_bytes}
use Rattle.tape.specs.Characters.{character}
use Rattle.tape.specs.Records.{record_at}
use Rattle.tape.specs.Reels.{Piece, Words, TapeMark, Ending, Ended, Faulty, Reel}
use Rattle.tape.specs.Writing.{block_bytes, is_sized, block_written, mark_written}

abbrev pub is_byte : ℕ → Bool
is_byte b = ltb b (2 ^ 8)

-- six bytes hold a word if their low six bits are its characters, "leftmost first"; the higher bits are any
pub data Holds : List ℕ → List ℕ → Type 0 where
  none : Holds [] []
  six : {bs ws : List ℕ} (a b c d e f w : ℕ) → w < 2 ^ 36 → character a ≡ w / 2 ^ 30 % 64 → character b ≡ w / 2 ^ 24 % 64 → character c ≡ w / 2 ^ 18 % 64
      → character d ≡ w / 2 ^ 12 % 64 → character e ≡ w / 2 ^ 6 % 64 → character f ≡ w % 64 → Holds bs ws → Holds (a ∷ b ∷ c ∷ d ∷ e ∷ f ∷ bs) (w ∷ ws)

-- the bytes are these records, one after the other, up to the ignored bits
pub data IsImage : List ℕ → List Piece → Type 0 where
  nothing : IsImage [] []
  mark : {bs : List ℕ} {ps : List Piece} → IsImage bs ps → IsImage (length_bytes 0 ++ bs) (TapeMark ∷ ps)
  block : {bs : List ℕ} {ps : List Piece} (held ws : List ℕ) → 1 ≤ length ws → length ws ≤ 1024 → Holds held ws → IsImage bs ps
      → IsImage (length_bytes (6 * length ws) ++ (held ++ (length_bytes (6 * length ws) ++ bs))) (Words ws ∷ ps)

-- what stands where the records end: nothing, or the fault that is given
pub data Stops (bs : List ℕ) (at : ℕ) : Ending → Type 0 where
  end : bs ≡ [] → Stops bs at Ended
  fault : (number : ℕ) → record_at bs at ≡ Fault number at → Stops bs at (Faulty number)

-- a reel is that of the bytes: they are its records, and then the end or a fault
pub record IsReel (bs : List ℕ) (at : ℕ) (r : Reel) : Type 0 where
  pub front : List ℕ
  pub back : List ℕ
  pub split : bs ≡ front ++ back
  pub records : IsImage front r.pieces
  pub place : r.place ≡ at + length front
  pub stops : Stops back r.place r.ending

-- ---- what is written

-- a block that can be written
abbrev pub is_piece : Piece → Bool
is_piece (Words ws) = all_of is_word ws && is_sized (length ws)
is_piece TapeMark = true

abbrev pub piece_bytes : Bool → Piece → List ℕ
piece_bytes bcd (Words ws) = block_bytes bcd ws
piece_bytes bcd TapeMark = length_bytes 0

-- records written one after the other, in binary or BCD
unfoldable pub image_bytes : Bool → List Piece → List ℕ
image_bytes bcd [] = []
image_bytes bcd (p ∷ ps) = piece_bytes bcd p ++ image_bytes bcd ps

-- the bytes after calls of `write_block` and `write_mark`, one record after the other, from a place on
abbrev pub piece_written : ℕ → Bool → Piece → List ℕ → List ℕ
piece_written at bcd (Words ws) area = block_written at bcd ws area
piece_written at bcd TapeMark area = mark_written at area

unfoldable pub written_from : ℕ → Bool → List Piece → List ℕ → List ℕ
written_from at bcd [] area = area
written_from at bcd (p ∷ ps) area = written_from (at + length (piece_bytes bcd p)) bcd ps (piece_written at bcd p area)
