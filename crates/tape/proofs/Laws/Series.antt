-- Records written one after the other into bytes are their image there, and are read back from it. Assumes nothing.
use mathlib.Core.Path.{◌≡◌, refl, sym, ap, ◌∙◌}
use mathlib.Core.Bool.{Bool, true}
use mathlib.Core.List.{List, [], ◌∷◌, ◌++◌}
use Prim.Native.Nat.{ℕ, ◌+◌, ◌*◌, ◌≤◌}
use native.Mathlib.Omega.{arith}
use borrow.Author.Tests.{leb-true, le-leb, eq-eqb}
use lib.Dec.{leb}
use lib.ListN.{length, length-append}
use Rattle.area.specs.Lists.{all_of}
use Rattle.area.specs.Parts.{is_word, part_of, paste}
use Rattle.area.proofs.Marks.{cond_true}
use Rattle.area.proofs.Pastes.{paste_nothing, length_paste, paste_part}
use Rattle.area.proofs.Joins.{paste_paste}
use Rattle.area.proofs.Walks.{and_left, and_right}
use Rattle.tape.specs.Lengths.{length_bytes}
use Rattle.tape.specs.Reels.{Piece, Words, TapeMark, reel_of}
use Rattle.tape.specs.Images.{is_piece, piece_bytes, image_bytes, piece_written, written_from}
use Rattle.tape.specs.Writing.{block_refusal, block_written}
use Rattle.tape.proofs.Laws.Reading.{finished, written_read}
use Rattle.tape.proofs.Laws.Writes.{length_block, length_lengths, refused_not, mark_put}

-- one record that fits
piece_put : (at : ℕ) (bcd : Bool) (p : Piece) (area : List ℕ) → is_piece p ≡ true → at + length (piece_bytes bcd p) ≤ length area
    → piece_written at bcd p area ≡ paste at (piece_bytes bcd p) area
unfolding block_written
piece_put at bcd TapeMark area good h =
    let room : at + 4 ≤ length area = omega (arith, length_lengths 0) in
    sym (mark_put area at true (sym (le-leb (at + 4) (length area) room)) refl (paste at (length_bytes 0) area) refl).1
piece_put at bcd (Words ws) area good h =
    let sized = and_right (all_of is_word ws) _ good in
    let some : 1 ≤ length ws = leb-true _ _ (and_left (leb 1 (length ws)) _ sized) in
    let most : length ws ≤ 1024 = leb-true _ _ (and_right (leb 1 (length ws)) _ sized) in
    let room : at + (6 * length ws + 8) ≤ length area = omega (arith, length_block area at bcd ws) in
    let none : 0 ≡ block_refusal (length area) at ws =
    refused_not (length area) at ws (and_left (all_of is_word ws) _ good) (λ z. omega arith) most true (sym (le-leb (at + (6 * length ws + 8)) (length area) room)) refl in
    cond_true _ _ (eq-eqb (block_refusal (length area) at ws) 0 (sym none))

-- any list of them that fits
pub pieces_put : (at : ℕ) (bcd : Bool) (ps : List Piece) (area : List ℕ) → all_of is_piece ps ≡ true → at + length (image_bytes bcd ps) ≤ length area
    → written_from at bcd ps area ≡ paste at (image_bytes bcd ps) area
unfolding written_from image_bytes all_of
pieces_put at bcd [] area good h = sym (paste_nothing at area)
pieces_put at bcd (p ∷ ps) area good h =
    let bytes = piece_bytes bcd p in
    let long : length (bytes ++ image_bytes bcd ps) ≡ length bytes + length (image_bytes bcd ps) = length-append bytes (image_bytes bcd ps) in
    let fit : at + length bytes ≤ length area = omega arith in
    let one : piece_written at bcd p area ≡ paste at bytes area = piece_put at bcd p area (and_left (is_piece p) _ good) fit in
    let same : length (piece_written at bcd p area) ≡ length area = ap length one ∙ length_paste at bytes area fit in
    pieces_put (at + length bytes) bcd ps (piece_written at bcd p area) (and_right (is_piece p) _ good) (omega arith)
    ∙ ap (paste (at + length bytes) (image_bytes bcd ps)) one
    ∙ paste_paste at (length bytes) bytes (image_bytes bcd ps) area refl fit

-- what the calls wrote, read from where they wrote it
pub series_read : (at : ℕ) (bcd : Bool) (ps : List Piece) (area : List ℕ) → all_of is_piece ps ≡ true → at + length (image_bytes bcd ps) ≤ length area
    → reel_of (part_of at (length (image_bytes bcd ps)) (written_from at bcd ps area)) ≡ finished ps (length (image_bytes bcd ps))
series_read at bcd ps area good h =
    ap (λ (l : List ℕ). reel_of (part_of at (length (image_bytes bcd ps)) l)) (pieces_put at bcd ps area good h)
    ∙ ap reel_of (paste_part at (image_bytes bcd ps) area h) ∙ written_read bcd ps good
