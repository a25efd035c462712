-- The longest answer, and an answer's line read back: its bytes and its words are those that were written. Assumes nothing.
use mathlib.Core.Path.{◌≡◌, refl, ap, ◌∙◌}
use mathlib.Core.Bool.{Bool, true, false, cond}
use mathlib.Core.List.{List, [], ◌∷◌, ◌++◌}
use Prim.Native.Nat.{ℕ, ◌+◌, ◌-◌, ◌^◌, ◌≤◌, ◌<◌}
use native.Mathlib.Omega.{arith}
use borrow.Author.Tests.{ltb-true, lt-ltb, le-leb}
use lib.ListN.{length, drop, length-append}
use lib.Seq.{take_at, drop_at}
use Rattle.area.specs.Lists.{all_of}
use Rattle.area.specs.Parts.{is_word, paste, pasted_in}
use Rattle.area.proofs.Pastes.{paste_fitting}
use Rattle.area.proofs.Walks.{and_both, and_left, and_right, all_append}
use Rattle.session_frame.specs.Digits.{is_byte, is_digit, bytes_of, byte_digits, concat_map}
use Rattle.session_frame.specs.Fields.{is_five, word_bytes, words_of}
use Rattle.session_frame.specs.Writes.{place_after}
use Rattle.session_frame.proofs.Laws.Trips.{bytes_back, words_back, word_bytes_are, digits_are}
use Rattle.session_frame.specs.declared.Answer.{Answer}
use Rattle.session_frame.specs.Answers.{answer_bytes, answer_text, answer_line}
use Rattle.session_frame.specs.Leads.{lead_of, lead_bytes, shown_of}
use Rattle.session_frame.proofs.Laws.Texts.{Leads, leads, text_length}

-- ---- the longest

shown_most : (t : Bool) (ws : List ℕ) → length (shown_of t ws) ≤ length ws
shown_most true ws = omega arith
shown_most false ws = omega arith

pub answer_longest : (a : Answer) (ws : List ℕ) → length ws ≤ 1024 → length (answer_text a ws) ≤ 10249
answer_longest a ws h = go (lead_of a).worded refl
  where
    is : Leads a (lead_of a)
    is = leads a (lead_of a) refl

    go : (t : Bool) → (lead_of a).worded ≡ t → length (answer_text a ws) ≤ 10249
    go true e = omega (arith, text_length a (lead_of a) ws (shown_of (lead_of a).worded ws) is refl, shown_most (lead_of a).worded ws, is.worded_most e)
    go false e =
        let none : length (shown_of (lead_of a).worded ws) ≡ 0 = ap (λ (t : Bool). length (shown_of t ws)) e in
        omega (arith, text_length a (lead_of a) ws (shown_of (lead_of a).worded ws) is refl, is.most)

-- so an area of 10,249 characters takes every answer of at most 1,024 words
pub answer_fits : (a : Answer) (ws xs : List ℕ) → length ws ≤ 1024 → 10249 ≤ length xs
    → (place_after 0 (answer_text a ws) xs ≡ length (answer_text a ws)) × (pasted_in 0 (answer_text a ws) xs ≡ paste 0 (answer_text a ws) xs)
unfolding place_after
answer_fits a ws xs h room =
    let fit : 0 + length (answer_text a ws) ≤ length xs = omega (arith, answer_longest a ws h) in
    let z : 0 + length (answer_text a ws) ≡ length (answer_text a ws) = omega arith in
    (ap (λ (t : Bool). cond t (0 + length (answer_text a ws)) 0) (le-leb _ _ fit) ∙ z, paste_fitting 0 (answer_text a ws) xs fit)

-- ---- read back

line_digits : (a : Answer) (ws : List ℕ) → answer_line a ws ≡ concat_map byte_digits (answer_bytes a ws)
unfolding answer_line answer_text
line_digits a ws =
    let n : length (concat_map byte_digits (answer_bytes a ws)) ≡ length (concat_map byte_digits (answer_bytes a ws) ++ (10 ∷ [])) - 1 =
    omega (arith, length-append (concat_map byte_digits (answer_bytes a ws)) (10 ∷ [])) in
    take_at (concat_map byte_digits (answer_bytes a ws)) (10 ∷ []) _ n

-- the answer's own numbers are bytes
module _ (a : Answer) (ws : List ℕ) (small : all_of is_byte (lead_bytes (lead_of a)) ≡ true) where
  bytes_are : all_of is_byte (answer_bytes a ws) ≡ true
  bytes_are =
      ap (all_of is_byte) ((leads a (lead_of a) refl).whole ws)
      ∙ all_append is_byte (lead_bytes (lead_of a)) (concat_map word_bytes (shown_of (lead_of a).worded ws))
      ∙ and_both _ _ small (word_bytes_are (shown_of (lead_of a).worded ws))

  -- every character before the line feed is a digit
  pub line_is_digits : all_of is_digit (answer_line a ws) ≡ true
  line_is_digits = ap (all_of is_digit) (line_digits a ws) ∙ digits_are (answer_bytes a ws) bytes_are

  -- and they stand for the answer's bytes
  pub answer_back : bytes_of (answer_line a ws) ≡ answer_bytes a ws
  answer_back = ap bytes_of (line_digits a ws) ∙ bytes_back (answer_bytes a ws) bytes_are

  words_five : (vs : List ℕ) → all_of is_word vs ≡ true → all_of is_five vs ≡ true
  unfolding all_of
  words_five [] h = refl
  words_five (v ∷ vs) h =
      let low : v < 2 ^ 36 = ltb-true v (2 ^ 36) (and_left _ _ h) in
      and_both _ _ (lt-ltb v (2 ^ 40) (omega arith)) (words_five vs (and_right (is_word v) _ h))

  -- the words after the lead are those that were given
  pub answer_words_back : (lead_of a).worded ≡ true → all_of is_word ws ≡ true → words_of (drop (lead_of a).count (bytes_of (answer_line a ws))) ≡ ws
  answer_words_back w h =
      let is = leads a (lead_of a) refl in
      ap (λ (bs : List ℕ). words_of (drop (lead_of a).count bs)) (answer_back ∙ is.whole ws)
      ∙ ap words_of (drop_at (lead_bytes (lead_of a)) (concat_map word_bytes (shown_of (lead_of a).worded ws)) (lead_of a).count is.counts)
      ∙ ap (λ (t : Bool). words_of (concat_map word_bytes (shown_of t ws))) w ∙ words_back ws (words_five ws h)
