-- An answer's line, piece by piece. Assumes nothing.
use mathlib.Core.Path.{◌≡◌, refl, sym, ap, ap₂, ◌∙◌, subst}
use mathlib.Core.Bool.{Bool, true, false, cond}
use mathlib.Core.List.{List, [], ◌∷◌, ◌++◌}
use Prim.Native.Nat.{ℕ, ◌+◌, ◌-◌, ◌*◌, ◌/◌, ◌≤◌, ◌<◌}
use native.Mathlib.Omega.{arith}
use borrow.Author.Tests.{le-leb}
use lib.Dec.{leb}
use lib.ListN.{length, set, length-append}
use Rattle.area.specs.Parts.{paste, pasted_in}
use Rattle.area.proofs.Pastes.{paste_fitting, length_paste}
use Rattle.area.proofs.Joins.{set_paste}
use Rattle.area.proofs.Walks.{true_not_false}
use Rattle.session_frame.specs.Digits.{byte_digits, concat_map}
use Rattle.session_frame.specs.Fields.{word_bytes, word_digits, size_bytes, sum_bytes}
use Rattle.session_frame.specs.Writes.{place_after}
use Rattle.session_frame.proofs.Laws.Writes.{length_byte, length_word, length_concat, written, unwritten, paste_more, words_left_lem}
use Rattle.session_frame.proofs.Laws.Trips.{concat_append, words_by_bytes}
use Rattle.session_frame.specs.declared.Answer.{Answer}
use Rattle.session_frame.specs.declared.Answer.TheVariants.{Refused, Done, Asked, Reported, Delivered, Got, GotError, Returned, Runs}
use Rattle.session_frame.specs.declared.Lead.{Lead}
use Rattle.session_frame.specs.Answers.{answer_bytes, answer_text}
use Rattle.session_frame.specs.Leads.{lead_of, lead_bytes, shown_of}

-- a lead and the words that follow it are the answer's bytes
pub record Leads (a : Answer) (l : Lead) : Type 0 where
  pub some : 0 < l.count
  pub most : l.count ≤ 16
  pub worded_most : l.worded ≡ true → l.count ≤ 4
  pub long : length l.bytes ≡ 16
  pub counts : length (lead_bytes l) ≡ l.count
  pub whole : (ws : List ℕ) → answer_bytes a ws ≡ lead_bytes l ++ concat_map word_bytes (shown_of l.worded ws)

leads_is : (a : Answer) → Leads a (lead_of a)
unfolding lead_bytes answer_bytes concat_map sum_bytes size_bytes
leads_is (Refused n) = record { some = omega arith; most = omega arith; worded_most = λ e. omega arith; long = refl; counts = refl; whole = λ ws. refl }
leads_is Done = record { some = omega arith; most = omega arith; worded_most = λ e. omega arith; long = refl; counts = refl; whole = λ ws. refl }
leads_is (Asked u) = record { some = omega arith; most = omega arith; worded_most = λ e. omega arith; long = refl; counts = refl; whole = λ ws. refl }
leads_is (Reported r u) = record { some = omega arith; most = omega arith; worded_most = λ e. omega arith; long = refl; counts = refl; whole = λ ws. refl }
leads_is (Delivered r c u) = record { some = omega arith; most = omega arith; worded_most = λ e. true_not_false e refl; long = refl; counts = refl; whole = λ ws. refl }
leads_is (Got n) = record { some = omega arith; most = omega arith; worded_most = λ e. omega arith; long = refl; counts = refl; whole = λ ws. refl }
leads_is (GotError n c) = record { some = omega arith; most = omega arith; worded_most = λ e. true_not_false e refl; long = refl; counts = refl; whole = λ ws. refl }
leads_is (Returned e p) = record { some = omega arith; most = omega arith; worded_most = λ e. true_not_false e refl; long = refl; counts = refl; whole = λ ws. refl }
leads_is (Runs p) = record { some = omega arith; most = omega arith; worded_most = λ e. true_not_false e refl; long = refl; counts = refl; whole = λ ws. refl }

pub leads : (a : Answer) (l : Lead) → l ≡ lead_of a → Leads a l
leads a l e = subst (λ (x : Lead). Leads a x) (sym e) (leads_is a)

-- ---- the whole line: the lead, the words that are shown, the line feed

module _ (a : Answer) (l : Lead) (ws part : List ℕ) (is : Leads a l) (same : part ≡ shown_of l.worded ws) where
  head : List ℕ
  head = concat_map byte_digits (lead_bytes l)

  tail : List ℕ
  tail = concat_map word_digits part

  text_pieces : answer_text a ws ≡ (head ++ tail) ++ (10 ∷ [])
  unfolding answer_text head tail
  text_pieces =
      ap (λ (bs : List ℕ). concat_map byte_digits bs ++ (10 ∷ [])) (is.whole ws ∙ ap (λ (v : List ℕ). lead_bytes l ++ concat_map word_bytes v) (sym same))
      ∙ ap (λ (t : List ℕ). t ++ (10 ∷ []))
      (concat_append byte_digits (lead_bytes l) (concat_map word_bytes part) ∙ ap (λ (t : List ℕ). concat_map byte_digits (lead_bytes l) ++ t) (sym (words_by_bytes part)))

  head_long : length head ≡ 2 * l.count
  unfolding head
  head_long = length_concat byte_digits 2 length_byte (lead_bytes l) ∙ ap (λ (k : ℕ). 2 * k) is.counts

  tail_long : length tail ≡ 10 * length part
  unfolding tail
  tail_long = length_concat word_digits 10 length_word part

  front_long : length (head ++ tail) ≡ 2 * l.count + 10 * length part
  front_long = length-append head tail ∙ ap₂ (λ (x y : ℕ). x + y) head_long tail_long

  pub text_length : length (answer_text a ws) ≡ 2 * l.count + 10 * length part + 1
  text_length = ap length text_pieces ∙ length-append (head ++ tail) (10 ∷ []) ∙ ap (λ (k : ℕ). k + 1) front_long

  module _ (xs : List ℕ) (t : Bool) (test : t ≡ leb (2 * l.count + 10 * length part + 1) (length xs)) where
    long : length (answer_text a ws) ≡ 2 * l.count + 10 * length part + 1
    long = text_length

    fits_at : t ≡ leb (0 + (2 * l.count + 10 * length part + 1)) (length xs)
    fits_at =
        let z : 2 * l.count + 10 * length part + 1 ≡ 0 + (2 * l.count + 10 * length part + 1) = omega arith in
        test ∙ ap (λ (k : ℕ). leb k (length xs)) z

    pub text_unwritten : t ≡ false → (0 ≡ place_after 0 (answer_text a ws) xs) × (xs ≡ pasted_in 0 (answer_text a ws) xs)
    text_unwritten e = unwritten 0 (2 * l.count + 10 * length part + 1) (answer_text a ws) xs long t fits_at e

    pub record Wrote (end : ℕ) (q : List ℕ) : Type 0 where
      pub place : end ≡ 2 * l.count + 10 * length part
      pub inside : end < length q
      pub kept : length q ≡ length xs
      pub answer : end + 1 ≡ place_after 0 (answer_text a ws) xs
      pub text : set q end 10 ≡ pasted_in 0 (answer_text a ws) xs

    pub text_written : t ≡ true → 2 * l.count + 10 * length part + 1 ≤ length xs → (o q : List ℕ) (mid end : ℕ) → mid ≡ 2 * l.count
        → o ≡ paste 0 (concat_map byte_digits (lead_bytes l)) xs → end ≡ place_after mid (concat_map word_digits part) o
        → q ≡ pasted_in mid (concat_map word_digits part) o → Wrote end q
    unfolding head tail place_after
    text_written e room o q mid end m w f g =
        let hl : length (concat_map byte_digits (lead_bytes l)) ≡ 2 * l.count = head_long in
        let tl : length (concat_map word_digits part) ≡ 10 * length part = tail_long in
        let ho : 0 + length (concat_map byte_digits (lead_bytes l)) ≤ length xs = omega arith in
        let same-o : length o ≡ length xs = ap length w ∙ length_paste 0 (concat_map byte_digits (lead_bytes l)) xs ho in
        let fit : mid + length (concat_map word_digits part) ≤ length o = omega arith in
        let q_is : q ≡ paste mid (concat_map word_digits part) o = g ∙ paste_fitting mid (concat_map word_digits part) o fit in
        let same-q : length q ≡ length xs = ap length q_is ∙ length_paste mid (concat_map word_digits part) o fit ∙ same-o in
        let m0 : mid ≡ 0 + 2 * l.count = omega arith in
        let both : q ≡ paste 0 (head ++ tail) xs =
        paste_more 0 (2 * l.count) head tail xs o q head_long (omega arith) w (q_is ∙ ap (λ (k : ℕ). paste k tail o) m0) in
        let place : end ≡ 2 * l.count + 10 * length part =
        f ∙ ap (λ (b : Bool). cond b (mid + length (concat_map word_digits part)) mid) (le-leb (mid + length (concat_map word_digits part)) (length o) fit) ∙ omega arith in
        let inside : end < length q = omega arith in
        let e0 : end ≡ 0 + (2 * l.count + 10 * length part) = omega arith in
        let out : set q end 10 ≡ paste 0 ((head ++ tail) ++ (10 ∷ [])) xs =
        paste_more 0 (2 * l.count + 10 * length part) (head ++ tail) (10 ∷ []) xs q (set q end 10) front_long (omega arith) both
        (set_paste end 10 q inside ∙ ap (λ (k : ℕ). paste k (10 ∷ []) q) e0) in
        let r = written 0 (2 * l.count + 10 * length part + 1) (answer_text a ws) xs long t fits_at e (set q end 10)
        (out ∙ ap (λ (x : List ℕ). paste 0 x xs) (sym text_pieces)) in
        let step : end + 1 ≡ 0 + (2 * l.count + 10 * length part + 1) = omega arith in
        record { place = place; inside = inside; kept = same-q; answer = step ∙ r.0; text = r.1 }

-- whether the line fits, by what is left after its lead and its line feed
pub line_room : (len count n : ℕ) → 2 * count + 1 ≤ len → leb n ((len - (2 * count + 1)) / 10) ≡ leb (2 * count + 10 * n + 1) len
line_room len count n h =
    let e : 2 * count + 1 + 10 * n ≡ 2 * count + 10 * n + 1 = omega arith in
    words_left_lem len (2 * count + 1) n h ∙ ap (λ (k : ℕ). leb k len) e
