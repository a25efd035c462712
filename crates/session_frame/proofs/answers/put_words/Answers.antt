-- `session_frame::answers::put_words` meets its contract. What is left of the words, written from where the loop stands, gives the whole. Assumes nothing.
use borrow.Author.Tests.{leb-true}
use mathlib.Core.Path.{◌≡◌, refl, sym, ap, ◌∙◌}
use Prim.Native.Nat.{ℕ, ◌+◌, ◌*◌, ◌≤◌, ◌<◌}
use native.Mathlib.Omega.{arith}
use lib.ListN.{length}
use Rattle.session_frame.specs.Digits.{concat_map}
use Rattle.session_frame.specs.Fields.{word_digits}
use Rattle.session_frame.proofs.Laws.Writes.{length_word, length_concat, written, unwritten, write_one, write_length, write_all}
use Rattle.session_frame.proofs.answers.put_words.Goals as goal

pub returns-then-not-words_fit : goal.returns-then-not-words_fit
returns-then-not-words_fit c = let both = (let a = c.args in
    unwritten a.at (10 * length a.words.now) (concat_map word_digits a.words.now) a.out.now (length_concat word_digits 10 length_word a.words.now) _ c.words_fit.ensures c.if-not-words_fit.true) in record { value = both.0; out_after = both.1 }

pub loop-word-init : goal.loop-word-init
loop-word-init c = (omega arith, refl, leb-true _ _ (sym c.words_fit.ensures ∙ c.if-not-words_fit.false), refl)

pub loop-word-preserved : goal.loop-word-preserved
loop-word-preserved c = let write_word = c.write_word in
    let t = c.loop-word in
    let a = c.args in
    let h : t.word-index < length a.words.now = c.loop-word-test.true in
    let r : t.to + 10 ≤ length t.out = omega arith in (
      omega arith,
      write_length word_digits 10 length_word a.out.now a.words.now t.out t.to t.word-index r _ write_word.ensures ∙ t.invariant.1,
      t.invariant.2,
      write_one word_digits 10 length_word a.out.now a.words.now t.out t.to t.word-index a.at h r t.invariant.3 _ write_word.ensures,
    )

pub shape_of-out : goal.shape_of-out
shape_of-out c = c.loop-word.invariant.1

pub returns : goal.returns
returns c = let t = c.loop-word in
    let a = c.args in
    let n : t.word-index ≡ length a.words.now = omega (arith, c.loop-word-test.false) in
    let w = written a.at (10 * length a.words.now) (concat_map word_digits a.words.now) a.out.now (length_concat word_digits 10 length_word a.words.now) _ c.words_fit.ensures c.if-not-words_fit.false t.out (write_all word_digits 10 length_word a.out.now a.words.now t.out t.to t.word-index a.at c.loop-word-test.false t.invariant.3) in record { value = t.invariant.0 ∙ ap (λ (k : ℕ). a.at + 10 * k) n ∙ w.0; out_after = w.1 }
