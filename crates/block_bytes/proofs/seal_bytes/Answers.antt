-- `block_bytes::seal_bytes` meets its contract: what is not refused as bytes is sealed as words, and its check word is written back. Assumes nothing.
use Prim.Native.Nat.{ℕ, ◌+◌, ◌-◌, ◌*◌, ◌≤◌}
use Rattle.area.specs.Parts.{pasted_in}
use Rattle.block_bytes.proofs.Sealing.{refused_bytes, wrong_sealed, right_room, right_number, room_long, sealed_none, sealed_as, sealed_room, written_room, sealed_plain, sealed_last}
use Rattle.block_bytes.specs.ByteBlocks.{argument_wrong, check_words, data_count}
use Rattle.session_frame.proofs.Laws.Bytes.{length_words}
use Rattle.session_frame.specs.Fields.{words_of}
use Rattle.word.specs.CheckWords.{extra}
use lib.ListN.{length, replicate}
use lib.Seq.{length-take-le}
use mathlib.Core.Bool.{false}
use mathlib.Core.List.{List}
use mathlib.Core.Path.{◌≡◌, sym, ap, ap₂, ◌∙◌}
use native.Mathlib.Omega.{arith}
use Rattle.block_bytes.proofs.seal_bytes.Goals as goal

pub returns-then-argument_wrong : goal.returns-then-argument_wrong
returns-then-argument_wrong c = let a = c.args in let e = wrong_sealed a.block.now a.fields a.number (sym c.argument_wrong.ensures ∙ c.if-argument_wrong.true) in record { value = e; block_after = refused_bytes a.block.now a.fields a.number 1 (λ z. omega (arith, z)) e }

pub words_in-k-requires : goal.words_in-k-requires
words_in-k-requires c = let a = c.args in right_room a.block.now a.fields a.number (sym c.argument_wrong.ensures ∙ c.if-argument_wrong.false)

pub returns-then-k-e : goal.returns-then-k-e
returns-then-k-e c = let a = c.args in let right : argument_wrong (length a.block.now) a.fields a.number ≡ false = sym c.argument_wrong.ensures ∙ c.if-argument_wrong.false in let ee : c.extra-e.result ≡ check_words a.fields = c.extra-e.ensures.0 ∙ ap₂ extra c.has_sequence-sequence.ensures c.has_check-check.ensures in let ek : c.words_in-k.result ≡ length (words_of a.block.now) = c.words_in-k.ensures.value in let e = sealed_none a.block.now a.fields a.number right (omega (arith, ee, ek, c.if-k-e.true)) in record { value = e; block_after = refused_bytes a.block.now a.fields a.number 13 (λ z. omega (arith, z)) e }

pub slice_bounds-words-end : goal.slice_bounds-words-end
slice_bounds-words-end c = let a = c.args in room_long a.block.now (replicate 1025 0) (right_room a.block.now a.fields a.number (sym c.argument_wrong.ensures ∙ c.if-argument_wrong.false)) _ _ c.words_in-k.ensures.value c.words_in-k.ensures.room_after

pub slice_bounds-seal-end : goal.slice_bounds-seal-end
slice_bounds-seal-end c = let a = c.args in sym (length-take-le _ _ (room_long a.block.now (replicate 1025 0) (right_room a.block.now a.fields a.number (sym c.argument_wrong.ensures ∙ c.if-argument_wrong.false)) _ _ c.words_in-k.ensures.value c.words_in-k.ensures.room_after))

pub overflow_cast-number : goal.overflow_cast-number
overflow_cast-number c = let a = c.args in omega (arith, right_number a.block.now a.fields a.number (sym c.argument_wrong.ensures ∙ c.if-argument_wrong.false))

pub returns-then-refusal-ne0 : goal.returns-then-refusal-ne0
returns-then-refusal-ne0 c = let a = c.args in let right : argument_wrong (length a.block.now) a.fields a.number ≡ false = sym c.argument_wrong.ensures ∙ c.if-argument_wrong.false in let ee : c.extra-e.result ≡ check_words a.fields = c.extra-e.ensures.0 ∙ ap₂ extra c.has_sequence-sequence.ensures c.has_check-check.ensures in let ek : c.words_in-k.result ≡ length (words_of a.block.now) = c.words_in-k.ensures.value in let some : 1 + check_words a.fields ≤ length (words_of a.block.now) = omega (arith, ee, ek, c.if-k-e.false) in let same = sealed_room a.block.now (replicate 1025 0) (right_room a.block.now a.fields a.number right) _ _ _ a.fields a.number _ _ _ ek c.words_in-k.ensures.room_after c.extra-e.ensures.0 c.has_sequence-sequence.ensures c.has_check-check.ensures c.seal-refusal.ensures.value ∙ sealed_as a.block.now a.fields a.number right some in record { value = same; block_after = refused_bytes a.block.now a.fields a.number _ c.if-refusal-ne0.true same }

pub returns-then-e-eq0 : goal.returns-then-e-eq0
returns-then-e-eq0 c = let a = c.args in let right : argument_wrong (length a.block.now) a.fields a.number ≡ false = sym c.argument_wrong.ensures ∙ c.if-argument_wrong.false in let ee : c.extra-e.result ≡ check_words a.fields = c.extra-e.ensures.0 ∙ ap₂ extra c.has_sequence-sequence.ensures c.has_check-check.ensures in let ek : c.words_in-k.result ≡ length (words_of a.block.now) = c.words_in-k.ensures.value in let some : 1 + check_words a.fields ≤ length (words_of a.block.now) = omega (arith, ee, ek, c.if-k-e.false) in let same = sealed_room a.block.now (replicate 1025 0) (right_room a.block.now a.fields a.number right) _ _ _ a.fields a.number _ _ _ ek c.words_in-k.ensures.room_after c.extra-e.ensures.0 c.has_sequence-sequence.ensures c.has_check-check.ensures c.seal-refusal.ensures.value ∙ sealed_as a.block.now a.fields a.number right some in let none = sym c.if-refusal-ne0.false ∙ same in record { value = none; block_after = sealed_plain a.block.now a.fields a.number right some none (sym ee ∙ c.if-e-eq0.true) }

pub offset_bounds-words-n : goal.offset_bounds-words-n
offset_bounds-words-n c = let a = c.args in let right : argument_wrong (length a.block.now) a.fields a.number ≡ false = sym c.argument_wrong.ensures ∙ c.if-argument_wrong.false in let ee : c.extra-e.result ≡ check_words a.fields = c.extra-e.ensures.0 ∙ ap₂ extra c.has_sequence-sequence.ensures c.has_check-check.ensures in let ek : c.words_in-k.result ≡ length (words_of a.block.now) = c.words_in-k.ensures.value in omega (arith, ek, length_words a.block.now, right_room a.block.now a.fields a.number right)

pub bounds-words-n : goal.bounds-words-n
bounds-words-n c = let a = c.args in let right : argument_wrong (length a.block.now) a.fields a.number ≡ false = sym c.argument_wrong.ensures ∙ c.if-argument_wrong.false in let ee : c.extra-e.result ≡ check_words a.fields = c.extra-e.ensures.0 ∙ ap₂ extra c.has_sequence-sequence.ensures c.has_check-check.ensures in let ek : c.words_in-k.result ≡ length (words_of a.block.now) = c.words_in-k.ensures.value in omega (arith, ek, c.if-e-eq0.false, length_words a.block.now, right_room a.block.now a.fields a.number right)

pub overflow_mul-n : goal.overflow_mul-n
overflow_mul-n c = let a = c.args in let right : argument_wrong (length a.block.now) a.fields a.number ≡ false = sym c.argument_wrong.ensures ∙ c.if-argument_wrong.false in let ee : c.extra-e.result ≡ check_words a.fields = c.extra-e.ensures.0 ∙ ap₂ extra c.has_sequence-sequence.ensures c.has_check-check.ensures in let ek : c.words_in-k.result ≡ length (words_of a.block.now) = c.words_in-k.ensures.value in omega (arith, ek, length_words a.block.now, right_room a.block.now a.fields a.number right)

pub returns : goal.returns
returns c = let a = c.args in let right : argument_wrong (length a.block.now) a.fields a.number ≡ false = sym c.argument_wrong.ensures ∙ c.if-argument_wrong.false in let ee : c.extra-e.result ≡ check_words a.fields = c.extra-e.ensures.0 ∙ ap₂ extra c.has_sequence-sequence.ensures c.has_check-check.ensures in let ek : c.words_in-k.result ≡ length (words_of a.block.now) = c.words_in-k.ensures.value in let some : 1 + check_words a.fields ≤ length (words_of a.block.now) = omega (arith, ee, ek, c.if-k-e.false) in let same = sealed_room a.block.now (replicate 1025 0) (right_room a.block.now a.fields a.number right) _ _ _ a.fields a.number _ _ _ ek c.words_in-k.ensures.room_after c.extra-e.ensures.0 c.has_sequence-sequence.ensures c.has_check-check.ensures c.seal-refusal.ensures.value ∙ sealed_as a.block.now a.fields a.number right some in let none = sym c.if-refusal-ne0.false ∙ same in let en : c.words_in-k.result - c.extra-e.result ≡ data_count a.block.now a.fields = ap₂ ◌-◌ ek ee in let part = written_room a.block.now (replicate 1025 0) (right_room a.block.now a.fields a.number right) _ _ _ _ a.fields a.number _ _ ek c.words_in-k.ensures.room_after c.extra-e.ensures.0 c.has_sequence-sequence.ensures c.has_check-check.ensures c.seal-refusal.ensures.block_after in record { value = none; block_after = c.put_bytes.ensures ∙ ap (λ (l : List ℕ). pasted_in ((c.words_in-k.result - c.extra-e.result) * 5) l a.block.now) c.word_bytes.ensures ∙ sealed_last a.block.now a.fields a.number right some none (λ z. c.if-e-eq0.false (ee ∙ z)) _ _ _ en part }
