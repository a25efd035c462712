-- `block_bytes::check_bytes` meets its contract: what is not refused as bytes is judged as words, and what was found is written out. Assumes nothing.
use Prim.Native.Nat.{ℕ}
use Rattle.area.proofs.Walks.{or_left}
use Rattle.area.specs.Parts.{pasted_in}
use Rattle.block_bytes.proofs.Sealing.{wrong_checked, right_room, right_number, room_long, judged_room, judged_refused, judged_found}
use lib.Dec.{ltb}
use lib.ListN.{length, replicate}
use lib.Seq.{length-take-le}
use mathlib.Core.Bool.{Bool, ◌||◌}
use mathlib.Core.List.{List}
use mathlib.Core.Path.{sym, ap, ◌∙◌}
use native.Mathlib.Omega.{arith}
use Rattle.block_bytes.proofs.check_bytes.Goals as goal

pub returns-then-argument_wrong-found : goal.returns-then-argument_wrong-found
returns-then-argument_wrong-found c = let both = (let a = c.args in wrong_checked a.block.now a.found.now a.fields a.number (ap (λ (b : Bool). b || ltb (length a.found.now) 12) (sym c.argument_wrong.ensures) ∙ c.if-argument_wrong-found.true)) in record { value = both.0; found_after = both.1 }

pub words_in-k-requires : goal.words_in-k-requires
words_in-k-requires c = let a = c.args in right_room a.block.now a.fields a.number (sym c.argument_wrong.ensures ∙ or_left _ _ c.if-argument_wrong-found.false)

pub slice_bounds-words-end : goal.slice_bounds-words-end
slice_bounds-words-end c = let a = c.args in room_long a.block.now (replicate 1025 0) (right_room a.block.now a.fields a.number (sym c.argument_wrong.ensures ∙ or_left _ _ c.if-argument_wrong-found.false)) _ _ c.words_in-k.ensures.value c.words_in-k.ensures.room_after

pub slice_bounds-judge-end : goal.slice_bounds-judge-end
slice_bounds-judge-end c = let a = c.args in sym (length-take-le _ _ (room_long a.block.now (replicate 1025 0) (right_room a.block.now a.fields a.number (sym c.argument_wrong.ensures ∙ or_left _ _ c.if-argument_wrong-found.false)) _ _ c.words_in-k.ensures.value c.words_in-k.ensures.room_after))

pub overflow_cast-number : goal.overflow_cast-number
overflow_cast-number c = let a = c.args in omega (arith, right_number a.block.now a.fields a.number (sym c.argument_wrong.ensures ∙ or_left _ _ c.if-argument_wrong-found.false))

pub returns-then-j-ne0 : goal.returns-then-j-ne0
returns-then-j-ne0 c = let both = (let a = c.args in let right = ap (λ (b : Bool). b || ltb (length a.found.now) 12) (sym c.argument_wrong.ensures) ∙ c.if-argument_wrong-found.false in judged_refused a.block.now a.found.now a.fields a.number right _ (judged_room a.block.now (replicate 1025 0) (right_room a.block.now a.fields a.number (or_left _ _ right)) _ _ a.fields a.number _ _ _ c.words_in-k.ensures.value c.words_in-k.ensures.room_after c.has_sequence.ensures c.has_check.ensures c.judge-j.ensures) c.if-j-ne0.true) in record { value = both.0; found_after = both.1 }

pub returns : goal.returns
returns c = let a = c.args in let right = ap (λ (b : Bool). b || ltb (length a.found.now) 12) (sym c.argument_wrong.ensures) ∙ c.if-argument_wrong-found.false in let x = judged_found a.block.now a.found.now a.fields a.number right _ (judged_room a.block.now (replicate 1025 0) (right_room a.block.now a.fields a.number (or_left _ _ right)) _ _ a.fields a.number _ _ _ c.words_in-k.ensures.value c.words_in-k.ensures.room_after c.has_sequence.ensures c.has_check.ensures c.judge-j.ensures) c.if-j-ne0.false in record { value = x.0; found_after = c.put_bytes.ensures ∙ ap (λ (l : List ℕ). pasted_in 0 l a.found.now) c.found_bytes.ensures ∙ x.1 }
