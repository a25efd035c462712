-- `tape::write::write_block` meets its contract: three pastes, one right after the other, are one. Assumes nothing.
use mathlib.Core.Path.{refl}
use native.Mathlib.Omega.{arith}
use Rattle.tape.proofs.Laws.Numbers.{given_some, given_none}
use Rattle.tape.proofs.Laws.Writes.{block_left, block_put, block_room}
use Rattle.tape.proofs.write.write_block.Goals as goal

pub returns-in-Some-clause-area_after : goal.returns-in-Some-clause-area_after
returns-in-Some-clause-area_after c = let a = c.args in
    (block_left a.area.now a.at a.bcd a.words.now _ refl (given_some _ _ c.in-Some.ensures).1).1

pub write_length-requires : goal.write_length-requires
write_length-requires c = let a = c.args in
    omega (arith, block_room a.area.now a.at a.bcd a.words.now _ refl (given_none _ c.in_default.ensures))

pub overflow_add-at : goal.overflow_add-at
overflow_add-at c = let a = c.args in
    omega (arith, block_room a.area.now a.at a.bcd a.words.now _ refl (given_none _ c.in_default.ensures))

pub write_words-requires : goal.write_words-requires
write_words-requires c = let a = c.args in
    omega (arith, block_room a.area.now a.at a.bcd a.words.now _ refl (given_none _ c.in_default.ensures))

pub overflow_add-at-2 : goal.overflow_add-at-2
overflow_add-at-2 c = let a = c.args in
    omega (arith, block_room a.area.now a.at a.bcd a.words.now _ refl (given_none _ c.in_default.ensures))

pub overflow_add-at-3 : goal.overflow_add-at-3
overflow_add-at-3 c = let a = c.args in
    omega (arith, block_room a.area.now a.at a.bcd a.words.now _ refl (given_none _ c.in_default.ensures))

pub write_length-requires-2 : goal.write_length-requires-2
write_length-requires-2 c = let a = c.args in
    omega (arith, block_room a.area.now a.at a.bcd a.words.now _ refl (given_none _ c.in_default.ensures))

pub returns-clause-area_after : goal.returns-clause-area_after
returns-clause-area_after c = let a = c.args in
    (block_put a.area.now a.at a.bcd a.words.now _ refl (given_none _ c.in_default.ensures) _ _ _ c.write_length.ensures c.write_words.ensures c.write_length-2.ensures).1
