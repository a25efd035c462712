-- `tape::records::next_record` meets its contract, case by case of what can stand at a place. Assumes nothing.
use mathlib.Core.Path.{refl, sym, ◌∙◌}
use Rattle.tape.proofs.Laws.Numbers.{given_some, given_none}
use Rattle.tape.proofs.Laws.Nexts.{next_more, next_end, next_short, next_mark, next_fault, next_block}
use Rattle.tape.proofs.records.next_record.Goals as goal

pub returns-then-ended-left : goal.returns-then-ended-left
returns-then-ended-left c = let a = c.args in
    next_more a.image.now a.at a.ended _ c.left_of-left.ensures c.if-ended-left.true

pub returns-then-left-eq0 : goal.returns-then-left-eq0
returns-then-left-eq0 c = let a = c.args in
    next_end a.image.now a.at a.ended _ c.left_of-left.ensures c.if-ended-left.false c.if-left-eq0.true

pub returns-then-left-lt4 : goal.returns-then-left-lt4
returns-then-left-lt4 c = let a = c.args in
    next_short a.image.now a.at a.ended _ c.left_of-left.ensures c.if-ended-left.false c.if-left-eq0.false c.if-left-lt4.true

pub returns-then-n-eq0 : goal.returns-then-n-eq0
returns-then-n-eq0 c = let a = c.args in
    next_mark a.image.now a.at a.ended _ c.left_of-left.ensures c.if-ended-left.false c.if-left-lt4.false _ c.length_at-n.ensures.0 c.if-n-eq0.true

pub returns-in-Some : goal.returns-in-Some
returns-in-Some c = let a = c.args in
    let fault = given_some _ c.in-Some.number c.in-Some.ensures in
    next_fault a.image.now a.at a.ended _ c.left_of-left.ensures c.if-ended-left.false c.if-left-lt4.false _ c.length_at-n.ensures.0 c.if-n-eq0.false _ c.differ_at-differ.ensures c.in-Some.number fault.0 (λ z. fault.1 (sym fault.0 ∙ z))

pub returns : goal.returns
returns c = let a = c.args in
    next_block a.image.now a.at a.ended _ c.left_of-left.ensures c.if-ended-left.false c.if-left-lt4.false _ c.length_at-n.ensures.0 c.if-n-eq0.false _ c.differ_at-differ.ensures _ _ refl (given_none _ c.in_default.ensures) c.record_size-size.ensures
