-- `planner::walk::row_fault` meets its contract: fault by fault, by the laws of `Faults`. Assumes nothing.
use mathlib.Core.Path.{sym, ◌∙◌, ap}
use Rattle.planner.specs.Walk.{buffers_fault}
use Rattle.planner.proofs.Faults.{row_other, row_count_lem, row_buffers, one_buffer, two_buffers, asked_two}
use Rattle.planner.proofs.walk.row_fault.Goals as goal

pub returns-then-file-file_of : goal.returns-then-file-file_of
returns-then-file-file_of c = row_other _ _ _ _ (λ w. c.if-file-file_of.true (w ∙ sym c.file_of.ensures.0))

pub returns-then-count-asked : goal.returns-then-count-asked
returns-then-count-asked c = let at-if1 = c.if-file-file_of in
    let at-file-of = c.file_of in
    let at-asked = c.asked in
    row_count_lem _ _ _ _ (at-if1.false ∙ at-file-of.ensures.0) (λ w. c.if-count-asked.true (w ∙ sym at-asked.ensures))

pub returns-then-count-eq1 : goal.returns-then-count-eq1
returns-then-count-eq1 c = let at-if3 = c.if-count-eq1 in
    let at-if1 = c.if-file-file_of in
    let at-file-of = c.file_of in
    let at-if2 = c.if-count-asked in
    let at-asked = c.asked in
    c.single_fault.ensures
    ∙ (ap (buffers_fault _ _) (sym (one_buffer _ at-if3.true)) ∙ row_buffers _ _ _ _ (at-if1.false ∙ at-file-of.ensures.0) (at-if2.false ∙ at-asked.ensures))

pub returns : goal.returns
returns c = let at-if2 = c.if-count-asked in
    let at-asked = c.asked in
    let at-args = c.args in
    let at-if3 = c.if-count-eq1 in
    let at-if1 = c.if-file-file_of in
    let at-file-of = c.file_of in
    c.pair_fault.ensures
    ∙ (ap (buffers_fault _ _) (sym (two_buffers _ (at-if2.false ∙ (at-asked.ensures ∙ asked_two at-args.e (λ w. at-if3.false (at-if2.false ∙ (at-asked.ensures ∙ w))))))) ∙ row_buffers _ _ _ _ (at-if1.false ∙ at-file-of.ensures.0) (at-if2.false ∙ at-asked.ensures))
