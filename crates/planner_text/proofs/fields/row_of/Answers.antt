-- `planner_text::fields::row_of` meets its contract: by the fields that are no numbers. Assumes nothing.
use mathlib.Core.Path.{◌∙◌}
use Rattle.planner_text.proofs.Steps.{row_file_lem, row_first_lem, row_second_lem, row_whole}
use Rattle.planner_text.proofs.fields.row_of.Goals as goal

pub returns-then-file-ge256 : goal.returns-then-file-ge256
returns-then-file-ge256 c = row_file_lem _ _ _ c.blanks-n.ensures c.number1-file.ensures.0 c.if-file-ge256.true

pub returns-then-n-b : goal.returns-then-n-b
returns-then-n-b c = let at-blanks = c.blanks-n in
    let at-number1 = c.number1-file in
    let at-if1 = c.if-file-ge256 in
    let at-number2 = c.number2-b in
    row_first_lem _ _ _ at-blanks.ensures at-number1.ensures.0 at-if1.false _ at-number2.ensures.0 c.if-n-b.true

pub returns-then-n-c : goal.returns-then-n-c
returns-then-n-c c = let at-blanks = c.blanks-n in
    let at-number1 = c.number1-file in
    let at-if1 = c.if-file-ge256 in
    let at-number2 = c.number2-b in
    let at-if2 = c.if-n-b in
    let at-number3 = c.number3-c in
    row_second_lem _ _ _ at-blanks.ensures at-number1.ensures.0 at-if1.false _ at-number2.ensures.0 at-if2.false _ at-number3.ensures.0 c.if-n-c.true

pub returns : goal.returns
returns c = let at-blanks = c.blanks-n in
    let at-number1 = c.number1-file in
    let at-if1 = c.if-file-ge256 in
    let at-number2 = c.number2-b in
    let at-if2 = c.if-n-b in
    let at-number3 = c.number3-c in
    let at-if3 = c.if-n-c in
    c.packed.ensures
    ∙ row_whole _ _ _ at-blanks.ensures at-number1.ensures.0 at-if1.false _ at-number2.ensures.0 at-if2.false _ at-number3.ensures.0 at-if3.false
