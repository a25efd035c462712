-- `planner::walk::owners_next` meets its contract: for a closing, a missing row and a row. Assumes nothing.
use mathlib.Core.Path.{sym, ap, ◌∙◌}
use Prim.Native.Nat.{◌+◌}
use Rattle.planner.proofs.Turns.{next_closing, next_missing, next_row}
use Rattle.planner.proofs.walk.owners_next.Goals as goal

pub returns-then-not-opens : goal.returns-then-not-opens
returns-then-not-opens c = let at-args = c.args in
    let at-file-of = c.file_of-v in
    let at-opens = c.opens in
    let at-if1 = c.if-not-opens in
    c.release.ensures
    ∙ next_closing _ at-args.e _ (ap (λ f. f + 1) at-file-of.ensures.0) _ (sym at-opens.ensures ∙ at-if1.true)

pub returns-then-rows-n : goal.returns-then-rows-n
returns-then-rows-n c = let at-args = c.args in
    let at-file-of = c.file_of-v in
    let at-opens = c.opens in
    let at-if1 = c.if-not-opens in
    let at-if2 = c.if-rows-n in
    c.claim.ensures
    ∙ next_missing _ at-args.e _ (ap (λ f. f + 1) at-file-of.ensures.0) _ _ (sym at-opens.ensures ∙ at-if1.false) at-if2.true

pub returns : goal.returns
returns c = let at-args = c.args in
    let at-file-of = c.file_of-v in
    let at-opens = c.opens in
    let at-if1 = c.if-not-opens in
    c.claim-2.ensures
    ∙ next_row at-args.owner at-args.e _ (ap (λ f. f + 1) at-file-of.ensures.0) at-args.rows.now at-args.n (sym at-opens.ensures ∙ at-if1.false)
