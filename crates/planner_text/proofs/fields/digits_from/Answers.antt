-- `planner_text::fields::digits_from` meets its contract. The number so far, with the digits that are left, is the whole number. Assumes nothing.
use mathlib.Core.Path.{◌≡◌, refl, sym, ap, ◌∙◌}
use mathlib.Core.Bool.{true}
use Prim.Native.Nat.{◌+◌}
use native.Mathlib.Omega.{arith}
use borrow.Author.Tests.{leb-true}
use lib.Dec.{leb}
use lib.ListN.{drop, get_or}
use Rattle.area.proofs.Walks.{and_left, and_right}
use Rattle.planner_text.specs.Fields.{digit, digits_from}
use Rattle.planner_text.proofs.Steps.{digits_go, digits_stop, digits_end}
use borrow.Author.Rules.{rules}
use Rattle.planner_text.proofs.fields.digits_from.Goals as goal

pub loop-c-init : goal.loop-c-init
loop-c-init c = (search rules, refl)

pub returns-then-not-is_digit : goal.returns-then-not-is_digit
returns-then-not-is_digit c = let at-args = c.args in
    let at-loop = c.loop-c in
    let at-loop-test = c.loop-c-test in
    let at-is-digit = c.is_digit in (
      sym (digits_stop at-args.field.now at-loop.c-index _ at-loop-test.true (sym at-is-digit.ensures ∙ c.if-not-is_digit.true)) ∙ at-loop.invariant.1,
      search rules,
    )

pub with_digit-v-requires : goal.with_digit-v-requires
with_digit-v-requires c = let at-args = c.args in
    let at-loop = c.loop-c in
    let at-is-digit = c.is_digit in
    let d = get_or at-args.field.now at-loop.c-index 0 in
    let some : digit d ≡ true = sym at-is-digit.ensures ∙ c.if-not-is_digit.false in
    (at-loop.invariant.0, leb-true 48 d (and_left (leb 48 d) (leb d 57) some), leb-true d 57 (and_right (leb 48 d) (leb d 57) some))

pub loop-c-preserved : goal.loop-c-preserved
loop-c-preserved c = let at-loop = c.loop-c in
    let at-args = c.args in
    let at-loop-test = c.loop-c-test in
    let at-is-digit = c.is_digit in
    let at-if1 = c.if-not-is_digit in (
      c.with_digit-v.ensures.1,
      ap (λ v. digits_from v (drop (at-loop.c-index + 1) at-args.field.now)) c.with_digit-v.ensures.0 ∙ (sym (digits_go at-args.field.now at-loop.c-index _ at-loop-test.true (sym at-is-digit.ensures ∙ at-if1.false)) ∙ at-loop.invariant.1),
    )

pub returns : goal.returns
returns c = let at-args = c.args in
    let at-loop = c.loop-c in
    (sym (digits_end at-args.field.now at-loop.c-index _ c.loop-c-test.false) ∙ at-loop.invariant.1, omega arith)
