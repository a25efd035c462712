-- `numbers::next` meets its contract. The number so far, with the digits that are left, is the whole number. Assumes nothing.
use Rattle.std.proofs.Common.{◌≡◌, ℕ, ◌+◌, ◌<◌, ◌≤◌, length, get_or, drop, true, false, sym, ap, ◌∙◌, arith}
use Rattle.numbers.specs.Decimal.{is_digit, digits, value_from}
use Rattle.numbers.proofs.Laws.{digits_stop, digits_go, digits_end, value_stop, value_go, value_end, next_read, next_later}
use Rattle.numbers.proofs.next.Goals as goal

pub returns-then-not-is_ascii_digit : goal.returns-then-not-is_ascii_digit
returns-then-not-is_ascii_digit c = let text = c.args.text.now in
    let at = c.args.at in
    let i = c.loop-i.i in
    let s = c.digit_from-start.result in
    let first = c.digit_from-start.ensures.0 in
    let h : i < length text = omega arith in
    let none : is_digit (get_or text i 0) ≡ false = sym c.is_ascii_digit.ensures.value ∙ c.if-not-is_ascii_digit.true in
    let value = sym (value_stop text i h c.loop-i.value none) ∙ c.loop-i.invariant.1 in
    let ends : i ≡ s + digits (drop s text) = omega (arith, digits_stop text i h none, c.loop-i.invariant.2) in record {
      value = next_read text at s c.loop-i.value i first ends value;
      at_le_at = (omega (arith, c.digit_from-start.ensures.1), next_later text at s c.loop-i.value i first ends, omega arith);
    }

pub loop-i-preserved : goal.loop-i-preserved
loop-i-preserved c = let text = c.args.text.now in
    let i = c.loop-i.i in
    let h : i < length text = omega arith in
    let some : is_digit (get_or text i 0) ≡ true = sym c.is_ascii_digit.ensures.value ∙ c.if-not-is_ascii_digit.false in (
      omega arith,
      ap (λ (v : ℕ). value_from v (drop (i + 1) text)) c.with_digit-value.ensures ∙ sym (value_go text i h c.loop-i.value some) ∙ c.loop-i.invariant.1,
      omega (arith, digits_go text i h some, c.loop-i.invariant.2),
    )

pub returns : goal.returns
returns c = let text = c.args.text.now in
    let at = c.args.at in
    let i = c.loop-i.i in
    let s = c.digit_from-start.result in
    let first = c.digit_from-start.ensures.0 in
    let h : length text ≤ i = omega arith in
    let value = sym (value_end text i h c.loop-i.value) ∙ c.loop-i.invariant.1 in
    let ends : c.max.result ≡ s + digits (drop s text) = omega (arith, c.max.ensures, digits_end text i h, c.loop-i.invariant) in record {
      value = next_read text at s c.loop-i.value c.max.result first ends value;
      at_le_at = (omega (arith, c.max.ensures, c.digit_from-start.ensures.1), next_later text at s c.loop-i.value c.max.result first ends, omega (arith, c.max.ensures, c.digit_from-start.ensures));
    }
