-- `numbers::digit_from` meets its contract: what is left has the rest of the gap. Assumes nothing.
use Rattle.std.proofs.Common.{◌≡◌, ◌+◌, drop, sym, ◌∙◌, arith}
use Rattle.numbers.specs.Decimal.{gap}
use Rattle.numbers.proofs.Laws.{gap_stop, gap_go, gap_end}
use Rattle.numbers.proofs.digit_from.Goals as goal

pub returns-then-is_ascii_digit : goal.returns-then-is_ascii_digit
returns-then-is_ascii_digit c = let text = c.args.text.now in
    let i = c.loop-i.i in
    let e : gap (drop i text) ≡ 0 = gap_stop text i (omega arith) (sym c.is_ascii_digit.ensures.value ∙ c.if-is_ascii_digit.true) in
    (omega arith, omega arith, omega arith)

pub loop-i-preserved : goal.loop-i-preserved
loop-i-preserved c = let text = c.args.text.now in
    let i = c.loop-i.i in
    let e : gap (drop i text) ≡ 1 + gap (drop (i + 1) text) = gap_go text i (omega arith) (sym c.is_ascii_digit.ensures.value ∙ c.if-is_ascii_digit.false) in
    (omega arith, omega (arith, c.loop-i.invariant.1))

pub returns : goal.returns
returns c = let text = c.args.text.now in
    let i = c.loop-i.i in
    let e : gap (drop i text) ≡ 0 = gap_end text i (omega arith) in
    let m = c.max.ensures in
    (omega (arith, m, c.loop-i.invariant), omega (arith, m), omega (arith, m))
