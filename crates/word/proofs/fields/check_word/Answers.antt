-- `word::fields::check_word` meets its contract: the two fields do not meet, so the `|` is a sum. Assumes nothing.
use Rattle.std.proofs.Common.{ℕ, ◌+◌, ◌*◌, ◌^◌, ◌<◌, ap, ◌∙◌, ap₂, arith, lit≤}
use lib.Bits.{and_mask, mask_lt}
use Rattle.word.specs.CheckWords.{address, chosen, check_word}
use Rattle.word.proofs.Laws.CheckWord.{placed}
use Rattle.word.proofs.fields.check_word.Goals as goal

pub returns : goal.returns
unfolding check_word address
returns c = let a = c.args in
    let hi = c.field-high.ensures in
    let lo = c.field-low.ensures in
    let high : c.field-high.result < 2 ^ 18 = omega (arith, c.folded.ensures.1) in
    let low : c.field-low.result < 2 ^ 15 = omega (arith, mask_lt a.number 15) in
    let e = placed 18 18 64 c.field-high.result c.field-low.result high (omega arith) (lit≤ tt) in (
      e
          ∙ ap₂ (λ (x y : ℕ). x * 2 ^ 18 + y)
          (hi.0 ∙ ap (chosen a.check) c.folded.ensures.0)
          (lo.0 ∙ ap (chosen a.sequence) (and_mask a.number 15)),
      omega (arith, e),
    )
