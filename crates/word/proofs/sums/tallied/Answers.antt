-- `word::sums::tallied` meets its contract. The total so far and what is left give the whole total, and so does what is or'ed.
-- Assumes nothing.
use Rattle.std.proofs.Common.{ℕ, ◌+◌, ◌%◌, ◌^◌, ◌<◌, ◌≤◌, length, get_or, drop, sym, refl, ap, ◌∙◌, add-zero, mod-lt, mod-eq_of_lt, zero-add, arith, pow_pos, rules}
use Rattle.area.proofs.Tall.{low36, tall_step, tall_done}
use Rattle.word.specs.Totals.{total}
use Rattle.word.proofs.Laws.Sum.{total_step, total_done, wrapped_step}
use Rattle.word.proofs.sums.tallied.Goals as goal

pub loop-word-init : goal.loop-word-init
loop-word-init c = (search rules, ap (λ (n : ℕ). n % 2 ^ 64) (zero-add (total c.args.words.now)), refl)

pub loop-word-preserved : goal.loop-word-preserved
loop-word-preserved c = let ws = c.args.words.now in
    let at = c.loop-word in
    let i = at.word-index in
    let t = at.total in
    let h : i < length ws = omega arith in (
      mod-lt (t + get_or ws i 0) (pow_pos 64),
      wrapped_step t (get_or ws i 0) (total (drop (i + 1) ws))
          ∙ ap (λ (n : ℕ). (t + n) % 2 ^ 64) (sym (total_step ws i h))
          ∙ at.invariant.1,
      tall_step ws at.any i h ∙ at.invariant.2,
    )

pub returns : goal.returns
returns c = let ws = c.args.words.now in
    let at = c.loop-word in
    let i = at.word-index in
    let t = at.total in
    let h : length ws ≤ i = omega arith in (
      sym (mod-eq_of_lt at.invariant.0)
          ∙ ap (λ (n : ℕ). n % 2 ^ 64) (sym (add-zero t) ∙ ap (λ (n : ℕ). t + n) (sym (total_done ws i h)))
          ∙ at.invariant.1,
      sym (tall_done ws (low36 at.any) i h) ∙ at.invariant.2,
    )
