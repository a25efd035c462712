-- `state_image::units::turn_of` meets its contract. One line for each number. Assumes nothing.
use mathlib.Core.Path.{refl}
use native.Mathlib.Omega.{arith}
use Rattle.state_image.proofs.Tags.{tag_hit, tag_miss}
use Rattle.state_image.proofs.units.turn_of.Goals as goal

pub returns-then-n-eq0 : goal.returns-then-n-eq0
returns-then-n-eq0 c = tag_hit c.args.n 0 _ _ (omega arith)

pub returns-then-n-eq1 : goal.returns-then-n-eq1
returns-then-n-eq1 c = tag_miss c.args.n 0 _ _ (λ e. omega (arith, e, c.if-n-eq0)) (tag_hit c.args.n 1 _ _ (omega arith))

pub returns-then-n-eq2 : goal.returns-then-n-eq2
returns-then-n-eq2 c = tag_miss c.args.n 0 _ _ (λ e. omega (arith, e, c.if-n-eq0)) (tag_miss c.args.n 1 _ _ (λ e. omega (arith, e, c.if-n-eq1)) (tag_hit c.args.n 2 _ _ (omega arith)))

pub returns : goal.returns
returns c = tag_miss c.args.n 0 _ _ (λ e. omega (arith, e, c.if-n-eq0)) (tag_miss c.args.n 1 _ _ (λ e. omega (arith, e, c.if-n-eq1)) (tag_miss c.args.n 2 _ _ (λ e. omega (arith, e, c.if-n-eq2)) refl))
