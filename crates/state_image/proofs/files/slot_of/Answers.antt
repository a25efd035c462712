-- `state_image::files::slot_of` meets its contract. One line for each number. Assumes nothing.
use mathlib.Core.Path.{refl}
use native.Mathlib.Omega.{arith}
use Rattle.state_image.proofs.Tags.{tag_hit, tag_miss}
use Rattle.state_image.proofs.files.slot_of.Goals as goal

pub returns-then-kind-eq-EMPTY : goal.returns-then-kind-eq-EMPTY
returns-then-kind-eq-EMPTY c = tag_hit c.args.kind 0 _ _ (omega arith)

pub returns-then-kind-eq-TAKEN : goal.returns-then-kind-eq-TAKEN
returns-then-kind-eq-TAKEN c = tag_miss c.args.kind 0 _ _ (λ e. omega (arith, e, c.if-kind-eq-EMPTY)) (tag_hit c.args.kind 1 _ _ (omega arith))

pub returns-then-kind-eq-PART : goal.returns-then-kind-eq-PART
returns-then-kind-eq-PART c = tag_miss c.args.kind 0 _ _ (λ e. omega (arith, e, c.if-kind-eq-EMPTY)) (tag_miss c.args.kind 1 _ _ (λ e. omega (arith, e, c.if-kind-eq-TAKEN)) (tag_hit c.args.kind 2 _ _ (omega arith)))

pub returns : goal.returns
returns c = tag_miss c.args.kind 0 _ _ (λ e. omega (arith, e, c.if-kind-eq-EMPTY)) (tag_miss c.args.kind 1 _ _ (λ e. omega (arith, e, c.if-kind-eq-TAKEN)) (tag_miss c.args.kind 2 _ _ (λ e. omega (arith, e, c.if-kind-eq-PART)) refl))
