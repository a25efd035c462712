-- `planner_text::fields::up_to` meets its contract: the place of the first such byte, or the length. Assumes nothing.
use mathlib.Core.Path.{◌≡◌, refl}
use mathlib.Core.Logic.{◌≢◌}
use Prim.Native.Nat.{ℕ}
use native.Mathlib.Numerals.{add-one}
use native.Mathlib.Omega.{arith}
use borrow.Author.Tests.{eq-eqb, ne_eqb, tests}
use lib.ListN.{length}
use Rattle.std.proofs.Common.{unwrap_or}
use Rattle.std.proofs.lemmas.Iterator.{IsFirst-from_position, index_from_first, YieldsList-from_slice}
use Rattle.planner_text.specs.Fields.{up_to}
use Rattle.planner_text.proofs.Steps.{up_within}
use borrow.Author.Rules.{rules}
use Rattle.planner_text.proofs.fields.up_to.Goals as goal

pub returns : goal.returns
unfolding up_to
returns c =
    let stop : ℕ = c.args.stop in
    let e : up_to stop c.args.text.now ≡ unwrap_or c.position.result (length c.args.text.now) =
    index_from_first (up_to stop) (λ (x : ℕ). x ≡ stop) (λ (x : ℕ). x ≢ stop) refl (λ x xs z. rw (eq-eqb x stop z)) (λ x xs z. rw (ne_eqb x stop z, add-one (up_to stop xs))) c.args.text.now c.position.result
    (IsFirst-from_position _ _ _ (λ (x : ℕ). x ≡ stop) (λ (x : ℕ). x ≢ stop) c.position.ensures.ran (YieldsList-from_slice c.args.text.now cc) (λ x q k. search (rules, tests)) (λ x q k. search (rules, tests))) in
    let r : c.unwrap_or.result ≡ up_to stop c.args.text.now = cc in
    (r, omega (arith, up_within stop c.args.text.now))
