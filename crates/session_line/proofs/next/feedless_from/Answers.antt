-- `session_line::next::feedless_from` meets its contract. From every place on the way the same line feed is the next. Assumes nothing.
use mathlib.Core.Path.{◌≡◌, sym, ap, ◌∙◌}
use mathlib.Core.Bool.{true}
use Prim.Native.Nat.{ℕ, ◌+◌, ◌*◌, ◌-◌, ◌≤◌}
use native.Mathlib.Omega.{arith}
use lib.ListN.{length, take, drop}
use Rattle.session_line.specs.Lines.{feed_at, feedless}
use Rattle.session_line.proofs.Laws.Strides.{stride_over}
use Rattle.session_line.proofs.next.feedless_from.Goals as goal

pub loop-k-preserved : goal.loop-k-preserved
loop-k-preserved c =
    let xs = c.args.bytes.now in
    let i : ℕ = c.args.at + c.loop-k.k * 16 in
    let on : c.args.at + (c.loop-k.k + 1) * 16 ≡ i + 16 = omega arith in
    let same : i + 16 - i ≡ 16 = omega arith in
    let within : i + 16 ≤ length xs = omega arith in
    let free : feedless (take 16 (drop i xs)) ≡ true = ap (λ (n : ℕ). feedless (take n (drop i xs))) (sym same) ∙ sym c.is_feedless.ensures ∙ c.if-not-is_feedless.false in
    let next : c.args.at + feed_at (drop c.args.at xs) ≡ c.args.at + (c.loop-k.k + 1) * 16 + feed_at (drop (c.args.at + (c.loop-k.k + 1) * 16) xs) =
    rw on (stride_over xs i 16 _ within c.loop-k.invariant free) in
    next
