-- `session_frame::answers::digit` meets its contract, by its two cases. Assumes nothing.
use mathlib.Core.Path.{◌≡◌, sym, ◌∙◌}
use Prim.Native.Nat.{◌+◌, ◌-◌}
use native.Mathlib.Omega.{arith}
use Rattle.session_frame.proofs.Laws.Values.{digit_decimal, digit_letter}
use Rattle.session_frame.proofs.answers.digit.Goals as goal

pub returns-then-n-lt10 : goal.returns-then-n-lt10
returns-then-n-lt10 c = sym (digit_decimal c.args.n c.if-n-lt10.true)

pub returns : goal.returns
returns c = let e : c.args.n - 10 + 65 ≡ c.args.n + 55 = omega arith in
    e ∙ sym (digit_letter c.args.n c.if-n-lt10.false)
