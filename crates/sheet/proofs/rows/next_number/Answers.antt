-- `sheet::rows::next_number` meets its contract, branch by branch. Assumes nothing.
use native.Mathlib.Omega.{arith}
use Prim.Native.Nat.{◌≤◌, ◌<◌}
use Rattle.sheet.specs.Rows.{most_count}
use Rattle.sheet.proofs.Steps.{next_below, next_stops}
use Rattle.sheet.proofs.rows.next_number.Goals as goal

pub returns-then-n-lt18446744073709551615 : goal.returns-then-n-lt18446744073709551615
returns-then-n-lt18446744073709551615 c = let h : c.args.n < most_count = omega arith in next_below c.args.n h

pub returns : goal.returns
returns c = let h : most_count ≤ c.args.n = omega arith in next_stops c.args.n h
