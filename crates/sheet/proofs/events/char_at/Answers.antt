-- `sheet::events::char_at` meets its contract: past the end stands 0. Assumes nothing.
use mathlib.Core.Path.{sym}
use Prim.Native.Nat.{◌≤◌}
use native.Mathlib.Omega.{arith}
use lib.ListN.{length, get_or-eq_default}
use Rattle.sheet.proofs.events.char_at.Goals as goal

pub returns : goal.returns
returns c = let h : length c.args.text.now ≤ c.args.i = omega arith in sym (get_or-eq_default c.args.text.now 0 h)
