-- A truth as a number: what `u8::from` gives is `one_if`. Assumes nothing.
use mathlib.Core.Path.{◌≡◌, refl}
use mathlib.Core.Bool.{Bool, true, false}
use Prim.Native.Nat.{◌≤◌}
use native.Mathlib.Omega.{arith}
use Rattle.std.specs.Int.{from_bool}
use Rattle.area.specs.Lists.{one_if}

pub from_one_if : (b : Bool) → from_bool b ≡ one_if b
from_one_if true = refl
from_one_if false = refl

pub one_if_small : (b : Bool) → from_bool b ≤ 1
one_if_small true = omega arith
one_if_small false = omega arith
