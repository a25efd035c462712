-- The order of programs said plainly. Assumes nothing.
use Rattle.std.specs.Prelude.{ℕ, ◌≤◌}
use Rattle.routines.specs.declared.Program.{Program}

-- x does not come before y: it is not higher; if it is as high, its channel is not lower; if that is the same, its unit is not lower
pub record NotBefore (x y : Program) : Type 0 where
  pub ranked : x.rank ≤ y.rank
  pub channels : y.rank ≤ x.rank → y.channel ≤ x.channel
  pub units : y.rank ≤ x.rank → x.channel ≤ y.channel → y.unit ≤ x.unit
