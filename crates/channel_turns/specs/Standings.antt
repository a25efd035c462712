-- The numbers by which the scans' definitions tell how a unit stands. Assumes nothing.
use Rattle.std.specs.Prelude.{ℕ}
use Rattle.channel_turns.specs.declared.scans.Standing.{Standing}
use Rattle.channel_turns.specs.declared.scans.Standing.TheVariants.{Idle, Ordinary, Priority, Working}
use Rattle.channel_turns.specs.Scans.{idle, ordinary, priority, working}

abbrev pub standing_number : Standing → ℕ
standing_number Idle = idle
standing_number Ordinary = ordinary
standing_number Priority = priority
standing_number Working = working
