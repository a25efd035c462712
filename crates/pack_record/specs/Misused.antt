-- Row 1 of the refusal table, of a call on a file that is lent the area. Assumes nothing.
use Rattle.std.specs.Prelude.{ℕ, Bool, not, ◌||◌, leb}
use Rattle.state.specs.declared.State.{State}
use Rattle.pool.specs.Free.{file_count}
use Rattle.state.specs.Places.{area_short}
use Rattle.state_sound.specs.Soundness.{sound}

-- 1: "an argument is outside its range, the area is short, a state passed back is unsound" ("Files 0 to 15")
abbrev pub misused : State → ℕ → ℕ → Bool
misused s n file = leb file_count file || (area_short s n || not (sound s))
