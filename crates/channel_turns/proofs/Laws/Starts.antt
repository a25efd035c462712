-- Laws of the definitions in specs/Starts, a case each. Assumes nothing.
use mathlib.Core.Path.{◌≡◌}
use mathlib.Core.Bool.{Bool, true, false, ◌||◌}
use Prim.Native.Nat.{ℕ}
use Rattle.channel.specs.declared.Op.{Op}
use Rattle.channel.specs.declared.Turn.TheVariants.{Waiting}
use Rattle.channel.specs.declared.Channel.{Channel}
use Rattle.channel.specs.Units.{with_turn, accepts_at}
use Rattle.channel_turns.specs.Scans.{working_in, next_turn}
use Rattle.channel_turns.specs.Starts.{begun_at, start_of, new_request, ask_of}
use Rattle.std.specs.declared.option.Option.{Option}
use Rattle.std.specs.Option.{is_some}

module _ (c : Channel) (frozen busy : Bool) (known : busy ≡ is_some (working_in c)) where
  pub start_stays : (frozen || busy) ≡ true → start_of c frozen ≡ c
  unfolding start_of
  start_stays h = rw (← known, h)

  pub start_begins : (frozen || busy) ≡ false → (turn : Option ℕ) → turn ≡ next_turn c → start_of c frozen ≡ begun_at c turn
  unfolding start_of
  start_begins h turn e = rw (← known, h, e)

module _ (c : Channel) (u : ℕ) (op : Op) (priority frozen taken : Bool) (known : taken ≡ accepts_at c u) where
  pub ask_taken : taken ≡ true → ask_of c u op priority frozen ≡ record { accepted = true; channel = start_of (with_turn c u (Waiting (new_request op priority))) frozen }
  unfolding ask_of
  ask_taken h = rw (← known, h)
