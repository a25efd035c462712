-- "Requests, reports, turns" (document 01): a start, a thaw and an ask on one channel. Assumes nothing.
use Rattle.std.specs.Prelude.{ℕ, Bool, true, false, cond, ◌||◌, Option, Some, None, is_some}
use Rattle.channel.specs.declared.Op.{Op}
use Rattle.channel.specs.declared.Request.{Request}
use Rattle.channel.specs.declared.Turn.{Turn}
use Rattle.channel.specs.declared.Turn.TheVariants.{Idle, Waiting, Displaced, Working}
use Rattle.channel.specs.declared.Channel.{Channel}
use Rattle.channel_turns.specs.declared.Asked.{Asked}
use Rattle.channel_turns.specs.Scans.{working_in, next_turn}
use Rattle.channel.specs.Units.{turn_at, with_turn, accepts_at}

-- ---- a start

abbrev pub begun_turn : Turn → Turn
begun_turn Idle = Idle
begun_turn (Waiting q) = Working q
begun_turn (Displaced q) = Working q
begun_turn (Working q) = Working q

-- the request of the unit that was found is worked for, with the counts that it has
abbrev pub begun_at : Channel → Option ℕ → Channel
begun_at c (Some u) = with_turn c u (begun_turn (turn_at c u))
begun_at c None = c

-- "After every accepted call, a channel that is idle and not frozen starts an activity, by the order below, if any request waits."
unfoldable pub start_of : Channel → Bool → Channel
start_of c frozen = cond (frozen || is_some (working_in c)) c (begun_at c (next_turn c))

-- "Thaw lets starts happen."
unfoldable pub thaw_of : Channel → Channel
thaw_of c = start_of c false

-- ---- ask

abbrev pub new_request : Op → Bool → Request
new_request op priority = record { op = op; priority = priority; attempts = 1; incomplete = 0; noise = 0 }

-- "A unit holds one unanswered request at most": accepted if the unit is declared and has none
unfoldable pub ask_of : Channel → ℕ → Op → Bool → Bool → Asked
ask_of c u op priority frozen =
    cond (accepts_at c u)
    (record { accepted = true; channel = start_of (with_turn c u (Waiting (new_request op priority))) frozen })
    (record { accepted = false; channel = c })
