-- The routines beside the channels: which units are declared and which have a request (document 02, M-110). Assumes nothing.
use Rattle.std.specs.Prelude.{ℕ, Bool, List}
use Rattle.channel.specs.declared.Channel.{Channel}
use Rattle.channel.specs.Units.{declared_at, has_request}
use Rattle.routines.specs.declared.Routines.{Routines}
use Rattle.routines.specs.Right.{routines_right}
use Rattle.state.specs.Places.{channel_in}

abbrev pub declared_in : List Channel → ℕ → ℕ → Bool
declared_in cs c u = declared_at (channel_in cs c) u

abbrev pub request_in : List Channel → ℕ → ℕ → Bool
request_in cs c u = has_request (channel_in cs c) u

-- "the unit of every routine, waiting, running or pushed, is declared"; "a waiting routine's unit .. has no request"
unfoldable pub routines_beside : List Channel → Bool → Routines → Bool
routines_beside cs frozen r = routines_right (declared_in cs) (request_in cs) frozen r
