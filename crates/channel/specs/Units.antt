-- A channel's units and what can be seen of them (document 01, "Sizes" and "Requests, reports, turns"). Assumes nothing.
-- A definition here and in `Turns` goes by the list of the channel's units, however many they are.
use Rattle.std.specs.Prelude.{ℕ, zero, suc, ◌+◌, ◌/◌, ◌%◌, ◌^◌, Bool, true, false, not, ◌&&◌, List, [], ◌∷◌, map, eqb, length, get_or, set, Option, Some, None}
use Rattle.channel.specs.declared.Turn.{Turn}
use Rattle.channel.specs.declared.Turn.TheVariants.{Idle, Waiting, Displaced, Working}
use Rattle.channel.specs.declared.Position.{Position}
use Rattle.channel.specs.declared.Unit.{Unit}
use Rattle.channel.specs.declared.Channel.{Channel}
use Rattle.channel.specs.declared.Op.{Op}

-- "Units 0 to 9 on each"
abbrev pub unit_count : ℕ
unit_count = 10

-- "Channels 0 to 4"
abbrev pub channel_count : ℕ
channel_count = 5

abbrev pub size : Channel → ℕ
size c = length c.units

-- "Each unit gains a position, zero at the fresh start: file marks passed, and records since the last mark" (document 02, M-106); and whether a
-- noise record was met since
abbrev pub at_start : Position
at_start = record { marks = 0; records = 0; noisy = false }

-- a unit without a request, whose reel stands at its start
abbrev pub idle_unit : Bool → Unit
idle_unit declared = record { declared = declared; turn = Idle; position = at_start }

-- a number that is no unit's stands for a unit that is not declared
abbrev pub unit_at : Channel → ℕ → Unit
unit_at c u = get_or c.units u (idle_unit false)

abbrev pub declared_at : Channel → ℕ → Bool
declared_at c u = (unit_at c u).declared

abbrev pub turn_at : Channel → ℕ → Turn
turn_at c u = (unit_at c u).turn

-- where the reel of unit u stands
abbrev pub position_at : Channel → ℕ → Position
position_at c u = (unit_at c u).position

-- the channel with another turn and another position at unit u
unfoldable pub with_unit : Channel → ℕ → Turn → Position → Channel
with_unit c u t p = record { units = set c.units u (record { declared = declared_at c u; turn = t; position = p }); mark = c.mark; urgent = c.urgent }

-- the channel with another turn at unit u, whose reel stands where it stood
abbrev pub with_turn : Channel → ℕ → Turn → Channel
with_turn c u t = with_unit c u t (position_at c u)

-- the channel with other marks: of the scan for ordinary requests, and of that for priority requests
abbrev pub with_marks : Channel → ℕ → ℕ → Channel
with_marks c m p = record { units = c.units; mark = m; urgent = p }

-- "A fresh start .. drops all requests .. and resets the scans"; "Each unit gains a position, zero at the fresh start"; the units of the list are
-- declared
unfoldable pub fresh_with : List Bool → Channel
fresh_with declared = record { units = map idle_unit declared; mark = 0; urgent = 0 }

-- "bit u for unit u", of n units from u on
unfoldable pub bits_from : ℕ → ℕ → ℕ → List Bool
bits_from mask u zero = []
bits_from mask u (suc n) = eqb (mask / 2 ^ u % 2) 1 ∷ bits_from mask (u + 1) n

unfoldable pub fresh_of : ℕ → Channel
fresh_of mask = fresh_with (bits_from mask 0 unit_count)

abbrev pub is_idle : Turn → Bool
is_idle Idle = true
is_idle (Waiting q) = false
is_idle (Displaced q) = false
is_idle (Working q) = false

-- "A unit holds one unanswered request at most"
unfoldable pub has_request : Channel → ℕ → Bool
has_request c u = not (is_idle (turn_at c u))

-- a request is accepted for a unit that is declared and has none
unfoldable pub accepts_at : Channel → ℕ → Bool
accepts_at c u = declared_at c u && is_idle (turn_at c u)

abbrev pub work_of : Turn → Option Op
work_of Idle = None
work_of (Waiting q) = None
work_of (Displaced q) = None
work_of (Working q) = Some q.op

-- the operation that unit u is worked for, if it is
unfoldable pub operation_at : Channel → ℕ → Option Op
operation_at c u = work_of (turn_at c u)

-- a unit that is worked for
abbrev pub is_working : Turn → Bool
is_working Idle = false
is_working (Waiting q) = false
is_working (Displaced q) = false
is_working (Working q) = true

abbrev pub unit_works : Unit → Bool
unit_works x = is_working x.turn
