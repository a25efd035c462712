-- The bytes of a unit and of a channel: a line for each field. What has no meaning is zero. Assumes nothing.
use Rattle.std.specs.Prelude.{ℕ, ◌+◌, ◌*◌, false, cond, List, [], ◌∷◌, ◌++◌, eqb, get_or, drop}
use mir.Val.{bool_byte}
use Rattle.channel.specs.declared.Op.{Op}
use Rattle.channel.specs.declared.Op.TheVariants.{Read, Write, Mark}
use Rattle.channel.specs.declared.Request.{Request}
use Rattle.channel.specs.declared.Turn.{Turn}
use Rattle.channel.specs.declared.Turn.TheVariants.{Idle, Waiting, Displaced, Working}
use Rattle.channel.specs.declared.Position.{Position}
use Rattle.channel.specs.declared.Unit.{Unit}
use Rattle.channel.specs.declared.Channel.{Channel}
use Rattle.channel.specs.Units.{unit_count, idle_unit}
use Rattle.codec.specs.Codecs.{Codec, padded}
use Rattle.codec.specs.Rows.{two_bytes, two_at}

-- ---- how a unit stands: 0 idle, 1 waiting, 2 displaced, 3 working; and its request, all zero where it has none

abbrev pub turn_byte : Turn → ℕ
turn_byte Idle = 0
turn_byte (Waiting q) = 1
turn_byte (Displaced q) = 2
turn_byte (Working q) = 3

abbrev pub no_request : Request
no_request = record { op = Read; priority = false; attempts = 0; incomplete = 0; noise = 0 }

abbrev pub request_in : Turn → Request
request_in Idle = no_request
request_in (Waiting q) = q
request_in (Displaced q) = q
request_in (Working q) = q

abbrev pub turn_of : ℕ → Request → Turn
turn_of n q = cond (eqb n 0) Idle (cond (eqb n 1) (Waiting q) (cond (eqb n 2) (Displaced q) (Working q)))

-- an operation: 0 read, 1 write, 2 mark, as in frames
abbrev pub op_byte : Op → ℕ
op_byte Read = 0
op_byte Write = 1
op_byte Mark = 2

abbrev pub op_of : ℕ → Op
op_of n = cond (eqb n 0) Read (cond (eqb n 1) Write Mark)

-- ---- a unit: its bytes, numbers of one byte first, and the unit of such bytes

abbrev pub unit_size : ℕ
unit_size = 12

abbrev pub unit_row : Unit → ℕ → ℕ → Request → Position → List ℕ
unit_row u kind op q p =
    bool_byte u.declared
    ∷ kind
    ∷ op
    ∷ bool_byte q.priority
    ∷ q.attempts
    ∷ q.incomplete
    ∷ q.noise
    ∷ bool_byte p.noisy
    ∷ two_bytes p.marks
    (two_bytes p.records
    [])

abbrev pub unit_bytes : Unit → List ℕ
unit_bytes u = unit_row u (turn_byte u.turn) (op_byte (request_in u.turn).op) (request_in u.turn) u.position

abbrev pub request_from : List ℕ → Request
request_from bs = record {
  op = op_of (get_or bs 2 0);
  priority = eqb (get_or bs 3 0) 1;
  attempts = get_or bs 4 0;
  incomplete = get_or bs 5 0;
  noise = get_or bs 6 0;
}

abbrev pub position_from : List ℕ → Position
position_from bs = record { marks = two_at bs 8; records = two_at bs 10; noisy = eqb (get_or bs 7 0) 1 }

abbrev pub unit_from : List ℕ → Unit
unit_from bs = record { declared = eqb (get_or bs 0 0) 1; turn = turn_of (get_or bs 1 0) (request_from bs); position = position_from bs }

abbrev pub unit_codec : Codec Unit
unit_codec = record { size = unit_size; write = unit_bytes; read = unit_from }

-- ---- a channel of n units: its own numbers, then the units; units from n on are not declared, and their reels stand at the start

abbrev pub channel_head : ℕ
channel_head = 2

abbrev pub channel_row : Channel → List ℕ
channel_row c =
    c.mark
    ∷ c.urgent
    ∷ []

abbrev pub units_codec : ℕ → Codec (List Unit)
units_codec n = padded unit_codec (idle_unit false) unit_count n

abbrev pub channel_codec : ℕ → Codec Channel
channel_codec n = record {
  size = channel_head + n * unit_size;
  write = λ c. channel_row c ++ (units_codec n).write c.units;
  read = λ bs. record { units = (units_codec n).read (drop channel_head bs); mark = get_or bs 0 0; urgent = get_or bs 1 0 };
}
