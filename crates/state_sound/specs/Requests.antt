-- What is requested of a unit, and what that asks of its file (document 01, "Requests, reports, turns"). Assumes nothing.
use Rattle.std.specs.Prelude.{Bool, true, false, not, Option, Some, None}
use Rattle.channel.specs.declared.Op.{Op}
use Rattle.channel.specs.declared.Op.TheVariants.{Read, Write, Mark}
use Rattle.channel.specs.declared.Turn.{Turn}
use Rattle.channel.specs.declared.Turn.TheVariants.{Idle, Waiting, Displaced, Working}

-- the operation of a unit's request, whether it is worked for or waits
abbrev pub requested : Turn → Option Op
requested Idle = None
requested (Waiting q) = Some q.op
requested (Displaced q) = Some q.op
requested (Working q) = Some q.op

abbrev pub is_none : Option Op → Bool
is_none (Some op) = false
is_none None = true

abbrev pub is_read_op : Op → Bool
is_read_op Read = true
is_read_op Write = false
is_read_op Mark = false

abbrev pub is_write_op : Op → Bool
is_write_op Read = false
is_write_op Write = true
is_write_op Mark = false

abbrev pub is_read : Option Op → Bool
is_read (Some op) = is_read_op op
is_read None = false

abbrev pub is_write : Option Op → Bool
is_write (Some op) = is_write_op op
is_write None = false

-- a read is of an input file, a write or a mark of an output file
abbrev pub op_fits : Op → Bool → Bool
op_fits Read output = not output
op_fits Write output = output
op_fits Mark output = output

-- what is requested, if anything is, fits the direction of a file
abbrev pub fits_output : Option Op → Bool → Bool
fits_output (Some op) output = op_fits op output
fits_output None output = true

-- a request that waits, displaced or not
abbrev pub is_waiting : Turn → Bool
is_waiting Idle = false
is_waiting (Waiting q) = true
is_waiting (Displaced q) = true
is_waiting (Working q) = false
