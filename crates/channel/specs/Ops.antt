-- The operations by their numbers. Assumes nothing.
use Rattle.std.specs.Prelude.{ℕ, zero, suc, Result, Ok, Err}
use Rattle.channel.specs.declared.Op.{Op}
use Rattle.channel.specs.declared.Op.TheVariants.{Read, Write, Mark}
use Rattle.channel.specs.declared.UnknownOp.{UnknownOp}

-- "operation(0 read, 1 write, 2 mark)"
abbrev pub op_numbered : ℕ → Result Op UnknownOp
op_numbered zero = Ok Read
op_numbered (suc zero) = Ok Write
op_numbered (suc (suc zero)) = Ok Mark
op_numbered (suc (suc (suc n))) = Err (record {})
