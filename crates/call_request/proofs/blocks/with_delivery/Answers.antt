-- `call_request::blocks::with_delivery` meets its contract: a block that fits has a check word to leave out, and no more data words than B. Assumes nothing.
use native.Mathlib.Omega.{arith}
use Rattle.call_request.specs.Report.{reported_file}
use Rattle.call_request.proofs.Found.{fits_bounds}
use Rattle.call_request.proofs.blocks.with_delivery.Goals as goal

pub overflow_sub-n : goal.overflow_sub-n
overflow_sub-n c = omega (arith, (fits_bounds c.args.f c.args.n c.requires).0, c.extra-e.ensures.0)

pub overflow_cast-n : goal.overflow_cast-n
overflow_cast-n c = omega (arith, (fits_bounds c.args.f c.args.n c.requires).1, c.extra-e.ensures.0)

pub returns : goal.returns
unfolding reported_file
returns c = rw (← c.extra-e.ensures.0) c.delivered.ensures
