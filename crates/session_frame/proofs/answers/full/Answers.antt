-- `session_frame::answers::full` meets its contract, byte by byte. Assumes nothing.
use Rattle.session_frame.specs.Fields.{size_bytes, sum_bytes}
use Rattle.session_frame.proofs.answers.full.Goals as goal

pub returns : goal.returns
unfolding sum_bytes size_bytes
returns c = rw (
  c.low.ensures,
  c.low-2.ensures,
  c.low-3.ensures,
  c.low-4.ensures,
  c.low-5.ensures,
  c.low-6.ensures,
  c.low-7.ensures,
  c.low-8.ensures,
  c.low-9.ensures,
  c.low-10.ensures,
  c.low-11.ensures,
  c.low-12.ensures,
  c.from-sum.ensures,
  c.from-number.ensures,
  c.from-sumread.ensures,
  c.from-numberread.ensures,
)
