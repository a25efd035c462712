-- `block_bytes::bytes::found_bytes` meets its contract, byte by byte. Assumes nothing.
use Rattle.session_frame.specs.Fields.{size_bytes, sum_bytes}
use Rattle.block_bytes.proofs.bytes.found_bytes.Goals as goal

pub returns : goal.returns
unfolding sum_bytes size_bytes
returns c = rw (
  c.copy_from_slice.ensures.after,
  c.copy_from_slice-2.ensures.after,
  c.copy_from_slice-3.ensures.after,
  c.copy_from_slice-4.ensures.after,
  c.to_be_bytes.ensures,
  c.to_be_bytes-2.ensures,
  c.to_be_bytes-3.ensures,
  c.to_be_bytes-4.ensures,
)
