-- `block_bytes::bytes::word_bytes` meets its contract, byte by byte. Assumes nothing.
use Rattle.session_frame.specs.Fields.{word_bytes}
use Rattle.block_bytes.proofs.bytes.word_bytes.Goals as goal

pub returns : goal.returns
unfolding word_bytes
returns c = rw c.to_be_bytes.ensures
