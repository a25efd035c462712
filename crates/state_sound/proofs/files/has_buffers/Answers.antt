-- `state_sound::has_buffers` meets its contract, branch by branch, from the contract of `is_no_buffer`. Assumes nothing.

use Rattle.state_sound.proofs.files.has_buffers.Goals as goal

pub returns-then-f : goal.returns-then-f
returns-then-f c = rw c.if-f.true

pub returns-else-f : goal.returns-else-f
returns-else-f c = rw c.if-f.false (simp c.is_no_buffer.ensures)
