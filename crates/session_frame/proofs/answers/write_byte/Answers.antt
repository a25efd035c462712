-- `session_frame::answers::write_byte` meets its contract: two stores are a paste of two. Assumes nothing.
use native.Mathlib.Omega.{arith}
use lib.ListN.{length-set}
use Rattle.area.proofs.Joins.{set_set_paste}
use Rattle.session_frame.specs.Digits.{byte_digits}
use Rattle.session_frame.proofs.answers.write_byte.Goals as goal

pub bounds-out-at-2 : goal.bounds-out-at-2
bounds-out-at-2 c = simp length-set (omega arith)

pub returns : goal.returns
unfolding byte_digits
returns c = rw (c.digit.ensures, c.digit-2.ensures) (set_set_paste _ _ _ _ c.requires)
