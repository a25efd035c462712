-- `block_bytes::bytes::words_in` meets its contract. The words that are left go behind those that were brought (`Brings`). Assumes nothing.
use mathlib.Core.Path.{◌≡◌, refl, sym}
use Prim.Native.Nat.{◌+◌, ◌*◌, ◌≤◌, ◌<◌}
use native.Mathlib.Omega.{arith}
use lib.ListN.{length, length-set}
use Rattle.session_frame.proofs.Laws.Bytes.{length_words}
use Rattle.block_bytes.proofs.Bringing.{brought_none, brought_one, brought_all}
use Rattle.block_bytes.proofs.bytes.words_in.Goals as goal

pub loop-i-init : goal.loop-i-init
loop-i-init c = let a = c.args in (refl, brought_none a.bytes.now a.room.now)

pub loop-i-preserved : goal.loop-i-preserved
loop-i-preserved c = let t = c.loop-i in
    let a = c.args in
    let inside : t.i < length t.room = omega (arith, t.invariant.0) in
    let left : t.i * 5 + 5 ≤ length a.bytes.now = omega arith in
    let e : (t.i + 1) * 5 ≡ t.i * 5 + 5 = omega arith in
    (simp length-set t.invariant.0, rw (e, c.word_of.ensures) (brought_one a.bytes.now t.room _ (t.i * 5) t.i left inside t.invariant.1))

pub shape_of-room : goal.shape_of-room
shape_of-room c = c.loop-i.invariant.0

pub returns : goal.returns
returns c = let a = c.args in
    let t = c.loop-i in record { value = sym (length_words a.bytes.now); room_after = brought_all a.bytes.now t.room _ (t.i * 5) t.i (omega arith) t.invariant.1 }
