-- `session_frame::answers::write_lead` meets its contract. What is left of the bytes, written from where the loop stands, gives the whole. Assumes nothing.
use mathlib.Core.Path.{◌≡◌, refl, ap, ◌∙◌}
use Prim.Native.Nat.{ℕ, ◌+◌, ◌*◌, ◌≤◌, ◌<◌}
use native.Mathlib.Omega.{arith}
use lib.ListN.{length}
use Rattle.session_frame.specs.Digits.{byte_digits}
use Rattle.session_frame.proofs.Laws.Writes.{length_byte, write_one, write_length, write_all}
use Rattle.session_frame.proofs.answers.write_lead.Goals as goal

pub loop-byte-init : goal.loop-byte-init
loop-byte-init c = (refl, refl, c.requires, refl)

pub loop-byte-preserved : goal.loop-byte-preserved
loop-byte-preserved c = let write_byte = c.write_byte in
    let t = c.loop-byte in
    let a = c.args in
    let h : t.byte-index < length a.bytes.now = c.loop-byte-test.true in
    let r : t.to + 2 ≤ length t.out = omega arith in (
      omega arith,
      write_length byte_digits 2 length_byte a.out.now a.bytes.now t.out t.to t.byte-index r _ write_byte.ensures ∙ t.invariant.1,
      t.invariant.2,
      write_one byte_digits 2 length_byte a.out.now a.bytes.now t.out t.to t.byte-index 0 h r t.invariant.3 _ write_byte.ensures,
    )

pub shape_of-out : goal.shape_of-out
shape_of-out c = c.loop-byte.invariant.1

pub returns : goal.returns
returns c = let t = c.loop-byte in
    let a = c.args in
    let n : t.byte-index ≡ length a.bytes.now = omega (arith, c.loop-byte-test.false) in
    (t.invariant.0 ∙ ap (λ (k : ℕ). 2 * k) n, write_all byte_digits 2 length_byte a.out.now a.bytes.now t.out t.to t.byte-index 0 c.loop-byte-test.false t.invariant.3)
