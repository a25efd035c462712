-- Two files that share neither a buffer nor a unit: the order does not matter, and a closed file is apart from every other. Assumes nothing.
use mathlib.Core.Path.{◌≡◌, refl, sym}
use mathlib.Core.Bool.{Bool, true, false, not, ◌&&◌, ◌||◌}
use Prim.Native.Nat.{ℕ}
use lib.Dec.{eqb}
use borrow.Author.Tests.{eqb-true, eq-eqb, not-true}
use Rattle.area.proofs.Walks.{true_not_false, and_left, and_right, and_both, or_either, or_first, or_second}
use Rattle.file.specs.declared.File.{File}
use Rattle.file.specs.Sizes.{closed_file}
use Rattle.pool.specs.Free.{held_by}
use Rattle.state_sound.specs.Files.{share_buffer, share_unit, apart}
use Rattle.state_sound.proofs.Shares.{held_shared}
use Rattle.state_sound.specs.Soundness.{buffers_apart, units_apart}

-- a buffer that two files hold
record Common (f g : File) : Type 0 where
  number : ℕ
  first : held_by number f ≡ true
  second : held_by number g ≡ true

holds_low : (f : File) → f.opened ≡ true → held_by f.low.number f ≡ true
holds_low f o = and_both f.opened _ o (or_first (eqb f.low.number f.low.number) _ (eq-eqb f.low.number f.low.number refl))

holds_high : (f : File) → f.opened ≡ true → f.double ≡ true → held_by f.high.number f ≡ true
holds_high f o d =
    and_both f.opened _ o
    (or_second (eqb f.low.number f.high.number) _ (and_both f.double _ d (eq-eqb f.high.number f.high.number refl)))

shared_common : (f g : File) → share_buffer f g ≡ true → Common f g
shared_common f g h =
    let o = and_left f.opened _ h in
    or_either (held_by f.low.number g) (f.double && held_by f.high.number g) (and_right f.opened _ h)
    (λ e. record { number = f.low.number; first = holds_low f o; second = e })
    (λ e. record { number = f.high.number; first = holds_high f o (and_left f.double _ e); second = and_right f.double _ e })

share_buffer_swap : (f g : File) → share_buffer g f ≡ true → share_buffer f g ≡ true
share_buffer_swap f g h = let c = shared_common g f h in held_shared f g c.number c.second c.first

share_unit_swap : (f g : File) → share_unit g f ≡ true → share_unit f g ≡ true
share_unit_swap f g h =
    let k = and_right g.opened _ h in
    let e = and_right f.opened _ k in
    and_both f.opened _ (and_left f.opened _ k)
    (and_both g.opened _ (and_left g.opened _ h)
    (and_both (eqb g.channel f.channel) _
    (eq-eqb g.channel f.channel (sym (eqb-true f.channel g.channel (and_left (eqb f.channel g.channel) _ e))))
    (eq-eqb g.unit f.unit (sym (eqb-true f.unit g.unit (and_right (eqb f.channel g.channel) _ e))))))

not_swap : (a b : Bool) → (b ≡ true → a ≡ true) → not a ≡ true → not b ≡ true
not_swap a true h k = true_not_false (h refl) (not-true a k)
not_swap a false h k = refl

pub buffers_swap : (f g : File) → buffers_apart f g ≡ true → buffers_apart g f ≡ true
buffers_swap f g = not_swap (share_buffer f g) (share_buffer g f) (share_buffer_swap f g)

pub units_swap : (f g : File) → units_apart f g ≡ true → units_apart g f ≡ true
units_swap f g = not_swap (share_unit f g) (share_unit g f) (share_unit_swap f g)

pub apart_swap : (f g : File) → apart f g ≡ true → apart g f ≡ true
unfolding apart
apart_swap f g h =
    and_both (not (share_buffer g f)) _ (buffers_swap f g (and_left (not (share_buffer f g)) _ h))
    (units_swap f g (and_right (not (share_buffer f g)) _ h))

-- ---- a closed file

none_shared : (o d : Bool) → not (o && (false || (d && false))) ≡ true
none_shared true true = refl
none_shared true false = refl
none_shared false d = refl

none_served : (o : Bool) → not (o && false) ≡ true
none_served true = refl
none_served false = refl

pub buffers_closed : (f : File) → buffers_apart f closed_file ≡ true
buffers_closed f = none_shared f.opened f.double

pub units_closed : (f : File) → units_apart f closed_file ≡ true
units_closed f = none_served f.opened

pub apart_closed : (f : File) → apart f closed_file ≡ true
unfolding apart
apart_closed f = and_both (not (share_buffer f closed_file)) _ (buffers_closed f) (units_closed f)

-- a file that is not open is apart from every other
pub apart_shut : (f g : File) → g.opened ≡ false → apart f g ≡ true
unfolding apart
apart_shut f g o = rw o (and_both (not (f.opened && (false || (f.double && false)))) _ (none_shared f.opened f.double) (none_served f.opened))
