-- Laws of `next_unit` and `begin_of`, over the number of units. Assumes nothing.
use mathlib.Core.Path.{◌≡◌}
use mathlib.Core.Bool.{cond}
use Prim.Native.Nat.{ℕ, ◌+◌, ◌≤◌, ◌<◌}
use native.Mathlib.Omega.{arith}
use lib.Dec.{ltb}
use borrow.Author.Tests.{lt-ltb, le-ltb, ltb-true}
use Rattle.area.proofs.Walks.{by_test}
use Rattle.area.specs.Lists.{along}
use Rattle.area.proofs.Firsts.{first_finds}
use Rattle.area.proofs.Scans.{along_keeps}
use Rattle.channel.specs.declared.Channel.{Channel}
use Rattle.channel.specs.Units.{size}
use Rattle.channel_turns.specs.Scans.{next_unit, begin_of, stands, scan_from}
use Rattle.std.specs.declared.option.Option.TheVariants.{Some}

pub next_up : (n u : ℕ) → u + 1 < n → next_unit n u ≡ u + 1
next_up n u h = rw (lt-ltb (u + 1) n h)

pub next_wraps : (n u : ℕ) → n ≤ u + 1 → next_unit n u ≡ 0
next_wraps n u h = rw (le-ltb (u + 1) n h)

pub next_below : (n u : ℕ) → 0 < n → next_unit n u < n
next_below n u h = by_test (λ b. cond b (u + 1) 0 < n) (ltb (u + 1) n) (λ e. ltb-true (u + 1) n e) (λ e. h)

pub begin_here : (n m : ℕ) → m < n → begin_of n m ≡ m
begin_here n m h = rw (lt-ltb m n h)

pub begin_zero : (n m : ℕ) → n ≤ m → begin_of n m ≡ 0
begin_zero n m h = rw (le-ltb m n h)

pub begin_below : (n m : ℕ) → 0 < n → begin_of n m < n
begin_below n m h = by_test (λ b. cond b m 0 < n) (ltb m n) (λ e. ltb-true m n e) (λ e. h)

-- what a scan finds is a unit
pub scan_below : (c : Channel) (want mark u : ℕ) → 0 < size c → scan_from c want mark ≡ Some u → u < size c
unfolding scan_from
scan_below c want mark u some e =
    let n = size c in
    let first = first_finds (next_unit n) (stands c want) n (begin_of n mark) u e in
    let within : along (next_unit n) first.steps (begin_of n mark) < n =
    along_keeps (λ v. v < n) (next_unit n) (λ v h. next_below n v some) first.steps (begin_of n mark) (begin_below n mark some) in
    omega (arith, first.reached)
