-- Where the files are sound, every buffer is free or held by exactly one open file, and the free ones and those that files hold are all of them.
-- Assumes nothing.
use mathlib.Core.Path.{◌≡◌, refl, sym, ap, ap₂, subst, ◌∙◌}
use mathlib.Core.Bool.{Bool, true, false, not, cond, ◌&&◌, ◌||◌}
use mathlib.Core.List.{List, [], ◌∷◌}
use Prim.Native.Nat.{ℕ, suc, ◌+◌, ◌<◌}
use native.Mathlib.Omega.{arith}
use borrow.Author.Tests.{ltb-true, eqb-true, ne_eqb, not-true}
use lib.Dec.{eqb, ltb}
use Rattle.area.specs.Lists.{any_of, all_of, all_pairs, count_along}
use Rattle.area.proofs.Walks.{by_test, true_not_false, and_left, and_right, and_both, or_either}
use Rattle.area.proofs.Marks.{cond_true, count_rest, count_zero, count_either, count_one, any_none, count_alone}
use Rattle.file.specs.declared.File.{File}
use Rattle.file.specs.Sizes.{buffers_for}
use Rattle.pool.specs.Free.{held_by, is_held, is_free, free_count, holders, holding, all_holding}
use Rattle.state_sound.specs.Files.{is_no_buffer, share_buffer, apart, file_sound, files_sound}
use Rattle.state_sound.proofs.FileFacts.{Sound, facts}

-- ---- two files that are apart

-- a file's buffer that another holds too is shared
pub held_shared : (f g : File) (b : ℕ) → held_by b f ≡ true → held_by b g ≡ true → share_buffer f g ≡ true
held_shared f g b h k =
    let o = and_left f.opened _ h in
    let one = and_right f.opened _ h in
    and_both f.opened _ o
    (or_either (eqb f.low.number b) (f.double && eqb f.high.number b) one
    (λ e. or_first (held_by f.low.number g) _ (at_low e))
    (λ e. or_second (held_by f.low.number g) _ (and_both f.double _ (and_left f.double _ e) (at_high (and_right f.double _ e)))))
  where
    or_first : (a c : Bool) → a ≡ true → (a || c) ≡ true
    or_first a c e = ap (λ (t : Bool). t || c) e

    or_second : (a c : Bool) → c ≡ true → (a || c) ≡ true
    or_second true c e = refl
    or_second false c e = e

    at_low : eqb f.low.number b ≡ true → held_by f.low.number g ≡ true
    at_low e = ap (λ (n : ℕ). held_by n g) (eqb-true f.low.number b e) ∙ k

    at_high : eqb f.high.number b ≡ true → held_by f.high.number g ≡ true
    at_high e = ap (λ (n : ℕ). held_by n g) (eqb-true f.high.number b e) ∙ k

pub apart_holds : (b : ℕ) (f g : File) → apart f g ≡ true → held_by b f ≡ true → held_by b g ≡ false
unfolding apart
apart_holds b f g a h =
    by_test (λ t. held_by b g ≡ t → t ≡ false) (held_by b g)
    (λ k q. true_not_false (held_shared f g b h k) (not-true (share_buffer f g) (and_left (not (share_buffer f g)) _ a))) (λ k q. refl) refl

-- ---- exactly one

-- a buffer that is held is held by one, a free one by none
pub one_holder : (m w : ℕ) (fs : List File) (b : ℕ) → files_sound m w fs ≡ true → holders fs b ≡ cond (is_free fs b) 0 1
unfolding files_sound
one_holder m w fs b h = count_alone apart (held_by b) fs (apart_holds b) (and_right (all_of (file_sound m w) fs) _ h) ∙ swap (is_held fs b)
  where
    swap : (t : Bool) → ◌≡◌ {A = ℕ} (cond t 1 0) (cond (not t) 0 1)
    swap true = refl
    swap false = refl

-- ---- all of them

-- of m buffers a sound file holds its one or two
one_or_two : (o d : Bool) (low high m : ℕ) → o ≡ true → low < m → (d ≡ true → (low < high) × (high < m))
    → count_along suc (λ b. o && (eqb low b || (d && eqb high b))) m 0 ≡ buffers_for d
one_or_two false d low high m o l h = true_not_false o refl
one_or_two true true low high m o l h =
    let k = h refl in
    count_either (eqb low) (eqb high) m 0 (λ b e. ne_eqb high b (λ q. omega (arith, eqb-true low b e, k.0)))
    ∙ omega (arith, count_one low m 0 (omega arith) (omega arith), count_one high m 0 (omega arith) (omega (arith, k.1)))
one_or_two true false low high m o l h =
    count_either (eqb low) (λ b. false) m 0 (λ b e. refl) ∙ omega (arith, count_one low m 0 (omega arith) (omega arith), count_zero (λ b. false) m 0 (λ b. refl))

-- the second buffer of a sound double file is above its first, and among the m
second_number_lem : (m w : ℕ) (f : File) → Sound m w f → f.double ≡ true → (f.low.number < f.high.number) × (f.high.number < m)
second_number_lem m w f S d =
    let e : (ltb f.low.number f.high.number && ltb f.high.number m) ≡ true = sym (cond_true _ (is_no_buffer f.high) d) ∙ S.second in
    (ltb-true f.low.number f.high.number (and_left (ltb f.low.number f.high.number) _ e), ltb-true f.high.number m (and_right (ltb f.low.number f.high.number) _ e))

-- what a sound file holds is among the m
pub held_inside : (m w : ℕ) (f : File) (b : ℕ) → Sound m w f → held_by b f ≡ true → b < m
held_inside m w f b S h =
    or_either (eqb f.low.number b) (f.double && eqb f.high.number b) (and_right f.opened _ h)
    (λ e. subst (λ (k : ℕ). k < m) (eqb-true f.low.number b e) S.first)
    (λ e. subst (λ (k : ℕ). k < m) (eqb-true f.high.number b (and_right f.double _ e)) (second_number_lem m w f S (and_left f.double _ e)).1)

file_holding : (m w : ℕ) (f : File) → file_sound m w f ≡ true → count_along suc (λ b. held_by b f) m 0 ≡ holding f
file_holding m w f h = go f.opened refl
  where
    shut : f.opened ≡ false → (b : ℕ) → held_by b f ≡ false
    shut o b = ap (λ (t : Bool). t && (eqb f.low.number b || (f.double && eqb f.high.number b))) o

    go : (t : Bool) → f.opened ≡ t → count_along suc (λ b. held_by b f) m 0 ≡ cond t (buffers_for f.double) 0
    go false o = count_zero (λ b. held_by b f) m 0 (shut o)
    go true o =
        let S = facts m w f h o in
        one_or_two f.opened f.double f.low.number f.high.number m o S.first (second_number_lem m w f S)

held_counted : (m w : ℕ) (fs : List File) → all_of (file_sound m w) fs ≡ true → all_pairs apart fs ≡ true → count_along suc (is_held fs) m 0 ≡ all_holding fs
unfolding any_of all_of all_pairs all_holding
held_counted m w [] s a = count_zero (λ b. false) m 0 (λ b. refl)
held_counted m w (f ∷ fs) s a =
    count_either (λ b. held_by b f) (is_held fs) m 0 (λ b h. any_none (apart f) (held_by b) fs (λ g k. apart_holds b f g k h) (and_left (all_of (apart f) fs) _ a))
    ∙ ap₂ ◌+◌ (file_holding m w f (and_left (file_sound m w f) _ s)) (held_counted m w fs (and_right (file_sound m w f) _ s) (and_right (all_of (apart f) fs) _ a))

-- the free buffers and those that open files hold are all m
pub all_counted : (m w : ℕ) (fs : List File) → files_sound m w fs ≡ true → free_count m fs + all_holding fs ≡ m
unfolding files_sound free_count
all_counted m w fs h =
    omega (arith, count_rest (is_held fs) m 0, held_counted m w fs (and_left (all_of (file_sound m w) fs) _ h) (and_right (all_of (file_sound m w) fs) _ h))
