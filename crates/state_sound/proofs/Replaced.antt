-- The files with one of them replaced: by one that holds what the old one held, by one that is opened on free buffers and a free unit, by a
-- closed one. Each keeps sound files sound. Assumes nothing.
use mathlib.Core.Path.{◌≡◌, refl, sym, ap, ap₂, ◌∙◌}
use mathlib.Core.Bool.{Bool, true, false, not, ◌&&◌, ◌||◌}
use mathlib.Core.List.{List}
use Prim.Native.Nat.{ℕ, zero, suc, ◌<◌}
use native.Mathlib.Omega.{arith}
use borrow.Author.Tests.{eqb-true, eq-eqb, not-true}
use lib.Dec.{eqb}
use lib.ListN.{length, get_or, set, replicate}
use Rattle.area.specs.Lists.{all_of, all_pairs, along}
use Rattle.area.proofs.Walks.{true_not_false, and_left, and_right, and_both, or_either, at_all, none_at}
use Rattle.area.proofs.Firsts.{first_misses}
use Rattle.area.proofs.Marks.{along_suc, all_set, pairs_set, pairs_alike}
use Rattle.file.specs.declared.Slot.{Slot}
use Rattle.file.specs.declared.Side.{Side}
use Rattle.file.specs.declared.Side.TheVariants.{Low, High, Neither}
use Rattle.file.specs.declared.File.{File}
use Rattle.file.specs.declared.Wish.{Wish}
use Rattle.file.specs.Fills.{with_slot}
use Rattle.file.specs.Sizes.{second_number, opened_file, closed_file}
use Rattle.pool.specs.Free.{file_count, held_by, is_held, is_free}
use Rattle.pool.specs.Serving.{serves, serving_file, is_bound}
use Rattle.state_sound.specs.Files.{share_buffer, share_unit, apart, is_blank, file_sound, files_sound}
use Rattle.state_sound.proofs.Shares.{held_shared}
use Rattle.std.specs.declared.option.Option.{Option}
use Rattle.std.specs.declared.option.Option.TheVariants.{Some, None}
use Rattle.std.specs.Option.{is_some}

-- ---- a file that holds what another held

pub record Alike (f g : File) : Type 0 where
  pub opened : g.opened ≡ f.opened
  pub channel : g.channel ≡ f.channel
  pub unit : g.unit ≡ f.unit
  pub double : g.double ≡ f.double
  pub output : g.output ≡ f.output
  pub low : g.low.number ≡ f.low.number
  pub high : g.high.number ≡ f.high.number

pub alike_self : (f : File) → Alike f f
alike_self f = record { opened = refl; channel = refl; unit = refl; double = refl; output = refl; low = refl; high = refl }

pub alike_then : (f g h : File) → Alike f g → Alike g h → Alike f h
alike_then f g h A B = record {
  opened = B.opened ∙ A.opened;
  channel = B.channel ∙ A.channel;
  unit = B.unit ∙ A.unit;
  double = B.double ∙ A.double;
  output = B.output ∙ A.output;
  low = B.low ∙ A.low;
  high = B.high ∙ A.high;
}

pub alike_slot : (f : File) (k : Side) (x : Slot) (t : Bool) (b : ℕ) → Alike f (with_slot f k x t b)
alike_slot f Low x t b = record { opened = refl; channel = refl; unit = refl; double = refl; output = refl; low = refl; high = refl }
alike_slot f High x t b = record { opened = refl; channel = refl; unit = refl; double = refl; output = refl; low = refl; high = refl }
alike_slot f Neither x t b = alike_self f

held_alike : (f g : File) (b : ℕ) → Alike f g → held_by b g ≡ held_by b f
held_alike f g b A = simp (A.opened, A.double, A.low, A.high)

alike_left : (f g h : File) → Alike f g → apart g h ≡ apart f h
unfolding apart
alike_left f g h A = simp (A.opened, A.channel, A.unit, A.double, A.low, A.high)

alike_right : (f g h : File) → Alike f g → apart h g ≡ apart h f
unfolding apart
alike_right f g h A = simp (A.opened, A.channel, A.unit, A.double, A.low, A.high)

pub kept_files : (m w : ℕ) (fs : List File) (i : ℕ) (g : File) → files_sound m w fs ≡ true → file_sound m w g ≡ true → Alike (get_or fs i closed_file) g
    → files_sound m w (set fs i g) ≡ true
unfolding files_sound
kept_files m w fs i g h s A =
    and_both (all_of (file_sound m w) (set fs i g)) _ (all_set (file_sound m w) fs i g (and_left (all_of (file_sound m w) fs) _ h) s)
    (pairs_alike apart closed_file fs i g (λ x. alike_left (get_or fs i closed_file) g x A) (λ x. alike_right (get_or fs i closed_file) g x A)
    ∙ and_right (all_of (file_sound m w) fs) _ h)

-- ---- being apart goes both ways

or_first : (a c : Bool) → a ≡ true → (a || c) ≡ true
or_first a c e = ap (λ (t : Bool). t || c) e

or_second : (a c : Bool) → c ≡ true → (a || c) ≡ true
or_second true c e = refl
or_second false c e = e

share_back : (f g : File) → share_buffer f g ≡ true → share_buffer g f ≡ true
share_back f g h =
    let o = and_left f.opened _ h in
    or_either (held_by f.low.number g) (f.double && held_by f.high.number g) (and_right f.opened _ h)
    (λ k. held_shared g f f.low.number k (and_both f.opened _ o (or_first (eqb f.low.number f.low.number) _ (eq-eqb f.low.number f.low.number refl))))
    (λ k.
    held_shared g f f.high.number (and_right f.double _ k)
    (and_both f.opened _ o
    (or_second (eqb f.low.number f.high.number) _ (and_both f.double _ (and_left f.double _ k) (eq-eqb f.high.number f.high.number refl)))))

unit_back : (f g : File) → share_unit f g ≡ true → share_unit g f ≡ true
unit_back f g h =
    let s = and_right f.opened _ h in
    let e = and_right g.opened _ s in
    and_both g.opened _ (and_left g.opened _ s)
    (and_both f.opened _ (and_left f.opened _ h)
    (and_both (eqb f.channel g.channel) _
    (eq-eqb f.channel g.channel (sym (eqb-true g.channel f.channel (and_left (eqb g.channel f.channel) _ e))))
    (eq-eqb f.unit g.unit (sym (eqb-true g.unit f.unit (and_right (eqb g.channel f.channel) _ e))))))

-- what would follow from a test that fails, fails
fails : (a b : Bool) → (b ≡ true → a ≡ true) → not a ≡ true → not b ≡ true
fails a true h e = true_not_false (h refl) (not-true a e)
fails a false h e = refl

pub apart_back : (f g : File) → apart f g ≡ true → apart g f ≡ true
unfolding apart
apart_back f g h =
    and_both (not (share_buffer g f)) _ (fails (share_buffer f g) (share_buffer g f) (share_back g f) (and_left (not (share_buffer f g)) _ h))
    (fails (share_unit f g) (share_unit g f) (unit_back g f) (and_right (not (share_buffer f g)) _ h))

-- ---- a file apart from all

apart_files : (m w : ℕ) (fs : List File) (i : ℕ) (g : File) → files_sound m w fs ≡ true → file_sound m w g ≡ true
    → ((j : ℕ) → j < length fs → apart g (get_or fs j closed_file) ≡ true) → files_sound m w (set fs i g) ≡ true
unfolding files_sound
apart_files m w fs i g h s a =
    and_both (all_of (file_sound m w) (set fs i g)) _ (all_set (file_sound m w) fs i g (and_left (all_of (file_sound m w) fs) _ h) s)
    (pairs_set apart fs i g (and_right (all_of (file_sound m w) fs) _ h) (at_all (apart g) closed_file fs a)
    (at_all (λ x. apart x g) closed_file fs (λ j l. apart_back g (get_or fs j closed_file) (a j l))))

-- closed
closed_apart : (h : File) → apart closed_file h ≡ true
unfolding apart
closed_apart h = refl

pub closed_sound : (m w : ℕ) → file_sound m w closed_file ≡ true
unfolding file_sound is_blank
closed_sound m w = refl

pub closed_files : (m w : ℕ) (fs : List File) (i : ℕ) → files_sound m w fs ≡ true → files_sound m w (set fs i closed_file) ≡ true
closed_files m w fs i h = apart_files m w fs i closed_file h (closed_sound m w) (λ j l. closed_apart (get_or fs j closed_file))

-- all closed, as at a fresh start
closed_each : (m w n : ℕ) → all_of (file_sound m w) (replicate n closed_file) ≡ true
unfolding all_of
closed_each m w zero = refl
closed_each m w (suc n) = and_both (file_sound m w closed_file) _ (closed_sound m w) (closed_each m w n)

closed_pairs : (n : ℕ) → all_pairs apart (replicate n closed_file) ≡ true
unfolding all_pairs
closed_pairs zero = refl
closed_pairs (suc n) =
    and_both (all_of (apart closed_file) (replicate n closed_file)) _
    (at_all (apart closed_file) closed_file (replicate n closed_file) (λ j l. closed_apart (get_or (replicate n closed_file) j closed_file))) (closed_pairs n)

pub fresh_files : (m w n : ℕ) → files_sound m w (replicate n closed_file) ≡ true
unfolding files_sound
fresh_files m w n = and_both (all_of (file_sound m w) (replicate n closed_file)) _ (closed_each m w n) (closed_pairs n)

-- opened on buffers that are free and a unit that is not bound
opened_apart : (q : Wish) (a b : ℕ) (h : File) → held_by a h ≡ false → (q.double ≡ true → held_by b h ≡ false) → serves q.channel q.unit h ≡ false
    → apart (opened_file q a b) h ≡ true
unfolding apart opened_file
opened_apart q a b h e d u =
    and_both (not (held_by a h || (q.double && held_by (second_number q.double b) h))) _ (ap not (neither q.double d)) (ap not u)
  where
    neither : (t : Bool) → (t ≡ true → held_by b h ≡ false) → (held_by a h || (t && held_by (second_number t b) h)) ≡ false
    neither true k = ap₂ (λ (x y : Bool). x || y) e (k refl)
    neither false k = ap (λ (x : Bool). x || false) e

-- a unit that is not bound is served by no file
pub unbound : (fs : List File) (c u j : ℕ) → is_bound fs c u ≡ false → j < file_count → serves c u (get_or fs j closed_file) ≡ false
unfolding serving_file
unbound fs c u j n l = go (serving_file fs c u) refl n
  where
    at : along suc j 0 ≡ j
    at = along_suc j 0 ∙ omega arith

    go : (x : Option ℕ) → serving_file fs c u ≡ x → is_some x ≡ false → serves c u (get_or fs j closed_file) ≡ false
    go (Some i) e k = true_not_false refl k
    go None e k =
        ap (λ (i : ℕ). serves c u (get_or fs i closed_file)) (sym at) ∙ first_misses suc (λ i. serves c u (get_or fs i closed_file)) file_count 0 e j l

pub opened_files : (m w : ℕ) (fs : List File) (i : ℕ) (q : Wish) (a b : ℕ) → length fs ≡ file_count → files_sound m w fs ≡ true → file_sound m w (opened_file q a b) ≡ true
    → is_free fs a ≡ true → (q.double ≡ true → is_free fs b ≡ true) → is_bound fs q.channel q.unit ≡ false → files_sound m w (set fs i (opened_file q a b)) ≡ true
opened_files m w fs i q a b n h s free second unit =
    apart_files m w fs i (opened_file q a b) h s
    (λ j l.
    opened_apart q a b (get_or fs j closed_file) (none_at (held_by a) closed_file fs (not-true (is_held fs a) free) j l)
    (λ d. none_at (held_by b) closed_file fs (not-true (is_held fs b) (second d)) j l) (unbound fs q.channel q.unit j unit (omega arith)))
