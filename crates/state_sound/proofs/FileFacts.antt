-- A sound open file as facts: what its soundness gives, and what makes it sound. Assumes nothing.
use mathlib.Core.Path.{◌≡◌, refl, sym, ap, ◌∙◌}
use mathlib.Core.Bool.{Bool, true, false, not, cond, ◌&&◌, ◌||◌}
use Prim.Native.Nat.{ℕ, ◌≤◌, ◌<◌}
use borrow.Author.Tests.{leb-true, le-leb, ltb-true, lt-ltb, eqb-true, not-true}
use lib.Dec.{leb, ltb, eqb}
use Rattle.area.proofs.Walks.{true_not_false, and_left, and_right, and_both}
use Rattle.area.proofs.Marks.{cond_true, unless, unless_so}
use Rattle.file.specs.declared.Slot.{Slot}
use Rattle.file.specs.declared.Slot.TheVariants.{Empty, Taken, Part, Full}
use Rattle.file.specs.declared.Buffer.{Buffer}
use Rattle.file.specs.declared.File.{File}
use Rattle.file.specs.Slots.{is_empty, is_full, full_arrival}
use Rattle.file.specs.Sides.{no_buffer}
use Rattle.word.specs.CheckWords.{block_numbers}
use Rattle.file.specs.Arrivals.{is_arrival}
use Rattle.file.specs.Sizes.{sizes_fit, closed_file}
use Rattle.state_sound.specs.Files.{in_range, is_no_buffer, has_buffers, taken_count, taken_right, full_fits, full_right, parts_held, part_fits, part_right, place_fits, place_right, is_unread, open_sound, is_blank, file_sound}
use Rattle.area.specs.Lists.{one_if}

-- what one buffer of a file may hold, by the file's choices, direction and sizes
abbrev pub slot_fits : Bool → Bool → Bool → ℕ → ℕ → Slot → Bool
slot_fits sequence check output size rlen x = is_arrival sequence check (full_arrival x) && (full_fits size x && (part_fits size rlen x && (place_fits x && (not output || is_unread x))))

abbrev pub second_fits : ℕ → File → Bool
second_fits m f = cond f.double (ltb f.low.number f.high.number && ltb f.high.number m) (is_no_buffer f.high)

pub record Sound (m w : ℕ) (f : File) : Type 0 where
  pub sizes : sizes_fit w f.sequence f.check f.size f.rlen ≡ true
  pub number : f.block < block_numbers
  pub first : f.low.number < m
  pub second : second_fits m f ≡ true
  pub low : slot_fits f.sequence f.check f.output f.size f.rlen f.low.slot ≡ true
  pub high : slot_fits f.sequence f.check f.output f.size f.rlen f.high.slot ≡ true
  pub taken : taken_count f ≤ one_if (not f.output)
  pub part : parts_held f ≤ one_if f.output
  pub order : f.turned ≡ true → (is_full f.low.slot && is_full f.high.slot) ≡ true
  pub mark : f.output ≡ true → f.marked ≡ false

-- five tests in a row
all_five : (a b c d e : Bool) → a ≡ true → b ≡ true → c ≡ true → d ≡ true → e ≡ true → (a && (b && (c && (d && e)))) ≡ true
all_five a b c d e p q r s t = rw (p, q, r, s, t)

both : (a b : Bool) → (a && b) ≡ true → (a ≡ true) × (b ≡ true)
both a b e = (and_left a b e, and_right a b e)

pub facts : (m w : ℕ) (f : File) → file_sound m w f ≡ true → f.opened ≡ true → Sound m w f
unfolding file_sound open_sound
facts m w f h o =
    let h₀ : open_sound m w f ≡ true = sym (cond_true (open_sound m w f) (is_blank f) o) ∙ h in
    let h₁ = both (in_range w f) _ h₀ in
    let h₂ = both (has_buffers m f) _ h₁.1 in
    let h₃ = both (taken_right f) _ h₂.1 in
    let h₄ = both (full_right f) _ h₃.1 in
    let h₅ = both (part_right f) _ h₄.1 in
    let h₆ = both (place_right f) _ h₅.1 in
    let r₁ = both (sizes_fit w f.sequence f.check f.size f.rlen) _ h₁.0 in
    let r₂ = both (ltb f.block block_numbers) _ r₁.1 in
    let r₃ = both (is_arrival f.sequence f.check (full_arrival f.low.slot)) _ r₂.1 in
    let b = both (ltb f.low.number m) _ h₂.0 in
    let l = both (full_fits f.size f.low.slot) _ h₄.0 in
    let p = both (leb (parts_held f) (one_if f.output)) _ h₅.0 in
    let q = both (part_fits f.size f.rlen f.low.slot) _ p.1 in
    let a = both (place_fits f.low.slot) _ h₆.0 in
    let z = both (not f.turned || (is_full f.low.slot && is_full f.high.slot)) _ h₆.1 in
    let unread : f.output ≡ true → (is_unread f.low.slot && is_unread f.high.slot) ≡ true = λ e. and_right (not f.marked) _ (unless f.output _ z.1 e) in
    record {
      sizes = r₁.0;
      number = ltb-true f.block block_numbers r₂.0;
      first = ltb-true f.low.number m b.0;
      second = b.1;
      low =
          all_five (is_arrival f.sequence f.check (full_arrival f.low.slot)) (full_fits f.size f.low.slot) (part_fits f.size f.rlen f.low.slot) (place_fits f.low.slot) (not f.output || is_unread f.low.slot)
          r₃.0 l.0 q.0 a.0 (unless_so f.output _ (λ e. and_left (is_unread f.low.slot) _ (unread e)));
      high =
          all_five (is_arrival f.sequence f.check (full_arrival f.high.slot)) (full_fits f.size f.high.slot) (part_fits f.size f.rlen f.high.slot) (place_fits f.high.slot) (not f.output || is_unread f.high.slot)
          r₃.1 l.1 q.1 a.1 (unless_so f.output _ (λ e. and_right (is_unread f.low.slot) _ (unread e)));
      taken = leb-true (taken_count f) (one_if (not f.output)) h₃.0;
      part = leb-true (parts_held f) (one_if f.output) p.0;
      order = unless f.turned (is_full f.low.slot && is_full f.high.slot) z.0;
      mark = λ e. not-true f.marked (and_left (not f.marked) _ (unless f.output _ z.1 e));
    }

-- ---- a file that is not open has one form

no_buffer_lem : (b : Buffer) → is_no_buffer b ≡ true → b ≡ no_buffer
no_buffer_lem b h =
    let n : b.number ≡ 0 = eqb-true b.number 0 (and_left (eqb b.number 0) _ h) in
    let x : b.slot ≡ Empty = empty b.slot (and_right (eqb b.number 0) _ h) in
    made b.number b.slot n x
  where
    empty : (x : Slot) → is_empty x ≡ true → x ≡ Empty
    empty Empty e = refl
    empty Taken e = true_not_false e refl
    empty (Part n) e = true_not_false e refl
    empty (Full n at err) e = true_not_false e refl

    made : (n : ℕ) (x : Slot) → n ≡ 0 → x ≡ Empty → record { number = n; slot = x } ≡ no_buffer
    made n x p q = rw (p, q)

abbrev file_of_lem : Bool → ℕ → ℕ → Bool → Bool → Bool → Bool → ℕ → ℕ → Buffer → Buffer → Bool → ℕ → Bool → File
file_of_lem o c u out d s k size r low high t b mk = record {
  opened = o;
  channel = c;
  unit = u;
  output = out;
  double = d;
  sequence = s;
  check = k;
  size = size;
  rlen = r;
  low = low;
  high = high;
  turned = t;
  block = b;
  marked = mk;
}

all_zero : (o : Bool) (c u : ℕ) (out d s k : Bool) (size r : ℕ) (low high : Buffer) (t : Bool) (b : ℕ) (mk : Bool) → o ≡ false → c ≡ 0 → u ≡ 0 → out ≡ false → d ≡ false
    → s ≡ false → k ≡ false → size ≡ 0 → r ≡ 0 → low ≡ no_buffer → high ≡ no_buffer → t ≡ false → b ≡ 0 → mk ≡ false → file_of_lem o c u out d s k size r low high t b mk ≡ closed_file
all_zero o c u out d s k size r low high t b mk e₁ e₂ e₃ e₄ e₅ e₆ e₇ e₈ e₉ e₁₀ e₁₁ e₁₂ e₁₃ e₁₄ =
    rw (e₁, e₂, e₃, e₄, e₅, e₆, e₇, e₈, e₉, e₁₀, e₁₁, e₁₂, e₁₃, e₁₄)

pub blank_closed : (f : File) → is_blank f ≡ true → f ≡ closed_file
unfolding is_blank
blank_closed f h =
    let h₁ = both (not f.opened) _ h in
    let h₂ = both (eqb f.channel 0 && eqb f.unit 0) _ h₁.1 in
    let u = both (eqb f.channel 0) _ h₂.0 in
    let h₃ = both (not f.output && (not f.double && (not f.sequence && not f.check))) _ h₂.1 in
    let c₁ = both (not f.output) _ h₃.0 in
    let c₂ = both (not f.double) _ c₁.1 in
    let c₃ = both (not f.sequence) _ c₂.1 in
    let h₄ = both (eqb f.size 0 && eqb f.rlen 0) _ h₃.1 in
    let z = both (eqb f.size 0) _ h₄.0 in
    let h₅ = both (is_no_buffer f.low) _ h₄.1 in
    let h₆ = both (is_no_buffer f.high) _ h₅.1 in
    let h₇ = both (not f.turned) _ h₆.1 in
    let h₈ = both (eqb f.block 0) _ h₇.1 in
    all_zero f.opened f.channel f.unit f.output f.double f.sequence f.check f.size f.rlen f.low f.high f.turned f.block f.marked
    (not-true f.opened h₁.0) (eqb-true f.channel 0 u.0) (eqb-true f.unit 0 u.1) (not-true f.output c₁.0) (not-true f.double c₂.0)
    (not-true f.sequence c₃.0) (not-true f.check c₃.1) (eqb-true f.size 0 z.0) (eqb-true f.rlen 0 z.1) (no_buffer_lem f.low h₅.0)
    (no_buffer_lem f.high h₆.0) (not-true f.turned h₇.0) (eqb-true f.block 0 h₈.0) (not-true f.marked h₈.1)

-- the parts of what a buffer may hold
pub record Fits (sequence check output : Bool) (size rlen : ℕ) (x : Slot) : Type 0 where
  pub found : is_arrival sequence check (full_arrival x) ≡ true
  pub full : full_fits size x ≡ true
  pub part : part_fits size rlen x ≡ true
  pub place : place_fits x ≡ true
  pub unread : (not output || is_unread x) ≡ true

pub fits : (sequence check output : Bool) (size rlen : ℕ) (x : Slot) → slot_fits sequence check output size rlen x ≡ true → Fits sequence check output size rlen x
fits sequence check output size rlen x h =
    let a = both (is_arrival sequence check (full_arrival x)) _ h in
    let b = both (full_fits size x) _ a.1 in
    let c = both (part_fits size rlen x) _ b.1 in
    let d = both (place_fits x) _ c.1 in
    record { found = a.0; full = b.0; part = c.0; place = d.0; unread = d.1 }

pub sound : (m w : ℕ) (f : File) → f.opened ≡ true → Sound m w f → file_sound m w f ≡ true
unfolding file_sound open_sound
sound m w f o S =
    let x = fits f.sequence f.check f.output f.size f.rlen f.low.slot S.low in
    let y = fits f.sequence f.check f.output f.size f.rlen f.high.slot S.high in
    cond_true (open_sound m w f) (is_blank f) o
    ∙ and_both (in_range w f) _ (and_both _ _ S.sizes (and_both _ _ (lt-ltb f.block block_numbers S.number) (and_both _ _ x.found y.found)))
    (and_both (has_buffers m f) _ (and_both _ _ (lt-ltb f.low.number m S.first) S.second)
    (and_both (taken_right f) _ (le-leb (taken_count f) (one_if (not f.output)) S.taken)
    (and_both (full_right f) _ (and_both _ _ x.full y.full)
    (and_both (part_right f) _ (and_both _ _ (le-leb (parts_held f) (one_if f.output) S.part) (and_both _ _ x.part y.part))
    (and_both (place_right f) _ (and_both _ _ x.place y.place)
    (and_both (not f.turned || (is_full f.low.slot && is_full f.high.slot)) _ (unless_so f.turned _ S.order)
    (unless_so f.output _ (λ e. and_both _ _ (ap not (S.mark e)) (and_both _ _ (unless f.output _ x.unread e) (unless f.output _ y.unread e))))))))))
