-- What put and seal do to an output file leaves it ready for what is requested of its unit: a file with a full block has one still. Assumes nothing.
use mathlib.Core.Path.{◌≡◌, refl, sym, ap, ◌∙◌}
use mathlib.Core.Bool.{Bool, true, false, not, cond, ◌&&◌}
use Prim.Native.Nat.{ℕ, ◌+◌, ◌≤◌}
use native.Mathlib.Omega.{arith}
use borrow.Author.Tests.{le-leb}
use lib.Dec.{eqb, ltb}
use lib.ListN.{length}
use Rattle.area.proofs.Walks.{true_not_false, and_left, and_right, and_both}
use Rattle.area.proofs.Marks.{cond_true, unless, unless_so}
use Rattle.file.specs.Arrivals.{no_arrival}
use Rattle.file.specs.declared.Slot.TheVariants.{Part}
use Rattle.file.specs.declared.Side.{Side}
use Rattle.file.specs.declared.Side.TheVariants.{Low, High, Neither}
use Rattle.file.specs.declared.File.{File}
use Rattle.file.specs.Slots.{is_full}
use Rattle.file.specs.Sides.{is_side, lower, oldest, part_side}
use Rattle.file.specs.Fills.{with_slot, turned_by, filled_at}
use Rattle.file_input.specs.Delivers.{has_full}
use Rattle.file_output.specs.Puts.{put_side, words_after, added, after_put}
use Rattle.file_output.specs.Parts.{part_length, sealed_file}
use Rattle.file_input.specs.Ages.{line}
use Rattle.file_input.proofs.Ages.{Aged, no_block, old, aged, added_line}
use Rattle.state_sound.specs.Files.{taken_count}
use Rattle.area.specs.Lists.{one_if}
use Rattle.state_sound.proofs.FileFacts.{Sound}
use Rattle.state_sound.proofs.Puts.{PutAt, put_at, put_is}
use Rattle.state_sound.specs.Requests.{is_read, is_write, fits_output}
use Rattle.state_sound.specs.Judged.{file_ready}
use Rattle.std.specs.declared.option.Option.{Option}
use Rattle.channel.specs.declared.Op.{Op}

-- ---- a full block

lower_side : (a b t : Bool) → b ≡ true → is_side (lower (a && not (b && t)) b) ≡ true
lower_side true true true e = refl
lower_side true true false e = refl
lower_side false true t e = refl
lower_side a false t e = true_not_false e refl

low_side : (b t : Bool) → is_side (lower (true && not (b && t)) b) ≡ true
low_side true true = refl
low_side true false = refl
low_side false t = refl

-- a block that becomes full is one
filled_full : (f : File) (k : Side) (n : ℕ) → is_side k ≡ true → has_full (filled_at f k n no_arrival) ≡ true
unfolding filled_at oldest
filled_full f Low n s = low_side (is_full f.high.slot) (turned_by f Low)
filled_full f High n s = lower_side (is_full f.low.slot) true (turned_by f High) refl
filled_full f Neither n s = true_not_false s refl

pub sealed_full : (f : File) → is_side (part_side f) ≡ true → has_full (sealed_file f) ≡ true
unfolding sealed_file
sealed_full f s = filled_full f (part_side f) (part_length f) s

-- a file has a full block exactly if its line is not empty
some_line : (f : File) → has_full f ≡ true → 1 ≤ length (line f)
some_line f h = go (oldest f) (aged f) h
  where
    go : (k : Side) → Aged f k → is_side k ≡ true → 1 ≤ length (line f)
    go Neither (no_block e) s = true_not_false s refl
    go k (old _ n at e rest t x l gone moved) s = let long = ap length l in omega arith

line_some : (f : File) → 1 ≤ length (line f) → has_full f ≡ true
line_some f h = go (oldest f) (aged f)
  where
    go : (k : Side) → Aged f k → is_side k ≡ true
    go Neither (no_block e) = let long = ap length e in absurd (omega arith)
    go k (old _ n at e rest t x l gone moved) = t

pub put_full : (m w : ℕ) (f : File) → Sound m w f → is_side (put_side f) ≡ true → has_full f ≡ true → has_full (after_put f) ≡ true
unfolding added
put_full m w f S room h = ap has_full (put_is f room P) ∙ go (ltb f.size (words_after f + f.rlen))
  where
    P : PutAt f (put_side f)
    P = put_at m w f S room

    more : File
    more = with_slot f (put_side f) (Part (words_after f)) false f.block

    same : added f ≡ more
    same = cond_true more f (le-leb (words_after f) f.size P.fit)

    go : (t : Bool) → has_full (cond t (filled_at f (put_side f) (words_after f) no_arrival) more) ≡ true
    go true = filled_full f (put_side f) (words_after f) room
    go false =
        let long : length (line more) ≡ length (line f) = ap length (sym (ap line same) ∙ added_line f) in
        line_some more (omega (arith, some_line f h))

-- ---- ready

-- no buffer of a sound output file is taken
none_taken : (m w : ℕ) (f : File) → Sound m w f → f.output ≡ true → taken_count f ≡ 0
none_taken m w f S o =
    let none : one_if (not f.output) ≡ 0 = ap (λ (t : Bool). one_if (not t)) o in
    omega (arith, S.taken)

pub output_ready : (m w : ℕ) (x : Option Op) (f g : File) → Sound m w f → Sound m w g → f.output ≡ true → g.output ≡ f.output → (has_full f ≡ true → has_full g ≡ true)
    → file_ready x f ≡ true → file_ready x g ≡ true
unfolding file_ready
output_ready m w x f g S T o same full h =
    let rest = and_right (fits_output x f.output) _ h in
    let taken : taken_count g ≡ taken_count f = none_taken m w g T (same ∙ o) ∙ sym (none_taken m w f S o) in
    and_both (fits_output x g.output) _ (ap (fits_output x) same ∙ and_left (fits_output x f.output) _ h)
    (and_both (eqb (taken_count g) (one_if (is_read x))) _ (ap (λ (n : ℕ). eqb n (one_if (is_read x))) taken ∙ and_left (eqb (taken_count f) (one_if (is_read x))) _ rest)
    (unless_so (is_write x) (has_full g) (λ e. full (unless (is_write x) (has_full f) (and_right (eqb (taken_count f) (one_if (is_read x))) _ rest) e))))
