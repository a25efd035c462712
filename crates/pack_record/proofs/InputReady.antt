-- What get and skip do to an input file leaves it ready for what is requested of its unit: a buffer that a read has taken stays taken.
-- Assumes nothing.
use mathlib.Core.Path.{◌≡◌, refl, sym, ap, ◌∙◌}
use mathlib.Core.Bool.{Bool, true, false, not, cond, ◌||◌}
use Prim.Native.Nat.{ℕ, ◌+◌}
use lib.Dec.{eqb}
use Rattle.area.proofs.Walks.{and_left, and_right, and_both}
use Rattle.channel.specs.declared.Op.TheVariants.{Read, Write, Mark}
use Rattle.file.specs.declared.Slot.{Slot}
use Rattle.file.specs.declared.Slot.TheVariants.{Empty}
use Rattle.file.specs.declared.Side.{Side}
use Rattle.file.specs.declared.Side.TheVariants.{Low, High, Neither}
use Rattle.file.specs.declared.File.{File}
use Rattle.file.specs.Slots.{is_taken}
use Rattle.file.specs.Sides.{slot_at, oldest}
use Rattle.file.specs.Fills.{with_slot, emptied_at, without_oldest}
use Rattle.file_input.specs.Delivers.{has_full}
use Rattle.file_input.proofs.Ages.{Aged, no_block, old, aged}
use Rattle.file_input.specs.Gets.{is_used_up, passed, looked_at, slot_after, after_found, get_from}
use Rattle.state_sound.specs.Files.{taken_count}
use Rattle.area.specs.Lists.{one_if}
use Rattle.state_sound.specs.Requests.{is_read, is_write, fits_output}
use Rattle.state_sound.specs.Judged.{file_ready}
use Rattle.std.specs.declared.option.Option.{Option}
use Rattle.std.specs.declared.option.Option.TheVariants.{Some, None}
use Rattle.channel.specs.declared.Op.{Op}

-- ---- which buffers are taken

-- a full block in the place of a full one, or nothing, is not taken either
same_taken : (f : File) (k : Side) (x : Slot) (t : Bool) (b : ℕ) → is_taken x ≡ is_taken (slot_at f k) → taken_count (with_slot f k x t b) ≡ taken_count f
same_taken f Low x t b e = ap (λ (c : Bool). one_if c + one_if (is_taken f.high.slot)) e
same_taken f High x t b e = ap (λ (c : Bool). one_if (is_taken f.low.slot) + one_if c) e
same_taken f Neither x t b e = refl

pub dropped_taken : (f : File) → taken_count (without_oldest f) ≡ taken_count f
unfolding without_oldest emptied_at
dropped_taken f = go (oldest f) (aged f)
  where
    go : (k : Side) → Aged f k → taken_count (with_slot f k Empty false f.block) ≡ taken_count f
    go Neither (no_block e) = refl
    go k (old _ n at e rest s x l gone moved) = same_taken f k Empty false f.block (sym (ap is_taken x))

passed_taken : (f : File) → taken_count (passed f) ≡ taken_count f
unfolding passed
passed_taken f = go (is_used_up (slot_at f (oldest f)))
  where
    go : (t : Bool) → taken_count (cond t (without_oldest f) f) ≡ taken_count f
    go true = dropped_taken f
    go false = refl

found_taken : (f : File) → taken_count (after_found f) ≡ taken_count f
unfolding after_found
found_taken f = go (oldest f) (aged f)
  where
    go : (k : Side) → Aged f k → taken_count (with_slot f k (slot_after f.rlen (slot_at f k)) f.turned f.block) ≡ taken_count f
    go Neither (no_block e) = refl
    go k (old _ n at e rest s x l gone moved) = same_taken f k (slot_after f.rlen (slot_at f k)) f.turned f.block (sym (ap is_taken x))

pub get_taken : (w : ℕ) (f : File) → taken_count (get_from w f).file ≡ taken_count f
unfolding get_from looked_at
get_taken w f = found_taken (looked_at f) ∙ passed_taken (passed f) ∙ passed_taken f

-- ---- ready

no_write : (x : Option Op) → fits_output x false ≡ true → is_write x ≡ false
no_write (Some Read) e = refl
no_write (Some Write) e = sym e
no_write (Some Mark) e = refl
no_write None e = refl

-- an input file that has as many buffers taken as before
pub input_ready : (x : Option Op) (f g : File) → f.output ≡ false → g.output ≡ f.output → taken_count g ≡ taken_count f → file_ready x f ≡ true → file_ready x g ≡ true
unfolding file_ready
input_ready x f g i same taken h =
    let way : fits_output x f.output ≡ true = and_left (fits_output x f.output) _ h in
    let rest = and_right (fits_output x f.output) _ h in
    let quiet : is_write x ≡ false = no_write x (sym (ap (fits_output x) i) ∙ way) in
    and_both (fits_output x g.output) _ (ap (fits_output x) same ∙ way)
    (and_both (eqb (taken_count g) (one_if (is_read x))) _ (ap (λ (n : ℕ). eqb n (one_if (is_read x))) taken ∙ and_left (eqb (taken_count f) (one_if (is_read x))) _ rest)
    (ap (λ (b : Bool). not b || has_full g) quiet))
