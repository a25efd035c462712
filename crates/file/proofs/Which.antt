-- Laws of the sides: what is known of the buffer that a search over the two buffers finds. Assumes nothing.
use mathlib.Core.Path.{◌≡◌, refl}
use mathlib.Core.Bool.{Bool, true, false, not, ◌&&◌}
use Rattle.area.proofs.Walks.{true_not_false, and_left, and_right}
use Rattle.file.specs.declared.Side.{Side}
use Rattle.file.specs.declared.Side.TheVariants.{Low, High, Neither}
use Rattle.file.specs.declared.File.{File}
use Rattle.file.specs.Slots.{is_empty, is_taken, is_part, is_full}
use Rattle.file.specs.Sides.{slot_at, is_side, lower, empty_side, taken_side, part_side, oldest}

-- the lower of two that pass is the first, or the second where the first does not pass, or none
pub lower_cases : (P : Side → Type 0) (a b : Bool) → (a ≡ true → P Low) → (a ≡ false → b ≡ true → P High) → (a ≡ false → b ≡ false → P Neither) → P (lower a b)
lower_cases P true b low high none = low refl
lower_cases P false true low high none = high refl refl
lower_cases P false false low high none = none refl refl

pub none_side : (k : Side) → is_side k ≡ false → k ≡ Neither
none_side Low e = true_not_false refl e
none_side High e = true_not_false refl e
none_side Neither e = refl

no_side : {A : Type 0} → is_side Neither ≡ true → A
no_side e = true_not_false e refl

-- ---- what the buffer holds

pub empty_there : (f : File) → is_side (empty_side f) ≡ true → is_empty (slot_at f (empty_side f)) ≡ true
unfolding empty_side
empty_there f =
    lower_cases (λ k. is_side k ≡ true → is_empty (slot_at f k) ≡ true) (is_empty f.low.slot) (f.double && is_empty f.high.slot)
    (λ a s. a) (λ a b s. and_right f.double _ b) (λ a b s. no_side s)

pub taken_there : (f : File) → is_side (taken_side f) ≡ true → is_taken (slot_at f (taken_side f)) ≡ true
unfolding taken_side
taken_there f =
    lower_cases (λ k. is_side k ≡ true → is_taken (slot_at f k) ≡ true) (is_taken f.low.slot) (is_taken f.high.slot)
    (λ a s. a) (λ a b s. b) (λ a b s. no_side s)

pub part_there : (f : File) → is_side (part_side f) ≡ true → is_part (slot_at f (part_side f)) ≡ true
unfolding part_side
part_there f =
    lower_cases (λ k. is_side k ≡ true → is_part (slot_at f k) ≡ true) (is_part f.low.slot) (is_part f.high.slot)
    (λ a s. a) (λ a b s. b) (λ a b s. no_side s)

pub full_there : (f : File) → is_side (oldest f) ≡ true → is_full (slot_at f (oldest f)) ≡ true
unfolding oldest
full_there f =
    lower_cases (λ k. is_side k ≡ true → is_full (slot_at f k) ≡ true) (is_full f.low.slot && not (is_full f.high.slot && f.turned)) (is_full f.high.slot)
    (λ a s. and_left (is_full f.low.slot) _ a) (λ a b s. b) (λ a b s. no_side s)
