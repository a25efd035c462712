-- An empty slot has no words. Assumes nothing.
use mathlib.Core.Path.{◌≡◌, refl}
use mathlib.Core.Bool.{true}
use Rattle.area.proofs.Walks.{true_not_false}
use Rattle.file.specs.declared.Slot.{Slot}
use Rattle.file.specs.declared.Slot.TheVariants.{Empty, Taken, Part, Full}
use Rattle.file.specs.Slots.{is_empty, part_words}

pub empty_words : (x : Slot) → is_empty x ≡ true → part_words x ≡ 0
empty_words Empty e = refl
empty_words Taken e = refl
empty_words (Part n) e = true_not_false e refl
empty_words (Full n at err) e = refl
