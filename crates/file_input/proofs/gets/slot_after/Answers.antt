-- `file_input::slot_after` meets its contract, from the contracts of `words_given`, `after_told` and those that look into the slot. Assumes nothing.

use Rattle.file_input.proofs.gets.slot_after.Goals as goal

pub returns : goal.returns
returns c = simp (c.full_words-n.ensures, c.full_place-at.ensures, c.words_given-given.ensures.0, c.after_told.ensures, c.full_arrival.ensures)
