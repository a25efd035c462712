-- `area::part_are_words` meets its contract, by those of `part` and `are_words`. Assumes nothing.
use mathlib.Core.Path.{ap, ◌∙◌}
use Rattle.area.specs.Lists.{all_of}
use Rattle.area.specs.Parts.{is_word}
use Rattle.area.proofs.part_are_words.Goals as goal

pub returns : goal.returns
returns c = c.are_words.ensures ∙ ap (all_of is_word) c.part.ensures
