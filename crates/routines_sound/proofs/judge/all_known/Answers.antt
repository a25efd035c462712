-- `all_known` meets its contract: `all` asks every place of the list. Assumes nothing.
use Rattle.std.proofs.Common.{rules}
use Rattle.std.proofs.lemmas.Iterator.{YieldsList-from_slice}
use Rattle.std.proofs.lemmas.Iterator.Search.{all_from_yields_List}
use Rattle.routines.specs.Right.{unit_known}
use Rattle.routines.proofs.Laws.Lists.{all_listed}
use Rattle.routines_sound.specs.Beside.{declared_in}
use Rattle.routines_sound.proofs.judge.all_known.Goals as goal

pub returns : goal.returns
returns c = let a = c.args in
    all_listed (unit_known (declared_in a.channels)) a.pushed _ (all_from_yields_List (unit_known (declared_in a.channels)) _ _ _ c.all.ensures.ran (YieldsList-from_slice a.pushed c.iter.ensures.rest) (λ x b q k. search rules))
