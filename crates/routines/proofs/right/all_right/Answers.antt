-- `all_right` meets its contract: `all` asks every place of the list. Assumes nothing.
use Rattle.std.proofs.Common.{rules}
use Rattle.std.proofs.lemmas.Iterator.{YieldsList-from_slice}
use Rattle.std.proofs.lemmas.Iterator.Search.{all_from_yields_List}
use Rattle.routines.specs.Right.{program_right}
use Rattle.routines.proofs.Laws.Lists.{all_listed}
use Rattle.routines.proofs.right.all_right.Goals as goal

pub returns : goal.returns
returns c = all_listed program_right c.args.pushed _ (all_from_yields_List program_right _ _ _ c.all.ensures.ran (YieldsList-from_slice c.args.pushed c.iter.ensures.rest) (λ x b q k. search rules))
