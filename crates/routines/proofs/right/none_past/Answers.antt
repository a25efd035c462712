-- `none_past` meets its contract: `all` asks every place from `count` on. Assumes nothing.
use Rattle.std.proofs.Common.{rules}
use Rattle.std.proofs.lemmas.Iterator.{YieldsList-from_slice}
use Rattle.std.proofs.lemmas.Iterator.Adapters.{YieldsList-from_skip}
use Rattle.std.proofs.lemmas.Iterator.Search.{all_from_yields_List}
use lib.ListN.{drop}
use Rattle.routines.specs.Ranks.{is_main}
use Rattle.routines.proofs.Laws.Lists.{all_listed}
use Rattle.routines.proofs.right.none_past.Goals as goal

pub returns : goal.returns
returns c = all_listed is_main (drop c.args.count c.args.pushed) _ (all_from_yields_List is_main _ _ _ c.all.ensures.ran (YieldsList-from_skip c.args.count (YieldsList-from_slice c.args.pushed cc) c.skip.ensures.count) (λ x b q k. search rules))
