-- `sheet::calls::followed` meets its contract, from those of its callees. Assumes nothing.
use Rattle.sheet.proofs.Steps.{followed_is}
use Rattle.sheet.proofs.calls.followed.Goals as goal

pub returns : goal.returns
returns c = followed_is c.args.d c.args.state c.args.e c.args.length _ c.next_number-k.ensures _ c.listed_after-listed.ensures _ c.pick-differs.ensures _ c.saturating_sub.ensures _ c.no_line.ensures
