-- `sheet::lines::front` meets its contract: of a short text all is taken. Assumes nothing.
use Rattle.std.proofs.lemmas.List.{take_min}
use Rattle.sheet.proofs.lines.front.Goals as goal

pub returns : goal.returns
returns c = rw c.min.ensures (take_min c.args.n c.args.text.now)
