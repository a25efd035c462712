-- `codec::are_same` meets its contract. Assumes nothing.
use mathlib.Core.Path.{◌∙◌}
use Rattle.codec.proofs.Codecs.{same_pointwise}
use Rattle.codec.proofs.are_same.Goals as goal

pub returns : goal.returns
returns c = c.eq.ensures ∙ same_pointwise c.args.a.now c.args.b.now
