-- `planner_text::fields::first` meets its contract: from the contract of `up_to`. Assumes nothing.
use mathlib.Core.Path.{sym, ap}
use lib.ListN.{take}
use lib.Seq.{length-take-le}
use Rattle.planner_text.specs.Fields.{first_to}
use Rattle.planner_text.proofs.fields.first.Goals as goal

pub slice_bounds-result-end : goal.slice_bounds-result-end
slice_bounds-result-end c = sym (length-take-le c.up_to-n.result c.args.text.now c.up_to-n.ensures.1)

pub returns : goal.returns
unfolding first_to
returns c = ap (λ n. take n c.args.text.now) c.up_to-n.ensures.0
