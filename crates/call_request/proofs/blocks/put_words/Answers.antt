-- `call_request::blocks::put_words` meets its contract, from those of `taken_start` and `copy_in`. Assumes nothing.
use mathlib.Core.Path.{sym, ◌∙◌}
use Rattle.call_request.specs.Report.{reported_area}
use Rattle.call_request.proofs.blocks.put_words.Goals as goal

pub returns-then-is_delivery : goal.returns-then-is_delivery
unfolding reported_area
returns-then-is_delivery c = rw (sym c.is_delivery.ensures ∙ c.if-is_delivery.true, ← c.taken_start.ensures.0) c.copy_in.ensures.area_after

pub returns-else-is_delivery : goal.returns-else-is_delivery
unfolding reported_area
returns-else-is_delivery c = rw (sym c.is_delivery.ensures ∙ c.if-is_delivery.false)
