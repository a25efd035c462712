-- `call_request::blocks::delivery_of` meets its contract, by whether a block is delivered. Assumes nothing.
use mathlib.Core.Path.{sym, ◌∙◌}
use Rattle.area.proofs.Marks.{cond_true, cond_false}
use Rattle.call_request.proofs.blocks.delivery_of.Goals as goal

pub returns-then-is_delivery : goal.returns-then-is_delivery
returns-then-is_delivery c = sym (cond_true _ _ (sym c.is_delivery.ensures ∙ c.if-is_delivery.true))

pub returns-else-is_delivery : goal.returns-else-is_delivery
returns-else-is_delivery c = sym (cond_false _ _ (sym c.is_delivery.ensures ∙ c.if-is_delivery.false))
