-- `pack_routine::return_on` meets its contract: refused, or done by the contract of `gave_back`. Assumes nothing.
use mathlib.Core.Path.{sym, ◌∙◌}
use Rattle.pack_routine.proofs.OnLaws.{return_off, return_done}
use Rattle.pack_routine.proofs.ons.return_on.Goals as goal

pub returns-then-no-ne0 : goal.returns-then-no-ne0
returns-then-no-ne0 c = let a = c.args in
    c.refused.ensures ∙ sym (return_off a.wrong a.frozen a.r _ c.return_refusal-no.ensures c.if-no-ne0.true)

pub returns : goal.returns
returns c = let a = c.args in
    rw c.gave_back-back.ensures (sym (return_done a.wrong a.frozen a.r _ c.return_refusal-no.ensures c.if-no-ne0.false))
