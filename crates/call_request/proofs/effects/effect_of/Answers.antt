-- `call_request::effects::effect_of` meets its contract, a case each. Assumes nothing.

use Rattle.call_request.proofs.effects.effect_of.Goals as goal

pub returns-in-Ends : goal.returns-in-Ends
returns-in-Ends c = rw c.in-Ends.is c.work_effect.ensures
