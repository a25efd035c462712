-- `call_request::effects::read_effect` meets its contract, a case each, from the contract of `kept_if`. Assumes nothing.

use Rattle.call_request.proofs.effects.read_effect.Goals as goal

pub returns-in-LostRedundancy : goal.returns-in-LostRedundancy
returns-in-LostRedundancy c = rw c.in-LostRedundancy.is c.kept_if.ensures

pub returns-in-LostIncomplete : goal.returns-in-LostIncomplete
returns-in-LostIncomplete c = rw c.in-LostIncomplete.is c.kept_if-in-LostIncomplete.ensures
