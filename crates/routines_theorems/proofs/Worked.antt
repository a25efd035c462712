-- The worked example goes as its table says. Assumes nothing.
use mathlib.Core.Path.{◌≡◌, refl}
use mathlib.Core.List.{List, map}
use lib.ListN.{replicate}
use Rattle.routines.specs.Ranks.{under, main_alone}
use Rattle.routines.specs.Waits.{with_due, highest_on, highest_from, highest}
use Rattle.routines.specs.Schedule.{enters, interrupted_by, look_of, enters_on_return, resumed_of, given_back}
use Rattle.routines_theorems.specs.Machine.{answers, prepared, act_of, cleared, after, step}
use Rattle.routines_theorems.specs.Example.{begun, worked, Line, shown}

pub goes_as_shown : shown begun (map (λ (l : Line). l.call) worked) ≡ map (λ (l : Line). l.shows) worked
unfolding begun worked shown step answers prepared act_of cleared after under main_alone with_due highest_on highest_from highest enters interrupted_by look_of enters_on_return resumed_of given_back
goes_as_shown = refl
