-- Return and what runs on a whole state (document 02, M-110): what row 1 says of it, and the state after the call. Assumes nothing.
use Rattle.std.specs.Prelude.{not}
use Rattle.state.specs.declared.State.{State}
use Rattle.state.specs.Stores.{with_routines}
use Rattle.state_sound.specs.Soundness.{sound}
use Rattle.pack_routine.specs.declared.RoutineChange.{RoutineChange}
use Rattle.pack_routine.specs.declared.Ran.{Ran}
use Rattle.pack_routine.specs.Ons.{return_on, running_on}

-- the answer, with the routines that a call leaves in their place
abbrev pub ran_in : State → RoutineChange → Ran
ran_in s x = record { refusal = x.refusal; entered = x.entered; program = x.program; state = with_routines s x.routines }

unfoldable pub return_by : State → Ran
return_by s = ran_in s (return_on (not (sound s)) s.frozen s.routines)

unfoldable pub running_by : State → Ran
running_by s = ran_in s (running_on (not (sound s)) s.routines)
