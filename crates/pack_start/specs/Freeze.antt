-- Freeze and thaw (document 01, "Requests, reports, turns"). Assumes nothing.
use Rattle.std.specs.Prelude.{ℕ, true, false, not, [], ◌∷◌, map}
use Rattle.area.specs.Refusals.{Rows, lowest}
use Rattle.channel_turns.specs.Starts.{thaw_of}
use Rattle.routines.specs.Changes.{looked_in}
use Rattle.state.specs.declared.State.{State}
use Rattle.state_sound.specs.Soundness.{sound}
use Rattle.state.specs.declared.Called.{Called}
use Rattle.state.specs.Answers.{called}

-- their one row
unfoldable pub state_rows : State → Rows
state_rows s =
    -- "a state passed back is unsound"
    (1, not (sound s)) ∷ []

abbrev pub state_refusal : State → ℕ
state_refusal s = lowest (state_rows s)

-- "Freeze stops starts on all channels"
unfoldable pub frozen_state : State → State
frozen_state s = record { m = s.m; w = s.w; frozen = true; channels = s.channels; files = s.files; free = s.free; routines = s.routines }

-- "Thaw lets starts happen.": every channel that is idle starts what is due; "while frozen nothing enters, and thaw looks again" (document 02, M-110):
-- the highest waiting routine is entered if it is above what runs
unfoldable pub thawed_state : State → State
thawed_state s = record {
  m = s.m;
  w = s.w;
  frozen = false;
  channels = map thaw_of s.channels;
  files = s.files;
  free = s.free;
  routines = looked_in s.routines false;
}

unfoldable pub freeze_by : State → Called
freeze_by s = called (state_refusal s) s (frozen_state s)

unfoldable pub thaw_by : State → Called
thaw_by s = called (state_refusal s) s (thawed_state s)
