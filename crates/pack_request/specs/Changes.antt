-- What a call on one file and one channel, which may change the routines, makes of the state. Assumes nothing.
use Rattle.std.specs.Prelude.{ℕ, cond, eqb}
use Rattle.channel.specs.declared.Channel.{Channel}
use Rattle.file.specs.declared.File.{File}
use Rattle.routines.specs.declared.Routines.{Routines}
use Rattle.state.specs.declared.State.{State}
use Rattle.state.specs.Stores.{with_file, with_channel, with_routines}

-- the file i, the channel j and the routines are replaced; "A refusal returns the number alone and changes nothing."
unfoldable pub changed_state : State → ℕ → ℕ → ℕ → File → Channel → Routines → State
changed_state s i j refusal f c r = cond (eqb refusal 0) (with_routines (with_file (with_channel s j c) i f) r) s
