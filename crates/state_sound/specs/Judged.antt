-- The same paragraph in the order in which the code walks: the pool, the files, each file with its unit, each channel with its units, the
-- free mask, the routines.
-- A theorem says that this is `sound`. Assumes nothing.
use Rattle.std.specs.Prelude.{ℕ, Bool, true, not, ◌&&◌, ◌||◌, List, leb, ltb, eqb, Option}
use Rattle.area.specs.Lists.{any_of, all_of, one_if}
use Rattle.area.specs.Numbered.{all_from}
use Rattle.channel.specs.declared.Request.{Request}
use Rattle.channel.specs.declared.Turn.{Turn}
use Rattle.channel.specs.declared.Turn.TheVariants.{Idle, Waiting, Displaced, Working}
use Rattle.channel.specs.declared.Unit.{Unit}
use Rattle.channel.specs.declared.Channel.{Channel}
use Rattle.channel.specs.Units.{size, declared_at}
use Rattle.file.specs.declared.File.{File}
use Rattle.file_input.specs.Delivers.{has_full}
use Rattle.pool.specs.Free.{pool_sound}
use Rattle.pool.specs.Masks.{free_mask}
use Rattle.pool.specs.Serving.{serves}
use Rattle.state_sound.specs.Files.{taken_count, files_sound}
use Rattle.state.specs.declared.State.{State}
use Rattle.routines_sound.specs.Beside.{routines_beside}
use Rattle.state_sound.specs.Requests.{requested, is_none, is_read, is_write, fits_output}
use Rattle.state_sound.specs.Soundness.{channel_of, request_of, position_right, marks_right, works_right, in_limit}
use Rattle.channel.specs.declared.Op.{Op}

-- ---- a file with its unit

-- ready for what is requested of it: the direction, the buffer that a read alone has taken, a write's full block
unfoldable pub file_ready : Option Op → File → Bool
file_ready x f = fits_output x f.output && (eqb (taken_count f) (one_if (is_read x)) && (not (is_write x) || has_full f))

unfoldable pub file_fits : List Channel → File → Bool
file_fits cs f = not f.opened || (declared_at (channel_of cs f) f.unit && file_ready (request_of cs f) f)

-- ---- a channel with its units

abbrev pub is_counted : Request → Bool
is_counted q = leb 1 q.attempts && in_limit q

abbrev pub turn_right : Turn → Bool
turn_right Idle = true
turn_right (Waiting q) = is_counted q
turn_right (Displaced q) = is_counted q
turn_right (Working q) = is_counted q

unfoldable pub unit_right : ℕ → Unit → Bool
unit_right m x = (not x.declared || ltb 0 m) && ((x.declared || is_none (requested x.turn)) && (turn_right x.turn && position_right x))

-- a unit with a request has an open file
unfoldable pub unit_served : List File → ℕ → ℕ → Unit → Bool
unit_served fs c u x = is_none (requested x.turn) || any_of (serves c u) fs

unfoldable pub channel_right : ℕ → Bool → List File → ℕ → Channel → Bool
channel_right m frozen fs c x = marks_right x && (all_of (unit_right m) x.units && (works_right frozen x.units && all_from (unit_served fs c) 0 x.units))

unfoldable pub judged_state : State → Bool
judged_state s =
    pool_sound s.m s.w
    && (files_sound s.m s.w s.files
    && (all_of (file_fits s.channels) s.files
    && (all_from (channel_right s.m s.frozen s.files) 0 s.channels
    && (eqb s.free (free_mask s.m s.files)
    && routines_beside s.channels s.frozen s.routines))))
