-- "A state passed back by the caller is sound if ..": that paragraph of document 01, a conjunct for each clause, in its order, the mask of
-- the free buffers, and the special routines. Assumes nothing.
use Rattle.std.specs.Prelude.{ℕ, Bool, true, not, cond, ◌&&◌, ◌||◌, List, leb, ltb, eqb, Option}
use Rattle.area.specs.Lists.{any_of, all_of, all_pairs, count_of, one_if}
use Rattle.area.specs.Numbered.{all_from}
use Rattle.channel.specs.declared.Position.{Position}
use Rattle.channel.specs.declared.Request.{Request}
use Rattle.channel.specs.declared.Turn.{Turn}
use Rattle.channel.specs.declared.Turn.TheVariants.{Idle, Waiting, Displaced, Working}
use Rattle.channel.specs.declared.Unit.{Unit}
use Rattle.channel.specs.declared.Channel.{Channel}
use Rattle.channel_outcomes.specs.Positions.{most_passed}
use Rattle.channel_outcomes.specs.Rules.{row_of}
use Rattle.channel.specs.Units.{unit_works, size, declared_at, turn_at}
use Rattle.file.specs.declared.File.{File}
use Rattle.file_input.specs.Delivers.{has_full}
use Rattle.pool.specs.Free.{pool_sound}
use Rattle.pool.specs.Masks.{free_mask}
use Rattle.pool.specs.Serving.{serves}
use Rattle.state_sound.specs.Files.{in_range, has_buffers, taken_count, full_right, part_right, place_right, rest_is_zero, is_blank, share_buffer, share_unit}
use Rattle.state.specs.declared.State.{State}
use Rattle.state.specs.Places.{channel_in}
use Rattle.routines_sound.specs.Beside.{routines_beside}
use Rattle.state_sound.specs.Requests.{requested, is_none, is_read, is_write, fits_output, is_waiting}
use Rattle.channel.specs.declared.Op.{Op}

-- ---- what the clauses speak of

-- what is said of open files alone
abbrev pub if_open : File → Bool → Bool
if_open f right = not f.opened || right

-- the channel of a file, and what is requested of its unit
abbrev pub channel_of : List Channel → File → Channel
channel_of cs f = channel_in cs f.channel

abbrev pub request_of : List Channel → File → Option Op
request_of cs f = requested (turn_at (channel_of cs f) f.unit)

-- ---- "its numbers are in the ranges here"

-- an open file's sizes, block number and check errors, and zero for what has no meaning; a closed file is all zero
abbrev pub file_in_range : ℕ → File → Bool
file_in_range w f = cond f.opened (in_range w f && rest_is_zero f) (is_blank f)

-- a request's attempt is 1 or more; what an undeclared unit would be asked for has no meaning, so it is idle
abbrev pub turn_in_range : Bool → Turn → Bool
turn_in_range declared Idle = true
turn_in_range declared (Waiting q) = declared && leb 1 q.attempts
turn_in_range declared (Displaced q) = declared && leb 1 q.attempts
turn_in_range declared (Working q) = declared && leb 1 q.attempts

-- a position (document 02, M-106): "each held at 32,767"; that of an undeclared unit has no meaning, so it is zero
abbrev pub is_at_start : Position → Bool
is_at_start p = eqb p.marks 0 && (eqb p.records 0 && not p.noisy)

abbrev pub position_in_range : Bool → Position → Bool
position_in_range declared p = leb p.marks most_passed && (leb p.records most_passed && (declared || is_at_start p))

-- a request has passed over noise records only on a unit that has met one
abbrev pub noise_known : Request → Position → Bool
noise_known q p = eqb q.noise 0 || p.noisy

abbrev pub noise_right : Turn → Position → Bool
noise_right Idle p = true
noise_right (Waiting q) p = noise_known q p
noise_right (Displaced q) p = noise_known q p
noise_right (Working q) p = noise_known q p

unfoldable pub position_right : Unit → Bool
position_right x = position_in_range x.declared x.position && noise_right x.turn x.position

-- before the first fresh start there are "no units": none is declared where m is 0
abbrev pub unit_in_range : ℕ → Unit → Bool
unit_in_range m x = (not x.declared || ltb 0 m) && (turn_in_range x.declared x.turn && position_right x)

-- the marks of both scans are units' numbers
abbrev pub marks_right : Channel → Bool
marks_right c = ltb c.mark (size c) && ltb c.urgent (size c)

abbrev pub channel_in_range : ℕ → Channel → Bool
channel_in_range m c = marks_right c && all_of (unit_in_range m) c.units

-- "m from 1 to 32, W from 1 to 1,024"; "Before the first fresh start: no buffers (m and W are 0)"
unfoldable pub numbers_in_range : State → Bool
numbers_in_range s = pool_sound s.m s.w && (all_of (file_in_range s.w) s.files && all_of (channel_in_range s.m) s.channels)

-- ---- "no buffer is held by two files"

abbrev pub buffers_apart : File → File → Bool
buffers_apart f g = not (share_buffer f g)

unfoldable pub no_buffer_held_twice : State → Bool
no_buffer_held_twice s = all_pairs buffers_apart s.files

-- ---- "each open file has its one or two buffers and a declared unit of its own"

abbrev pub has_its_own : ℕ → List Channel → File → Bool
has_its_own m cs f = if_open f (has_buffers m f && declared_at (channel_of cs f) f.unit)

abbrev pub units_apart : File → File → Bool
units_apart f g = not (share_unit f g)

unfoldable pub each_has_its_own : State → Bool
each_has_its_own s = all_of (has_its_own s.m s.channels) s.files && all_pairs units_apart s.files

-- ---- "each request fits the direction of its unit's open file"

-- unit u of channel c, if anything is requested of it, serves an open file of that direction
abbrev pub unit_fits : List File → ℕ → ℕ → Unit → Bool
unit_fits fs c u x = is_none (requested x.turn) || any_of (λ (f : File). serves c u f && fits_output (requested x.turn) f.output) fs

abbrev pub channel_fits : List File → ℕ → Channel → Bool
channel_fits fs c x = all_from (unit_fits fs c) 0 x.units

unfoldable pub requests_fit : State → Bool
requests_fit s = all_from (channel_fits s.files) 0 s.channels

-- ---- "each channel works for at most one unanswered request, and for one if it is not frozen and any waits"

abbrev pub unit_waits : Unit → Bool
unit_waits x = is_waiting x.turn

abbrev pub works_right : Bool → List Unit → Bool
works_right frozen us = leb (count_of unit_works us) 1 && (frozen || (not (any_of unit_waits us) || eqb (count_of unit_works us) 1))

unfoldable pub channels_work : State → Bool
channels_work s = all_of (λ (c : Channel). works_right s.frozen c.units) s.channels

-- ---- "A read request alone has a buffer taken, one of its file's"

abbrev pub taken_by_read : List Channel → File → Bool
taken_by_read cs f = if_open f (eqb (taken_count f) (one_if (is_read (request_of cs f))))

unfoldable pub reads_alone_take : State → Bool
reads_alone_take s = all_of (taken_by_read s.channels) s.files

-- ---- "a write's file has a full block"

abbrev pub write_has_block : List Channel → File → Bool
write_has_block cs f = if_open f (not (is_write (request_of cs f)) || has_full f)

unfoldable pub writes_have_blocks : State → Bool
writes_have_blocks s = all_of (write_has_block s.channels) s.files

-- ---- "full blocks have 1 to B data words"

unfoldable pub full_blocks_right : State → Bool
full_blocks_right s = all_of (λ (f : File). if_open f (full_right f)) s.files

-- ---- "an output file alone has a part-filled buffer, at most one, with r words or more and room for r"

unfoldable pub part_buffers_right : State → Bool
part_buffers_right s = all_of (λ (f : File). if_open f (part_right f)) s.files

-- ---- "no place of get is past its block"

unfoldable pub places_right : State → Bool
places_right s = all_of (λ (f : File). if_open f (place_right f)) s.files

-- ---- "no attempt past its limit", nor the incomplete words that an operation survives and the noise records that it passes over

abbrev pub in_limit : Request → Bool
in_limit q =
    leb q.attempts (row_of q.op).attempts && (leb q.incomplete (row_of q.op).incomplete && leb q.noise (row_of q.op).noise)

abbrev pub turn_in_limit : Turn → Bool
turn_in_limit Idle = true
turn_in_limit (Waiting q) = in_limit q
turn_in_limit (Displaced q) = in_limit q
turn_in_limit (Working q) = in_limit q

abbrev pub channel_in_limit : Channel → Bool
channel_in_limit c = all_of (λ (x : Unit). turn_in_limit x.turn) c.units

unfoldable pub attempts_in_limit : State → Bool
attempts_in_limit s = all_of channel_in_limit s.channels

-- ---- "Keep the free ones as one bit each" (document 02, M-104): the mask says which buffers no open file holds

unfoldable pub free_mask_right : State → Bool
free_mask_right s = eqb s.free (free_mask s.m s.files)

-- ---- special routines (document 02, M-110): what runs, the push-down list, what requests name and what waits, beside the channels

unfoldable pub routines_right : State → Bool
routines_right s = routines_beside s.channels s.frozen s.routines

-- ---- the paragraph, the mask, and the routines

unfoldable pub sound : State → Bool
sound s =
    numbers_in_range s
    && (no_buffer_held_twice s
    && (each_has_its_own s
    && (requests_fit s
    && (channels_work s
    && (reads_alone_take s
    && (writes_have_blocks s
    && (full_blocks_right s
    && (part_buffers_right s
    && (places_right s
    && (attempts_in_limit s
    && (free_mask_right s
    && routines_right s)))))))))))
