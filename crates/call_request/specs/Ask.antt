-- Ask (document 01, "Refusal numbers" and "Requests, reports, turns"). Assumes nothing.
use Rattle.std.specs.Prelude.{ℕ, Bool, not, cond, ◌&&◌, ◌||◌, [], ◌∷◌, ltb, eqb}
use Rattle.area.specs.Refusals.{Rows, lowest}
use Rattle.channel.specs.declared.Op.{Op}
use Rattle.channel.specs.declared.Op.TheVariants.{Read, Write, Mark}
use Rattle.channel.specs.declared.Channel.{Channel}
use Rattle.channel.specs.Units.{has_request}
use Rattle.channel_turns.specs.Scans.{working_in, unit_number}
use Rattle.channel_turns.specs.Starts.{ask_of}
use Rattle.file.specs.declared.File.{File}
use Rattle.file_input.specs.Delivers.{has_empty, has_full, took_buffer}
use Rattle.file_output.specs.Sends.{has_unsent}
use Rattle.routines.specs.declared.Naming.{Naming}
use Rattle.routines.specs.Posts.{naming_wrong}
use Rattle.call_request.specs.declared.AskChange.{AskChange}

-- "03 file operation(0 read, 1 write, 2 mark) priority(0/1)"
abbrev pub is_reading : ℕ → Bool
is_reading op = eqb op 0

abbrev pub is_writing : ℕ → Bool
is_writing op = eqb op 1

abbrev pub is_marking : ℕ → Bool
is_marking op = eqb op 2

unfoldable pub op_of : ℕ → Op
op_of op = cond (is_reading op) Read (cond (is_writing op) Write Mark)

abbrev pub is_priority : ℕ → Bool
is_priority priority = eqb priority 1

-- ---- its rows of the table, for the file f, whose unit is busy with a request or not, with the routine that it names; `wrong` is what row 1 says of the state and of the file's
-- number, and `waits` whether a routine waits at the file's unit

abbrev pub ask_rows_by : Bool → File → Bool → ℕ → ℕ → Naming → Bool → Rows
ask_rows_by wrong f busy op priority naming waits =
    -- "an argument is outside its range .. a state passed back is unsound"; "a priority 0 to 4" of a routine (document 02, M-110)
    (1, wrong || (ltb 2 op || (ltb 1 priority || naming_wrong naming))) ∷
    -- "file not open"
    (5, not f.opened) ∷
    -- "wrong direction: read .. on an output file; write, mark .. on an input file"
    (6, (is_reading op && f.output) || ((is_writing op || is_marking op) && not f.output)) ∷
    -- "ask ..: the file's unit has an unanswered request"; "A unit whose routine waits refuses a new ask with 8"
    (8, busy || waits) ∷
    -- "ask read: no empty buffer. Ask write ..: no full buffer."
    (9, (is_reading op && not (has_empty f)) || (is_writing op && not (has_full f))) ∷
    -- "ask read: a file mark has been read since the open"
    (10, is_reading op && f.marked) ∷
    -- ".. ask mark: an output buffer is part-filled or full"
    (15, is_marking op && has_unsent f) ∷
    []

-- on the channel c
abbrev pub ask_rows : Bool → File → Channel → ℕ → ℕ → Naming → Bool → Rows
ask_rows wrong f c op priority naming waits = ask_rows_by wrong f (has_request c f.unit) op priority naming waits

unfoldable pub ask_refusal : Bool → File → Channel → ℕ → ℕ → Naming → Bool → ℕ
ask_refusal wrong f c op priority naming waits = lowest (ask_rows wrong f c op priority naming waits)

-- ---- its effect

-- "An accepted read takes the lowest empty buffer."
unfoldable pub asked_file : ℕ → File → File
asked_file op f = cond (is_reading op) (took_buffer f) f

-- the unit holds the request, and "a channel that is idle and not frozen starts an activity"
unfoldable pub asked_channel : File → Channel → ℕ → ℕ → Bool → Channel
asked_channel f c op priority frozen = (ask_of c f.unit (op_of op) (is_priority priority) frozen).channel

-- "ask adds the channel's working unit, FF for none"
unfoldable pub ask_on : Bool → File → Channel → ℕ → ℕ → Naming → Bool → Bool → AskChange
ask_on wrong f c op priority naming waits frozen =
    let refusal = ask_refusal wrong f c op priority naming waits in
    let after = asked_channel f c op priority frozen in
    cond (eqb refusal 0)
    (record { refusal = 0; working = unit_number (working_in after); file = asked_file op f; channel = after })
    (record { refusal = refusal; working = 0; file = f; channel = c })
