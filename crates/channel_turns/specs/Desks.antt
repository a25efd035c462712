-- What turns go by, and what a call makes of one unit (document 01, "Requests, reports, turns"): a channel's desk, and the small changes of a channel that
-- an ask and a report come to. Each is the channel's own definition, of `Starts` and `Turns`, put for one unit and the desk. Assumes nothing.
use Rattle.std.specs.Prelude.{ℕ, Bool, not, cond, ◌&&◌, ◌||◌, eqb, ltb, Option, None, is_some}
use Rattle.area.specs.Lists.{first_along}
use Rattle.area.specs.Masks.{bit_at, mask_of}
use Rattle.channel.specs.declared.Op.{Op}
use Rattle.channel.specs.declared.Request.{Request}
use Rattle.channel.specs.declared.Turn.{Turn}
use Rattle.channel.specs.declared.Turn.TheVariants.{Idle, Waiting}
use Rattle.channel.specs.declared.Position.{Position}
use Rattle.channel.specs.declared.Unit.{Unit}
use Rattle.channel.specs.declared.Channel.{Channel}
use Rattle.channel.specs.Units.{is_idle, work_of, with_unit, with_marks}
use Rattle.channel_outcomes.specs.declared.Ending.{Ending}
use Rattle.channel_outcomes.specs.declared.Verdict.{Verdict}
use Rattle.channel_outcomes.specs.declared.Verdict.TheVariants.{Refused, Repeats, Ends}
use Rattle.channel_outcomes.specs.Positions.{position_after, noted_by}
use Rattle.channel_turns.specs.declared.Desk.{Desk}
use Rattle.channel_turns.specs.declared.Move.{Move}
use Rattle.channel_turns.specs.Scans.{idle, ordinary, priority, working, waiting_as, standing_of, stands, next_unit, begin_of, or_else, unit_number}
use Rattle.channel_turns.specs.Starts.{begun_at, new_request}
use Rattle.channel_turns.specs.Turns.{incomplete_turn, is_ordinary, holds_priority, mark_moved}

-- ---- the desk

-- a mask has a bit for each of so many numbers; a channel has no more units
abbrev pub desk_bits : ℕ
desk_bits = 16

-- the units that stand so
abbrev pub stand_mask : Channel → ℕ → ℕ
stand_mask c want = mask_of (stands c want) desk_bits

-- the marks, and the units that are worked for, that wait with a priority request and that wait with an ordinary one
unfoldable pub desk_of : Channel → Desk
desk_of c = record { mark = c.mark; urgent = c.urgent; working = stand_mask c working; priority = stand_mask c priority; ordinary = stand_mask c ordinary }

-- "The scan .. begins .., wraps after 9": the first of n units whose bit is set, from a mark on and round
unfoldable pub scan_of : ℕ → ℕ → ℕ → Option ℕ
scan_of n mask mark = first_along (next_unit n) (bit_at mask) n (begin_of n mark)

-- the unit that is worked for, the next with a priority request, and whose turn it is on an idle channel
unfoldable pub work_on : ℕ → Desk → Option ℕ
work_on n d = scan_of n d.working 0

unfoldable pub urged_on : ℕ → Desk → Option ℕ
urged_on n d = scan_of n d.priority d.urgent

unfoldable pub next_on : ℕ → Desk → Option ℕ
next_on n d = or_else (urged_on n d) (scan_of n d.ordinary d.mark)

-- "a channel that is idle and not frozen starts an activity .. if any request waits"
unfoldable pub starts_on : ℕ → Desk → Bool → Option ℕ
starts_on n d frozen = cond (frozen || is_some (work_on n d)) None (next_on n d)

-- the number of the unit that is worked for then, "FF for none"
unfoldable pub works_after : ℕ → Desk → Bool → ℕ
works_after n d frozen = unit_number (or_else (starts_on n d frozen) (work_on n d))

-- a mask with the bit of u set or not
unfoldable pub with_bit : ℕ → ℕ → Bool → ℕ
with_bit mask u on = mask_of (λ b. cond (eqb u b) on (bit_at mask b)) desk_bits

-- the desk after unit u, of n, has come to stand so; a number that is no unit's changes nothing
unfoldable pub seated_at : ℕ → Desk → ℕ → ℕ → Desk
seated_at n d u want =
    cond (ltb u n)
    (record {
      mark = d.mark;
      urgent = d.urgent;
      working = with_bit d.working u (eqb want working);
      priority = with_bit d.priority u (eqb want priority);
      ordinary = with_bit d.ordinary u (eqb want ordinary);
    })
    d

-- the desk with other marks
abbrev pub marked_at : Desk → ℕ → ℕ → Desk
marked_at d m p = record { mark = m; urgent = p; working = d.working; priority = d.priority; ordinary = d.ordinary }

-- ---- what a call makes of unit u of n, which stands as x, where the channel has the desk d

-- the unit stands so, its reel there, and the channel goes on by the desk that this makes
unfoldable pub moved_on : ℕ → Turn → Position → Desk → Bool → Move
moved_on n t p d frozen =
    record {
      turn = t;
      position = p;
      mark = d.mark;
      urgent = d.urgent;
      starts = starts_on n d frozen;
      working = works_after n d frozen;
    }

-- nothing changes, and nothing starts
unfoldable pub still_on : ℕ → Unit → Desk → Move
still_on n x d =
    record { turn = x.turn; position = x.position; mark = d.mark; urgent = d.urgent; starts = None; working = unit_number (work_on n d) }

-- an ask: "accepted if the unit is declared and has none"
unfoldable pub ask_move : ℕ → Unit → ℕ → Desk → Op → Bool → Bool → Move
ask_move n x u d op urgent frozen =
    cond (x.declared && is_idle x.turn)
    (moved_on n (Waiting (new_request op urgent)) x.position (seated_at n d u (waiting_as urgent)) frozen)
    (still_on n x d)

-- a report after which the operation is to go on: "a waiting priority request starts, displacing an incomplete ordinary one; else the incomplete operation
-- continues"
abbrev pub goes_on_at : ℕ → Desk → Bool → Bool → Bool
goes_on_at n d urgent frozen = not frozen && (urgent || not (is_some (urged_on n d)))

unfoldable pub repeat_move : ℕ → Unit → ℕ → Desk → Request → Bool → Move
repeat_move n x u d q frozen =
    let t = incomplete_turn (goes_on_at n d q.priority frozen) q in
    moved_on n t (noted_by x.position q) (seated_at n d u (standing_of t)) frozen

-- a report that ends the operation
unfoldable pub end_move : ℕ → Unit → ℕ → Desk → Ending → Bool → Move
end_move n x u d e frozen =
    moved_on n Idle (position_after (work_of x.turn) e x.position)
    (marked_at (seated_at n d u idle) (mark_moved (is_ordinary x.turn) n u d.mark) (mark_moved (holds_priority x.turn) n u d.urgent))
    frozen

unfoldable pub book_move : ℕ → Unit → ℕ → Desk → Verdict → Bool → Move
book_move n x u d (Refused k) frozen = still_on n x d
book_move n x u d (Repeats q) frozen = repeat_move n x u d q frozen
book_move n x u d (Ends e) frozen = end_move n x u d e frozen

-- ---- the channel after such a change of unit u

unfoldable pub moved_to : Channel → ℕ → Move → Channel
moved_to c u m = begun_at (with_marks (with_unit c u m.turn m.position) m.mark m.urgent) m.starts
