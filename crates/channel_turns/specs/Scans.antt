-- "The scan for ordinary ones begins .." (document 01, "Requests, reports, turns"), and the same scan for priority ones (document 02, M-112). Assumes nothing.
use Rattle.std.specs.Prelude.{◌≡◌, ℕ, ◌+◌, ◌≤◌, ◌<◌, Bool, true, false, cond, ltb, eqb, Option, Some, None}
use Rattle.area.specs.Lists.{first_along}
use Rattle.channel.specs.declared.Turn.{Turn}
use Rattle.channel.specs.declared.Turn.TheVariants.{Idle, Waiting, Displaced, Working}
use Rattle.channel.specs.declared.Channel.{Channel}
use Rattle.channel.specs.Units.{size, turn_at}

-- ---- how a unit stands to the scans

-- "A request is ordinary or priority." It waits, displaced or not, or it is worked for.
abbrev pub idle : ℕ
idle = 0

abbrev pub ordinary : ℕ
ordinary = 1

abbrev pub priority : ℕ
priority = 2

abbrev pub working : ℕ
working = 3

abbrev pub waiting_as : Bool → ℕ
waiting_as true = priority
waiting_as false = ordinary

abbrev pub standing_of : Turn → ℕ
standing_of Idle = idle
standing_of (Waiting q) = waiting_as q.priority
standing_of (Displaced q) = waiting_as q.priority
standing_of (Working q) = working

abbrev pub stands : Channel → ℕ → ℕ → Bool
stands c want u = eqb (standing_of (turn_at c u)) want

-- ---- the scan

-- the unit after u, of n: the scan "wraps after 9"
abbrev pub next_unit : ℕ → ℕ → ℕ
next_unit n u = cond (ltb (u + 1) n) (u + 1) 0

-- a scan of all units begins at the mark; a mark that is no unit's number counts as 0
abbrev pub begin_of : ℕ → ℕ → ℕ
begin_of n mark = cond (ltb mark n) mark 0

-- the first unit that stands so, from one on and round
unfoldable pub scan_from : Channel → ℕ → ℕ → Option ℕ
scan_from c want u = first_along (next_unit (size c)) (stands c want) (size c) (begin_of (size c) u)

-- the unit that the channel works for
unfoldable pub working_in : Channel → Option ℕ
working_in c = scan_from c working 0

-- "Priority requests are now scanned as ordinary ones are, with a mark of their own on each channel."
unfoldable pub priority_in : Channel → Option ℕ
priority_in c = scan_from c priority c.urgent

-- "The scan for ordinary ones begins one unit above that of the last ordinary operation to end on the channel, wraps after 9,
-- and comes to that unit last; it begins at 0 at first."
unfoldable pub ordinary_in : Channel → Option ℕ
ordinary_in c = scan_from c ordinary c.mark

abbrev pub or_else : Option ℕ → Option ℕ → Option ℕ
or_else (Some u) other = Some u
or_else None other = other

-- whose turn it is on an idle channel
unfoldable pub next_turn : Channel → Option ℕ
next_turn c = or_else (priority_in c) (ordinary_in c)

-- "FF for none"
abbrev pub unit_number : Option ℕ → ℕ
unit_number (Some u) = u
unit_number None = 255

-- ---- the scan as a plain statement

-- a scan that begins at unit b, and wraps, comes to unit x before it comes to unit u
pub data Before (b u x : ℕ) : Type 0 where
  upward : b ≤ x → x < u → Before b u x
  unwrapped : u < b → b ≤ x → Before b u x
  wrapped : u < b → x < u → Before b u x

-- what a scan of n units finds: a unit that passes, with none that passes before it; or nothing, where none passes
pub data Scanned (test : ℕ → Bool) (n b : ℕ) : Option ℕ → Type 0 where
  finds : (x : ℕ) → x < n → test x ≡ true → ((y : ℕ) → y < n → Before b x y → test y ≡ false) → Scanned test n b (Some x)
  misses : ((y : ℕ) → y < n → test y ≡ false) → Scanned test n b None
