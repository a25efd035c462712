-- "Requests, reports, turns" (document 01) over histories: who works on a channel after each accepted call, by the requests that have no answer in
-- the channel's book. Assumes nothing.
use Rattle.std.specs.Prelude.{◌≡◌, ◌⊎◌, Bool, true, false, List, ℕ, ◌≤◌, ◌<◌}
use Rattle.std.proofs.Math.Option.{Option, none, some}
use Rattle.channel.specs.Units.{turn_at, is_working}
use Rattle.routines.specs.declared.Naming.{Naming}
use Rattle.state.specs.declared.State.{State}
use Rattle.state.specs.Places.{file_at, channel_at}
use Rattle.pack_start.specs.declared.Masks.{Masks}
use Rattle.pack.specs.Calls.{Call, fresh, ask, report, thaw, Added, nothing, working, reported, got, returned, runs}
use Rattle.pack.specs.Histories.{is_repeat}
use Rattle.pack.specs.Books.{Pending, Book, is_urgent, is_ordinary}

-- ---- who works

-- channel c works for unit u: what the state says of that unit
abbrev pub works_for : State → ℕ → ℕ → Bool
works_for s c u = is_working (turn_at (channel_at s c) u)

-- it works for no unit, and for some unit
abbrev pub NoneWorks : State → ℕ → Type 0
NoneWorks s c = (u : ℕ) → works_for s c u ≡ false

pub record SomeWorks (s : State) (c : ℕ) : Type 0 where
  pub unit : ℕ
  pub works : works_for s c unit ≡ true

-- ---- whose turn it is, among the requests of a book, while the channel works for none of them

-- "The scan for ordinary ones begins one unit above that of the last ordinary operation to end on the channel, wraps after 9, and comes to that
-- unit last; it begins at 0 at first."; and "Priority requests are now scanned as ordinary ones are, with a mark of their own on each channel.":
-- a scan, by the last one of its kind to end, comes to unit y before it comes to unit x
pub data Earlier : Option ℕ → ℕ → ℕ → Type 0 where
  -- none has ended: from 0 upward
  from_zero : {y x : ℕ} → y < x → Earlier none y x
  -- first the units above the last one, upward,
  above : {last y x : ℕ} → last < y → y < x → Earlier (some last) y x
  -- then the others,
  wrapped : {last y x : ℕ} → last < y → x ≤ last → Earlier (some last) y x
  -- from 0 upward, the last one at the end
  below : {last y x : ℕ} → y < x → x ≤ last → Earlier (some last) y x

-- the first unit with a waiting priority request, in the order of their scan
abbrev pub PriorityTurn : Book → ℕ → Type 0
PriorityTurn b x = (is_urgent (b.requests x) ≡ true) × ((y : ℕ) → Earlier b.last_urgent y x → is_urgent (b.requests y) ≡ false)

-- the first unit with a waiting or displaced ordinary request, in the order of theirs
abbrev pub OrdinaryTurn : Book → ℕ → Type 0
OrdinaryTurn b x = (is_ordinary (b.requests x) ≡ true) × ((y : ℕ) → Earlier b.last y x → is_ordinary (b.requests y) ≡ false)

-- whose turn it is works
pub record Starts (b : Book) (t : State) (c : ℕ) : Type 0 where
  -- "a waiting priority request starts, ..
  pub priority : (x : ℕ) → PriorityTurn b x → works_for t c x ≡ true
  -- else a scan starts a waiting or displaced one."
  pub ordinary : ((y : ℕ) → is_urgent (b.requests y) ≡ false) → (x : ℕ) → OrdinaryTurn b x → works_for t c x ≡ true

-- ---- after every accepted call: s is the state before it, t the state after it, b the book of channel c with the call in it

abbrev pub is_pending : Option Pending → Bool
is_pending none = false
is_pending (some p) = true

-- an ask on channel c, and a thaw
pub data Begins (c : ℕ) (s : State) : Call → Type 0 where
  asks : {file op priority : ℕ} {naming : Naming} → (file_at s file).channel ≡ c → Begins c s (ask file op priority naming)
  thaws : Begins c s thaw

-- a report on channel c, an ask on it or a thaw while it works for no unit; and a fresh start
pub data Changes (c : ℕ) (s : State) : Call → Type 0 where
  reports : {channel unit outcome len : ℕ} {words : List ℕ} → channel ≡ c → Changes c s (report channel unit outcome len words)
  begins : {call : Call} → Begins c s call → NoneWorks s c → Changes c s call
  afresh : {m w : ℕ} {masks : Masks} → Changes c s (fresh m w masks)

pub record Turns (c : ℕ) (s : State) (call : Call) (t : State) (b : Book) : Type 0 where
  -- "After every accepted call, a channel that is idle and not frozen starts an activity .. if any request waits.": a channel that is not frozen
  -- and has a request works,
  pub works : b.frozen ≡ false → (u : ℕ) → is_pending (b.requests u) ≡ true → SomeWorks t c
  -- for one unit alone, which has a request
  pub alone : (x y : ℕ) → works_for t c x ≡ true → works_for t c y ≡ true → x ≡ y
  pub request : (x : ℕ) → works_for t c x ≡ true → is_pending (b.requests x) ≡ true
  -- "by the order below": an ask on an idle channel, and a thaw ("Thaw lets starts happen.")
  pub starts : Begins c s call → NoneWorks s c → b.frozen ≡ false → Starts b t c
  -- "Freeze stops starts on all channels": who works in a freeze worked before the call,
  pub stops : b.frozen ≡ true → (u : ℕ) → works_for t c u ≡ true → works_for s c u ≡ true
  -- and nothing else: neither a freeze nor any call but those of `Changes` changes who works ("A priority request never breaks into an activity.")
  pub still : (Changes c s call → ⊥) → (u : ℕ) → works_for t c u ≡ works_for s c u

-- ---- after an accepted report for unit u of channel c, for which the channel worked

pub record Continues (c u result : ℕ) (s t : State) (b : Book) : Type 0 where
  pub worked : works_for s c u ≡ true
  -- "the incomplete operation continues", with its next attempt: if it is a priority one ("a priority operation is not displaced"), or no priority
  -- request waits
  pub onward : b.frozen ≡ false → is_repeat result ≡ true → (is_urgent (b.requests u) ≡ true) ⊎ ((y : ℕ) → is_urgent (b.requests y) ≡ false)
      → works_for t c u ≡ true
  -- "a waiting priority request starts, displacing an incomplete ordinary one"
  pub displaced : b.frozen ≡ false → is_repeat result ≡ true → is_urgent (b.requests u) ≡ false → (x : ℕ) → PriorityTurn b x → works_for t c x ≡ true
  -- after an answer: "a waiting priority request starts ..; else a scan starts a waiting or displaced one"
  pub next : b.frozen ≡ false → is_repeat result ≡ false → Starts b t c
  -- in a freeze "reports are still booked, and an incomplete operation then waits like a displaced one"
  pub halts : b.frozen ≡ true → NoneWorks t c

-- ---- what an answer tells

-- "After 00: ask adds the channel's working unit .. Report adds result, check error, working unit"
abbrev pub told_working : Added → ℕ
told_working nothing = 0
told_working (working u) = u
told_working (reported result error u) = u
told_working (got g) = 0
told_working (returned entered p) = 0
told_working (runs p) = 0

-- the number that an accepted ask or report on channel c tells, of the state t after it: "FF for none"
pub record Tells (t : State) (c told : ℕ) : Type 0 where
  pub unit : (u : ℕ) → works_for t c u ≡ true → told ≡ u
  pub nobody : NoneWorks t c → told ≡ 255
