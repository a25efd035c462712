-- What a history says of the requests on a channel, and of a file's mark: bookedAt from the calls and their answers alone. Assumes nothing.
use Rattle.std.specs.Prelude.{ℕ, ◌+◌, Bool, true, false, not, cond, ◌&&◌, ◌||◌, List, [], ◌∷◌, ltb, eqb}
use Rattle.std.proofs.Math.Option.{Option, none, some}
use Rattle.channel.specs.declared.Op.{Op}
use Rattle.channel.specs.declared.Op.TheVariants.{Read, Write, Mark}
use Rattle.state.specs.declared.State.{State}
use Rattle.state.specs.Places.{file_at}
use Rattle.pack.specs.Calls.{Call, fresh, opening, close, ask, report, get, put, seal, skip, freeze, thaw, return, running, Added, nothing, working, reported, got, returned, runs, Answer}
use Rattle.pack.specs.Histories.{Lent, answer_to, is_accepted, is_repeat}

-- "Report adds result, ..": the result that an answer gives
abbrev pub told_result : Added → ℕ
told_result nothing = 0
told_result (working u) = 0
told_result (reported result error u) = result
told_result (got g) = 0
told_result (returned entered p) = 0
told_result (runs p) = 0

-- ---- the requests on a channel

-- "operation(0 read, 1 write, 2 mark)"
abbrev pub operation : ℕ → Op
operation op = cond (eqb op 0) Read (cond (eqb op 1) Write Mark)

-- a request that has no answer yet; how many of its attempts have failed since it was accepted, how many of these failures were an
-- incomplete word, and how many noise records it passed over
pub record Pending : Type 0 where
  pub op : Op
  pub priority : Bool
  pub failures : ℕ
  pub incomplete : ℕ
  pub noise : ℕ

-- where a unit's reel stands (document 02, M-106): "file marks passed, and records since the last mark", and whether a noise record was met
pub record Reel : Type 0 where
  pub marks : ℕ
  pub records : ℕ
  pub noise : Bool

-- "zero at the fresh start"
abbrev pub new_reel : Reel
new_reel = record { marks = 0; records = 0; noise = false }

-- of a channel: the request of each unit that has no answer yet; the unit of the last ordinary request that was answered, if any was since the
-- fresh start; that of the last priority request that was; where the reel of each unit stands; and whether the pack is frozen
pub record Book : Type 0 where
  pub requests : ℕ → Option Pending
  pub last : Option ℕ
  pub last_urgent : Option ℕ
  pub reels : ℕ → Reel
  pub frozen : Bool

-- as a fresh start leaves it
abbrev pub blank_book : Book
blank_book = record { requests = λ u. none; last = none; last_urgent = none; reels = λ u. new_reel; frozen = false }

abbrev pub is_urgent : Option Pending → Bool
is_urgent none = false
is_urgent (some p) = p.priority

abbrev pub is_ordinary : Option Pending → Bool
is_ordinary none = false
is_ordinary (some p) = not p.priority

-- as it is accepted; "priority(0/1)"
abbrev pub new_pending : ℕ → ℕ → Pending
new_pending op priority = record { op = operation op; priority = eqb priority 1; failures = 0; incomplete = 0; noise = 0 }

-- "A read's redundancy report may carry a length ..; A length under three is a noise record ..; without a length there is none. At most 100 are
-- passed in one operation"; 1 is redundancy
abbrev pub is_read : Op → Bool
is_read Read = true
is_read Write = false
is_read Mark = false

abbrev pub passes_over : ℕ → ℕ → Pending → Bool
passes_over outcome len p = is_read p.op && (eqb outcome 1 && (ltb len 3 && ltb p.noise 100))

-- after one failure more; "2 incomplete word"; or after a noise record, "passed over with no attempt used"
abbrev pub failed_once : ℕ → ℕ → Pending → Pending
failed_once outcome len p =
    cond (passes_over outcome len p)
    (record { op = p.op; priority = p.priority; failures = p.failures; incomplete = p.incomplete; noise = p.noise + 1 })
    (record {
      op = p.op;
      priority = p.priority;
      failures = p.failures + 1;
      incomplete = cond (eqb outcome 2) (p.incomplete + 1) p.incomplete;
      noise = p.noise;
    })

abbrev pub failed : ℕ → ℕ → Option Pending → Option Pending
failed outcome len none = none
failed outcome len (some p) = some (failed_once outcome len p)

-- ---- where a reel stands after a report

-- "each held at 32,767"
abbrev pub one_past : ℕ → ℕ
one_past n = cond (ltb n 32767) (n + 1) 32767

abbrev pub record_past : Reel → Reel
record_past x = record { marks = x.marks; records = one_past x.records; noise = x.noise }

abbrev pub mark_past : Reel → Reel
mark_past x = record { marks = one_past x.marks; records = 0; noise = x.noise }

-- "Good reads, marks read, and writes and marks ended 01 or 04 move it.": by the operation and the result, "01 good, 02 good in opposite mode,
-- 03 mark, 04 end of medium"
abbrev pub reel_moved : Op → ℕ → Reel → Reel
reel_moved Read result x = cond (eqb result 1 || eqb result 2) (record_past x) (cond (eqb result 3) (mark_past x) x)
reel_moved Write result x = cond (eqb result 1 || eqb result 4) (record_past x) x
reel_moved Mark result x = cond (eqb result 1 || eqb result 4) (mark_past x) x

abbrev pub reel_answered : Option Pending → ℕ → Reel → Reel
reel_answered none result x = x
reel_answered (some p) result x = reel_moved p.op result x

-- a noise record was met
abbrev pub reel_noted : ℕ → ℕ → Option Pending → Reel → Reel
reel_noted outcome len none x = x
reel_noted outcome len (some p) x = record { marks = x.marks; records = x.records; noise = x.noise || passes_over outcome len p }

-- ---- the book with a new request of unit u, with a report of it that repeats the operation, and with one that answers it

abbrev pub with_request : ℕ → Option Pending → Book → Book
with_request u r b = record {
  requests = λ y. cond (eqb y u) r (b.requests y);
  last = b.last;
  last_urgent = b.last_urgent;
  reels = b.reels;
  frozen = b.frozen;
}

abbrev pub with_failure : ℕ → ℕ → ℕ → Book → Book
with_failure u outcome len b = record {
  requests = λ y. cond (eqb y u) (failed outcome len (b.requests u)) (b.requests y);
  last = b.last;
  last_urgent = b.last_urgent;
  reels = λ y. cond (eqb y u) (reel_noted outcome len (b.requests u) (b.reels u)) (b.reels y);
  frozen = b.frozen;
}

abbrev pub with_answer : ℕ → ℕ → Book → Book
with_answer u result b = record {
  requests = λ y. cond (eqb y u) none (b.requests y);
  last = cond (is_ordinary (b.requests u)) (some u) b.last;
  last_urgent = cond (is_urgent (b.requests u)) (some u) b.last_urgent;
  reels = λ y. cond (eqb y u) (reel_answered (b.requests u) result (b.reels u)) (b.reels y);
  frozen = b.frozen;
}

abbrev pub with_freeze : Bool → Book → Book
with_freeze frozen b = record { requests = b.requests; last = b.last; last_urgent = b.last_urgent; reels = b.reels; frozen = frozen }

-- the book of channel c after an accepted call in the state s
abbrev pub booked : ℕ → State → Call → Answer → Book → Book
booked c s (fresh m w masks) a b = blank_book
booked c s (opening file channel unit flags size rlen) a b = b
booked c s (close file) a b = b
booked c s (ask file op priority naming) a b =
    cond (eqb (file_at s file).channel c) (with_request (file_at s file).unit (some (new_pending op priority)) b) b
booked c s (report channel unit outcome len words) a b =
    cond (eqb channel c) (cond (is_repeat (told_result a.added)) (with_failure unit outcome len b) (with_answer unit (told_result a.added) b)) b
booked c s (get file) a b = b
booked c s (put file words) a b = b
booked c s (seal file) a b = b
booked c s (skip file) a b = b
booked c s freeze a b = with_freeze true b
booked c s thaw a b = with_freeze false b
booked c s return a b = b
booked c s running a b = b

-- a refused call enters no book
abbrev pub booked_at : ℕ → State → Lent → Book → Book
booked_at c s x b = cond (is_accepted (answer_to s x)) (booked c s x.call (answer_to s x) b) b

unfoldable pub book_after : ℕ → State → Book → List Lent → Book
book_after c s b [] = b
book_after c s b (x ∷ h) = book_after c (answer_to s x).state (booked_at c s x b) h

-- ---- a file

-- an open file: its unit, and whether a report for that unit has answered 03 since its open
pub record Opened : Type 0 where
  pub channel : ℕ
  pub unit : ℕ
  pub marked : Bool

-- after a report with that result; "03 mark"
abbrev pub with_result : ℕ → ℕ → ℕ → Option Opened → Option Opened
with_result channel unit result none = none
with_result channel unit result (some f) =
    some
    (record {
      channel = f.channel;
      unit = f.unit;
      marked = f.marked || (eqb f.channel channel && (eqb f.unit unit && eqb result 3));
    })

-- what is known of file i after an accepted call
abbrev pub opened_by : ℕ → Call → Answer → Option Opened → Option Opened
opened_by i (fresh m w masks) a o = none
opened_by i (opening file channel unit flags size rlen) a o =
    cond (eqb file i) (some (record { channel = channel; unit = unit; marked = false })) o
opened_by i (close file) a o = cond (eqb file i) none o
opened_by i (ask file op priority naming) a o = o
opened_by i (report channel unit outcome len words) a o = with_result channel unit (told_result a.added) o
opened_by i (get file) a o = o
opened_by i (put file words) a o = o
opened_by i (seal file) a o = o
opened_by i (skip file) a o = o
opened_by i freeze a o = o
opened_by i thaw a o = o
opened_by i return a o = o
opened_by i running a o = o

unfoldable pub opened_after : ℕ → State → Option Opened → List Lent → Option Opened
opened_after i s o [] = o
opened_after i s o (x ∷ h) =
    opened_after i (answer_to s x).state (cond (is_accepted (answer_to s x)) (opened_by i x.call (answer_to s x) o) o) h
