-- "Where the reel stands" (document 02, M-106): a unit's position after a report, and when the cleaner pass is due. Assumes nothing.
use Rattle.std.specs.Prelude.{ℕ, ◌+◌, ◌%◌, Bool, true, false, not, cond, ◌&&◌, ◌||◌, leb, ltb, eqb, Option, Some, None}
use Rattle.channel.specs.declared.Op.{Op}
use Rattle.channel.specs.declared.Op.TheVariants.{Read, Write, Mark}
use Rattle.channel.specs.declared.Position.{Position}
use Rattle.channel.specs.declared.Request.{Request}
use Rattle.channel_outcomes.specs.declared.Ending.{Ending}
use Rattle.channel_outcomes.specs.declared.Ending.TheVariants.{Good, Opposite, MarkRead, MediumEnd, LostRedundancy, LostIncomplete}

-- ---- "file marks passed, and records since the last mark, each held at 32,767"

abbrev pub most_passed : ℕ
most_passed = 32767

abbrev pub one_more : ℕ → ℕ
one_more n = cond (ltb n most_passed) (n + 1) most_passed

-- one record more since the mark
unfoldable pub record_passed : Position → Position
record_passed p = record { marks = p.marks; records = one_more p.records; noisy = p.noisy }

-- one mark more, and no record since
unfoldable pub mark_passed : Position → Position
mark_passed p = record { marks = one_more p.marks; records = 0; noisy = p.noisy }

-- ---- "Good reads, marks read, and writes and marks ended 01 or 04 move it."

abbrev pub read_moves : Ending → Position → Position
read_moves Good p = record_passed p
read_moves Opposite p = record_passed p
read_moves MarkRead p = mark_passed p
read_moves MediumEnd p = p
read_moves LostRedundancy p = p
read_moves LostIncomplete p = p

abbrev pub write_moves : Ending → Position → Position
write_moves Good p = record_passed p
write_moves Opposite p = p
write_moves MarkRead p = p
write_moves MediumEnd p = record_passed p
write_moves LostRedundancy p = p
write_moves LostIncomplete p = p

abbrev pub mark_moves : Ending → Position → Position
mark_moves Good p = mark_passed p
mark_moves Opposite p = p
mark_moves MarkRead p = p
mark_moves MediumEnd p = mark_passed p
mark_moves LostRedundancy p = p
mark_moves LostIncomplete p = p

abbrev pub op_moves : Op → Ending → Position → Position
op_moves Read e p = read_moves e p
op_moves Write e p = write_moves e p
op_moves Mark e p = mark_moves e p

-- where the reel stands after the end of what was worked for
abbrev pub position_after : Option Op → Ending → Position → Position
position_after (Some op) e p = op_moves op e p
position_after None e p = p

-- ---- noise

-- a noise record was met on the unit: before, or by the request with what is reported now
abbrev pub noise_met : Position → Request → Bool
noise_met p q = p.noisy || ltb 0 q.noise

-- where the reel stands while the request q is repeated: no further
unfoldable pub noted_by : Position → Request → Position
noted_by p q = record { marks = p.marks; records = p.records; noisy = noise_met p q }

-- ---- the cleaner pass

abbrev pub reads : Op → Bool
reads Read = true
reads Write = false
reads Mark = false

-- "read attempt 12, 22 and so on to 92"
abbrev pub is_pass : ℕ → Bool
is_pass attempt = leb 12 attempt && (leb attempt 92 && eqb (attempt % 10) 2)

-- "when read attempt 12, 22 and so on to 92 is due, three records or more stand since the mark and no noise record was met on that unit since
-- the fresh start", of a request q that is repeated
unfoldable pub cleaner_due : Position → Request → Bool
cleaner_due p q = reads q.op && (is_pass q.attempts && (leb 3 p.records && not (noise_met p q)))
