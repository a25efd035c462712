-- "A state passed back by the caller is sound if ..": what that paragraph of document 01 says of files, clause by clause, in its order.
-- Its clauses on units and requests are judged where the channels are known. Assumes nothing.
use Rattle.std.specs.Prelude.{ℕ, ◌+◌, Bool, true, not, cond, ◌&&◌, ◌||◌, List, leb, ltb, eqb}
use Rattle.area.specs.Lists.{one_if, all_of, all_pairs}
use Rattle.file.specs.declared.Slot.{Slot}
use Rattle.file.specs.declared.Slot.TheVariants.{Empty, Taken, Part, Full}
use Rattle.file.specs.declared.Buffer.{Buffer}
use Rattle.file.specs.declared.File.{File}
use Rattle.file.specs.Slots.{is_empty, is_taken, is_part, is_full, full_place, full_arrival}
use Rattle.word.specs.CheckWords.{block_numbers}
use Rattle.file.specs.Arrivals.{is_arrival, is_no_arrival}
use Rattle.file.specs.Sizes.{sizes_fit}
use Rattle.pool.specs.Free.{held_by}
use Rattle.pool.specs.Serving.{serves}

-- "its numbers are in the ranges here": sizes, block number, and how each full block arrived: its read error 0, 4 or 10, and what its check found
-- unequal exactly where the error says so
abbrev pub in_range : ℕ → File → Bool
in_range w f =
    sizes_fit w f.sequence f.check f.size f.rlen && (ltb f.block block_numbers && (is_arrival f.sequence f.check (full_arrival f.low.slot) && is_arrival f.sequence f.check (full_arrival f.high.slot)))

-- what a missing second buffer would hold has no meaning
abbrev pub is_no_buffer : Buffer → Bool
is_no_buffer b = eqb b.number 0 && is_empty b.slot

-- "each open file has its one or two buffers", of m
abbrev pub has_buffers : ℕ → File → Bool
has_buffers m f = ltb f.low.number m && cond f.double (ltb f.low.number f.high.number && ltb f.high.number m) (is_no_buffer f.high)

-- how many of its buffers are taken
abbrev pub taken_count : File → ℕ
taken_count f = one_if (is_taken f.low.slot) + one_if (is_taken f.high.slot)

-- "A read request alone has a buffer taken, one of its file's": none in an output file, and a unit holds one request at most
abbrev pub taken_right : File → Bool
taken_right f = leb (taken_count f) (one_if (not f.output))

-- "full blocks have 1 to B data words"
abbrev pub full_fits : ℕ → Slot → Bool
full_fits size Empty = true
full_fits size Taken = true
full_fits size (Part n) = true
full_fits size (Full n at a) = leb 1 n && leb n size

abbrev pub full_right : File → Bool
full_right f = full_fits f.size f.low.slot && full_fits f.size f.high.slot

-- "an output file alone has a part-filled buffer, at most one, with r words or more and room for r"
abbrev pub parts_held : File → ℕ
parts_held f = one_if (is_part f.low.slot) + one_if (is_part f.high.slot)

abbrev pub part_fits : ℕ → ℕ → Slot → Bool
part_fits size rlen Empty = true
part_fits size rlen Taken = true
part_fits size rlen (Part n) = leb rlen n && leb (n + rlen) size
part_fits size rlen (Full n at a) = true

abbrev pub part_right : File → Bool
part_right f = leb (parts_held f) (one_if f.output) && (part_fits f.size f.rlen f.low.slot && part_fits f.size f.rlen f.high.slot)

-- "no place of get is past its block"; and none is in it while its read error is to be told: "once, before any check error" and so before any record
abbrev pub place_fits : Slot → Bool
place_fits Empty = true
place_fits Taken = true
place_fits (Part n) = true
place_fits (Full n at a) = leb at n && (eqb a.failed 0 || eqb at 0)

abbrev pub place_right : File → Bool
place_right f = place_fits f.low.slot && place_fits f.high.slot

-- a block that has no place of get, and that did not arrive
abbrev pub is_unread : Slot → Bool
is_unread x = eqb (full_place x) 0 && is_no_arrival (full_arrival x)

-- What has no meaning is zero: the order of two blocks that are not both full; in an output file the mark, and the place of its blocks and how they arrived.
abbrev pub rest_is_zero : File → Bool
rest_is_zero f =
    (not f.turned || (is_full f.low.slot && is_full f.high.slot))
    && (not f.output || (not f.marked && (is_unread f.low.slot && is_unread f.high.slot)))

unfoldable pub open_sound : ℕ → ℕ → File → Bool
open_sound m w f = in_range w f && (has_buffers m f && (taken_right f && (full_right f && (part_right f && (place_right f && rest_is_zero f)))))

-- a closed file is all zero
unfoldable pub is_blank : File → Bool
is_blank f =
    not f.opened && ((eqb f.channel 0 && eqb f.unit 0)
    && ((not f.output && (not f.double && (not f.sequence && not f.check)))
    && ((eqb f.size 0 && eqb f.rlen 0)
    && (is_no_buffer f.low && (is_no_buffer f.high
    && (not f.turned && (eqb f.block 0 && not f.marked)))))))

unfoldable pub file_sound : ℕ → ℕ → File → Bool
file_sound m w f = cond f.opened (open_sound m w f) (is_blank f)

-- ---- the files together

-- "no buffer is held by two files"
abbrev pub share_buffer : File → File → Bool
share_buffer f g = f.opened && (held_by f.low.number g || (f.double && held_by f.high.number g))

-- "a declared unit of its own", and "a unit serves at most one open file"
abbrev pub share_unit : File → File → Bool
share_unit f g = f.opened && serves f.channel f.unit g

unfoldable pub apart : File → File → Bool
apart f g = not (share_buffer f g) && not (share_unit f g)

unfoldable pub files_sound : ℕ → ℕ → List File → Bool
files_sound m w fs = all_of (file_sound m w) fs && all_pairs apart fs
