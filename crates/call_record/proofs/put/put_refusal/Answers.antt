-- `call_record::put_refusal` meets its contract, from the contracts of its callees, a row at a time. Assumes nothing.
use Rattle.area.specs.Refusals.{lowest}
use Rattle.call_record.specs.Put.{put_rows, put_refusal}
use Rattle.call_record.proofs.put.put_refusal.Goals as goal

pub returns : goal.returns
unfolding lowest put_rows put_refusal
returns c = simp (c.row-5.ensures, c.row-4.ensures, c.row-3.ensures, c.row-2.ensures, c.row-shape.ensures, c.row.ensures, c.are_words-right.ensures, c.sums_spoilt-spoilt.ensures, c.is_summed-summed.ensures, c.has_room-room.ensures)
