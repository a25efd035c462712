-- What a report that is booked means for the file of its unit (document 01, "Files and buffers", "Outcomes and attempts"). Assumes nothing.
use Rattle.std.specs.Prelude.{ℕ, Bool, true, false, cond, Option, Some, None}
use Rattle.channel.specs.declared.Op.{Op}
use Rattle.channel.specs.declared.Op.TheVariants.{Read, Write, Mark}
use Rattle.channel_outcomes.specs.declared.Ending.{Ending}
use Rattle.channel_outcomes.specs.declared.Ending.TheVariants.{Good, Opposite, MarkRead, MediumEnd, LostRedundancy, LostIncomplete}
use Rattle.channel_outcomes.specs.declared.Verdict.{Verdict}
use Rattle.channel_outcomes.specs.declared.Verdict.TheVariants.{Refused, Repeats, Ends}
use Rattle.file.specs.Arrivals.{redundancy_error, incomplete_error}
use Rattle.call_request.specs.declared.Effect.{Effect}
use Rattle.call_request.specs.declared.Effect.TheVariants.{Delivers, MeetsMark, GivesBack, Sends, Keeps}

-- "If such a report is permanent and carries words, the block is kept as full, counts as delivered, and get reports error 4 or 10" (document 02, M-101,
-- which corrects document 01's "A read that ends with .. a permanent error gives its buffer back as empty."): by whether it carries words, and the error
abbrev pub kept_if : Bool → ℕ → Effect
kept_if some n = cond some (Delivers n) GivesBack

-- "A good end makes it full.", with no error to report; "A read that ends with a mark .. gives its buffer back as empty."
abbrev pub read_effect : Bool → Ending → Effect
read_effect some Good = Delivers 0
read_effect some Opposite = Delivers 0
read_effect some MarkRead = MeetsMark
read_effect some MediumEnd = GivesBack
read_effect some LostRedundancy = kept_if some redundancy_error
read_effect some LostIncomplete = kept_if some incomplete_error

-- "After a good end or end of medium the answer shows the block's words ..; after a permanent error it is full still."
abbrev pub write_effect : Ending → Effect
write_effect Good = Sends
write_effect Opposite = Keeps
write_effect MarkRead = Keeps
write_effect MediumEnd = Sends
write_effect LostRedundancy = Keeps
write_effect LostIncomplete = Keeps

-- "Ask mark needs no buffer."
abbrev pub op_effect : Bool → Op → Ending → Effect
op_effect some Read e = read_effect some e
op_effect some Write e = write_effect e
op_effect some Mark e = Keeps

abbrev pub work_effect : Bool → Option Op → Ending → Effect
work_effect some (Some op) e = op_effect some op e
work_effect some None e = Keeps

-- an operation that is repeated touches no file: "Words on a repeated attempt are dropped."
abbrev pub effect_of : Bool → Option Op → Verdict → Effect
effect_of some x (Refused n) = Keeps
effect_of some x (Repeats q) = Keeps
effect_of some x (Ends e) = work_effect some x e

abbrev pub is_delivery : Effect → Bool
is_delivery (Delivers failed) = true
is_delivery MeetsMark = false
is_delivery GivesBack = false
is_delivery Sends = false
is_delivery Keeps = false
