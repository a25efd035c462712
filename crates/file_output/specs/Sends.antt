-- Output (document 01, "Files and buffers"): what a write sends, on one file. Assumes nothing.
use Rattle.std.specs.Prelude.{ℕ, ◌+◌, Bool, cond, ◌&&◌, ◌||◌}
use Rattle.file.specs.declared.File.{File}
use Rattle.file.specs.Slots.{is_part, is_full, full_words}
use Rattle.file.specs.Sides.{slot_at, start_at, oldest}
use Rattle.file.specs.Fills.{without_oldest}
use Rattle.word.specs.CheckWords.{extra}

-- "Ask write sends the oldest full block.": where its words begin in the area, and how many they are, check word last
unfoldable pub send_start : ℕ → File → ℕ
send_start w f = start_at f w (oldest f)

unfoldable pub send_words : File → ℕ
send_words f = full_words (slot_at f (oldest f)) + extra f.sequence f.check

-- "After a good end or end of medium .. its buffer is empty; after a permanent error it is full still."
unfoldable pub after_write : Bool → File → File
after_write sent f = cond sent (without_oldest f) f

-- refusal 15, "an output buffer is part-filled or full"
abbrev pub has_unsent : File → Bool
has_unsent f = f.output && ((is_part f.low.slot || is_full f.low.slot) || (is_part f.high.slot || is_full f.high.slot))
