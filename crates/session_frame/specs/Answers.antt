-- Answer lines (document 01, "The session program"). Assumes nothing.
use Rattle.std.specs.Prelude.{cond, List, [], ◌∷◌, ◌++◌, ℕ, ◌-◌, length, take}
use Rattle.session_frame.specs.Digits.{byte_digits, concat_map}
use Rattle.session_frame.specs.Fields.{word_bytes, found_bytes, program_bytes}
use Rattle.session_frame.specs.declared.Answer.{Answer}
use Rattle.session_frame.specs.declared.Answer.TheVariants.{Refused, Done, Asked, Reported, Delivered, Got, GotError, Returned, Runs}

-- The bytes of each answer; ws are the words that are shown.
unfoldable pub answer_bytes : Answer → List ℕ → List ℕ
-- "First byte 00 or the refusal." "A refusal returns the number alone"
answer_bytes (Refused n) ws = n ∷ []
-- "Others add nothing."
answer_bytes Done ws = 0 ∷ []
-- "After 00: ask adds the channel's working unit, FF for none."
answer_bytes (Asked working) ws = 0 ∷ working ∷ []
-- "Report adds result, check error, working unit and, if it ends a write with 01 or 04, the block's words"; a report that delivers no block has check
-- error 0
answer_bytes (Reported result working) ws = 0 ∷ result ∷ 0 ∷ working ∷ concat_map word_bytes ws
-- "A report that delivers a block, and get's answer 03, carry them .. after the error number, worked-out sum and number first, then those read, four
-- bytes a sum, two a number."
answer_bytes (Delivered result found working) ws = 0 ∷ result ∷ found.error ∷ (found_bytes found ++ (working ∷ []))
-- "Get adds 00 and words, 01 nothing yet, 02 end, 03 and the check error, 04 and a leftover.": which number is `file_input`'s to say
answer_bytes (Got number) ws = 0 ∷ number ∷ concat_map word_bytes ws
answer_bytes (GotError number found) ws = 0 ∷ number ∷ found.error ∷ found_bytes found
-- a return (document 02, M-110): "the highest waiting routine is entered" or the program last pushed "resumes", and what runs now
answer_bytes (Returned entered program) ws = 0 ∷ cond entered 1 0 ∷ program_bytes program
answer_bytes (Runs program) ws = 0 ∷ program_bytes program

-- "pairs of upper-case hexadecimal digits, line feed"
unfoldable pub answer_text : Answer → List ℕ → List ℕ
answer_text a ws = concat_map byte_digits (answer_bytes a ws) ++ (10 ∷ [])

-- what comes before the line feed
unfoldable pub answer_line : Answer → List ℕ → List ℕ
answer_line a ws = take (length (answer_text a ws) - 1) (answer_text a ws)
