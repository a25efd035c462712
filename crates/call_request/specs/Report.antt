-- Report (document 01, "Refusal numbers", "Files and buffers", "Outcomes and attempts"). Assumes nothing.
use Rattle.std.specs.Prelude.{ℕ, ◌-◌, Bool, true, false, not, cond, ◌&&◌, ◌||◌, List, [], ◌∷◌, leb, ltb, eqb, length, Option, Some, None}
use Rattle.area.specs.Lists.{all_of}
use Rattle.area.specs.Parts.{is_word, part_of, pasted_in}
use Rattle.area.specs.Refusals.{Rows, lowest}
use Rattle.channel.specs.declared.Op.{Op}
use Rattle.channel.specs.declared.Op.TheVariants.{Read, Write, Mark}
use Rattle.channel.specs.declared.Channel.{Channel}
use Rattle.channel_outcomes.specs.declared.Verdict.{Verdict}
use Rattle.channel_outcomes.specs.Rules.{redundancy, incomplete_word, outcome_count, no_length, is_allowed, result_number, refusal_number}
use Rattle.channel.specs.Units.{unit_count, operation_at, position_at}
use Rattle.channel_turns.specs.Scans.{working_in, unit_number}
use Rattle.channel_turns.specs.Turns.{judge_of, book_of}
use Rattle.file.specs.declared.File.{File}
use Rattle.file.specs.Sides.{start_at, taken_side}
use Rattle.word.specs.CheckWords.{extra}
use Rattle.file_input.specs.Delivers.{block_fits, delivered, gave_back, met_mark}
use Rattle.file_output.specs.Sends.{send_start, send_words, after_write}
use Rattle.block.specs.Blocks.{judged_block}
use Rattle.word.specs.declared.Checked.{Checked}
use Rattle.word.specs.Checks.{unchecked}
use Rattle.call_request.specs.declared.Effect.{Effect}
use Rattle.call_request.specs.declared.Effect.TheVariants.{Delivers, MeetsMark, GivesBack, Sends, Keeps}
use Rattle.call_request.specs.declared.ReportChange.{ReportChange}
use Rattle.call_request.specs.Effects.{effect_of, is_delivery}

-- ---- what is reported of unit u of the channel c, with an outcome and the length in words that the report carries, `no_length` if it carries none

-- what the report, which gives n words, comes to, and what that means for the file
abbrev pub effect_at : Channel → ℕ → ℕ → ℕ → ℕ → Effect
effect_at c u outcome len n = effect_of (ltb 0 n) (operation_at c u) (judge_of c u outcome len)

-- "11 | report: the channel is not working for that unit"
abbrev pub is_idle_for : Option Op → Bool
is_idle_for (Some op) = false
is_idle_for None = true

-- "Words given .. to a write or mark"
abbrev pub takes_no_words : Option Op → Bool
takes_no_words (Some Read) = false
takes_no_words (Some Write) = true
takes_no_words (Some Mark) = true
takes_no_words None = false

-- "12 | report: outcome not allowed for the operation"
abbrev pub is_forbidden : Option Op → ℕ → Bool
is_forbidden (Some op) outcome = not (is_allowed op outcome)
is_forbidden None outcome = false

-- "A read's redundancy report may carry a length in words, two bytes ..; if words follow it must be their number, else 1" (document 02, M-106): of
-- a report that carries a length, n words after it
unfoldable pub length_wrong : ℕ → ℕ → Option Op → ℕ → Bool
length_wrong outcome len x n =
    not (eqb len no_length) && ((ltb no_length len || not (eqb outcome redundancy)) || ((ltb 0 n && not (eqb len n)) || takes_no_words x))

-- the block that a report hands out lies in the area from `shown_start` on and has `shown_count` words, check word last; there is none
-- unless a write has ended well or at the end of medium
abbrev pub shown_start : Effect → ℕ → File → ℕ
shown_start (Delivers failed) w f = 0
shown_start MeetsMark w f = 0
shown_start GivesBack w f = 0
shown_start Sends w f = send_start w f
shown_start Keeps w f = 0

abbrev pub shown_count : Effect → File → ℕ
shown_count (Delivers failed) f = 0
shown_count MeetsMark f = 0
shown_count GivesBack f = 0
shown_count Sends f = send_words f
shown_count Keeps f = 0

abbrev pub shown_block : Effect → ℕ → File → List ℕ → List ℕ
shown_block x w f area = part_of (shown_start x w f) (shown_count x f) area

-- ---- its rows of the table; `wrong` is what row 1 says of the state, of the area and of the channel's number

abbrev pub report_rows : Bool → File → Channel → ℕ → ℕ → ℕ → ℕ → List ℕ → List ℕ → Rows
report_rows wrong f c u outcome len w area words =
    -- "an argument is outside its range"; "Words given with an outcome other than 0, or to a write or mark, are refused 1", and document 02, M-101:
    -- "reports of read redundancy or incomplete word may carry words", "refusal 1 for words there goes"
    (1, (wrong || length_wrong outcome len (operation_at c u) (length words)) || ((leb unit_count u || leb outcome_count outcome) || (ltb 0 (length words) && (ltb incomplete_word outcome || takes_no_words (operation_at c u))))) ∷
    -- "a given word, or a buffer word that the call .. hands out, is 2^36 or more"
    (2, not (all_of is_word words) || not (all_of is_word (shown_block (effect_at c u outcome len (length words)) w f area))) ∷
    (11, is_idle_for (operation_at c u)) ∷
    (12, is_forbidden (operation_at c u) outcome) ∷
    -- "A delivered block has 1 + e to B + e words, else 13."; "sized as good blocks", though the attempt be repeated (M-101)
    (13, (is_delivery (effect_at c u outcome len (length words)) || ltb 0 (length words)) && not (block_fits f (length words))) ∷
    []

-- the same rows by what the code has found: what is worked for, what the report comes to and means, whether the words given and those handed
-- out are below 2^36, and whether n words are as many as a delivered block may have
abbrev pub rows_by : Bool → ℕ → ℕ → ℕ → Option Op → Verdict → Effect → Bool → Bool → Bool → ℕ → Rows
rows_by wrong u outcome len x v e fits clean room n =
    (1, (wrong || length_wrong outcome len x n) || ((leb unit_count u || leb outcome_count outcome) || (ltb 0 n && (ltb incomplete_word outcome || takes_no_words x)))) ∷
    (2, not fits || not clean) ∷
    (11, eqb (refusal_number v) 11) ∷
    (12, eqb (refusal_number v) 12) ∷
    (13, (is_delivery e || ltb 0 n) && not room) ∷
    []

unfoldable pub report_refusal : Bool → File → Channel → ℕ → ℕ → ℕ → ℕ → List ℕ → List ℕ → ℕ
report_refusal wrong f c u outcome len w area words = lowest (report_rows wrong f c u outcome len w area words)

-- ---- its effect

-- "A block in error is kept and its number reported.": what the check of the words finds, as delivered, by the number that the block is due
abbrev pub delivery_check : Effect → File → List ℕ → Checked
delivery_check x f words = cond (is_delivery x) (judged_block words f.sequence f.check f.block).found unchecked

-- "A report that delivers a block .. carr[ies] them as found at delivery"
abbrev pub delivery_of : Effect → Checked → Option Checked
delivery_of x found = cond (is_delivery x) (Some found) None

-- what the answer tells of a delivery; a report that delivers nothing has check error 0
abbrev pub told_by : Option Checked → Checked
told_by (Some found) = found
told_by None = unchecked

-- the file: the taken buffer is full with the data words, how they were read and what was found, or is empty again; the block that was sent is gone
unfoldable pub reported_file : Effect → File → ℕ → Checked → File
reported_file (Delivers failed) f n found = delivered f (n - extra f.sequence f.check) (record { failed = failed; check = found })
reported_file MeetsMark f n found = met_mark f
reported_file GivesBack f n found = gave_back f
reported_file Sends f n found = after_write true f
reported_file Keeps f n found = f

-- the area: "A block lies from the first word of its buffer, check word last. Words of the area that no rule here sets stay as they were"
unfoldable pub reported_area : Effect → File → ℕ → List ℕ → List ℕ → List ℕ
reported_area x f w words area = cond (is_delivery x) (pasted_in (start_at f w (taken_side f)) words area) area

-- "A refusal returns the number alone and changes nothing."
abbrev pub refused_report : ℕ → File → Channel → ReportChange
refused_report refusal f c = record { refusal = refusal; result = 0; delivery = None; working = 0; start = 0; count = 0; file = f; channel = c }

-- "Report adds result, check error, working unit and, if it ends a write with 01 or 04, the block's words"
unfoldable pub report_on : Bool → File → Channel → ℕ → ℕ → ℕ → ℕ → Bool → List ℕ → List ℕ → ReportChange
report_on wrong f c u outcome len w frozen area words =
    let refusal = report_refusal wrong f c u outcome len w area words in
    let x = effect_at c u outcome len (length words) in
    let after = book_of c u (judge_of c u outcome len) frozen in
    cond (eqb refusal 0)
    (record {
      refusal = 0;
      result = result_number (position_at c u) (judge_of c u outcome len);
      delivery = delivery_of x (delivery_check x f words);
      working = unit_number (working_in after);
      start = shown_start x w f;
      count = shown_count x f;
      file = reported_file x f (length words) (delivery_check x f words);
      channel = after;
    })
    (refused_report refusal f c)

-- the area afterwards: "A refusal .. changes nothing."
unfoldable pub report_on_area : Bool → File → Channel → ℕ → ℕ → ℕ → ℕ → List ℕ → List ℕ → List ℕ
report_on_area wrong f c u outcome len w area words =
    cond (eqb (report_refusal wrong f c u outcome len w area words) 0) (reported_area (effect_at c u outcome len (length words)) f w words area) area
