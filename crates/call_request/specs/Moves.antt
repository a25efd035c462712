-- Ask and report by one unit x and the desk d of its channel: `Ask` and `Report` put for these. Assumes nothing.
use Rattle.std.specs.Prelude.{ℕ, Bool, not, cond, List, ltb, eqb, length, None}
use Rattle.area.specs.Lists.{all_of}
use Rattle.area.specs.Parts.{is_word}
use Rattle.area.specs.Refusals.{lowest}
use Rattle.channel.specs.declared.Turn.{Turn}
use Rattle.channel.specs.declared.Unit.{Unit}
use Rattle.channel.specs.Units.{unit_count, is_idle, work_of}
use Rattle.channel_outcomes.specs.Rules.{result_number}
use Rattle.channel_turns.specs.declared.Desk.{Desk}
use Rattle.channel_turns.specs.declared.Move.{Move}
use Rattle.channel_turns.specs.Turns.{judge_turn}
use Rattle.channel_turns.specs.Desks.{ask_move, book_move}
use Rattle.file.specs.declared.File.{File}
use Rattle.file_input.specs.Delivers.{block_fits}
use Rattle.routines.specs.declared.Naming.{Naming}
use Rattle.word.specs.Checks.{unchecked}
use Rattle.call_request.specs.declared.AskMove.{AskMove}
use Rattle.call_request.specs.declared.Effect.{Effect}
use Rattle.call_request.specs.declared.Effect.TheVariants.{Keeps}
use Rattle.call_request.specs.declared.ReportMove.{ReportMove}
use Rattle.call_request.specs.Ask.{is_priority, op_of, ask_rows_by}
use Rattle.call_request.specs.Effects.{effect_of}
use Rattle.call_request.specs.Report.{shown_start, shown_count, shown_block, rows_by, delivery_check, delivery_of, reported_area}

-- a refusal changes nothing
abbrev pub rest_move : Unit → Desk → Move
rest_move x d = record { turn = x.turn; position = x.position; mark = d.mark; urgent = d.urgent; starts = None; working = 0 }

-- ---- ask

unfoldable pub ask_number : Bool → File → Turn → ℕ → ℕ → Naming → Bool → ℕ
ask_number wrong f t op priority naming waits = lowest (ask_rows_by wrong f (not (is_idle t)) op priority naming waits)

unfoldable pub ask_moved : Bool → File → Unit → Desk → ℕ → ℕ → Naming → Bool → Bool → AskMove
ask_moved wrong f x d op priority naming waits frozen =
    let no = ask_number wrong f x.turn op priority naming waits in
    cond (eqb no 0)
    (record { refusal = 0; change = ask_move unit_count x f.unit d (op_of op) (is_priority priority) frozen })
    (record { refusal = no; change = rest_move x d })

-- ---- report

-- what it means for the file, by how the unit stands
abbrev pub effect_by : Turn → ℕ → ℕ → ℕ → Effect
effect_by t outcome len n = effect_of (ltb 0 n) (work_of t) (judge_turn t outcome len)

unfoldable pub report_number : Bool → File → Turn → ℕ → ℕ → ℕ → ℕ → List ℕ → List ℕ → ℕ
report_number wrong f t u outcome len w area words =
    let e = effect_by t outcome len (length words) in
    lowest (rows_by wrong u outcome len (work_of t) (judge_turn t outcome len) e (all_of is_word words) (all_of is_word (shown_block e w f area)) (block_fits f (length words)) (length words))

abbrev pub refused_move : ℕ → Unit → Desk → ReportMove
refused_move k x d = record { refusal = k; result = 0; delivery = None; start = 0; count = 0; effect = Keeps; found = unchecked; change = rest_move x d }

unfoldable pub report_moved : Bool → File → Unit → Desk → ℕ → ℕ → ℕ → ℕ → Bool → List ℕ → List ℕ → ReportMove
report_moved wrong f x d u outcome len w frozen area words =
    let no = report_number wrong f x.turn u outcome len w area words in
    let v = judge_turn x.turn outcome len in
    let e = effect_by x.turn outcome len (length words) in
    cond (eqb no 0)
    (record {
      refusal = 0;
      result = result_number x.position v;
      delivery = delivery_of e (delivery_check e f words);
      start = shown_start e w f;
      count = shown_count e f;
      effect = e;
      found = delivery_check e f words;
      change = book_move unit_count x u d v frozen;
    })
    (refused_move no x d)

unfoldable pub report_moved_area : Bool → File → Turn → ℕ → ℕ → ℕ → ℕ → List ℕ → List ℕ → List ℕ
report_moved_area wrong f t u outcome len w area words =
    cond (eqb (report_number wrong f t u outcome len w area words) 0) (reported_area (effect_by t outcome len (length words)) f w words area) area
