-- Ask and report by one unit and its channel's desk are ask and report on the channel. Assumes nothing.
use mathlib.Core.Path.{◌≡◌, refl, sym, ap, ◌∙◌}
use mathlib.Core.Bool.{Bool, true, false, cond}
use mathlib.Core.List.{List}
use Prim.Native.Nat.{ℕ}
use native.Mathlib.Omega.{arith}
use borrow.Author.Tests.{eqb-true}
use lib.Dec.{eqb}
use lib.ListN.{length}
use Rattle.area.specs.Lists.{all_of}
use Rattle.area.specs.Parts.{is_word}
use Rattle.area.specs.Refusals.{lowest}
use Rattle.area.proofs.Walks.{true_not_false}
use Rattle.channel.specs.declared.Unit.{Unit}
use Rattle.channel.specs.declared.Channel.{Channel}
use Rattle.channel.specs.Units.{unit_count, size, unit_at, turn_at, position_at, has_request, operation_at, work_of, with_marks}
use Rattle.channel_outcomes.specs.declared.Verdict.{Verdict}
use Rattle.channel_outcomes.specs.Rules.{result_number}
use Rattle.channel_turns.specs.declared.Desk.{Desk}
use Rattle.channel_turns.specs.declared.Asked.{Asked}
use Rattle.channel_turns.specs.Scans.{working_in, unit_number}
use Rattle.channel_turns.specs.Turns.{judge_turn, judge_of, book_of}
use Rattle.channel_turns.specs.Desks.{desk_of, ask_move, book_move, moved_to}
use Rattle.channel_turns.proofs.Laws.Desks.{unit_kept, n_asks, n_ask_works, n_books, n_book_works}
use Rattle.file.specs.declared.File.{File}
use Rattle.file_input.specs.Delivers.{block_fits}
use Rattle.routines.specs.declared.Naming.{Naming}
use Rattle.call_request.specs.declared.AskChange.{AskChange}
use Rattle.call_request.specs.declared.AskMove.{AskMove}
use Rattle.call_request.specs.declared.Effect.{Effect}
use Rattle.call_request.specs.declared.ReportChange.{ReportChange}
use Rattle.call_request.specs.declared.ReportMove.{ReportMove}
use Rattle.call_request.specs.Effects.{is_delivery}
use Rattle.call_request.specs.Ask.{is_priority, op_of, ask_refusal, asked_file, asked_channel, ask_on}
use Rattle.call_request.specs.Report.{shown_start, shown_count, shown_block, rows_by, report_refusal, delivery_check, delivery_of, reported_file, refused_report, report_on, report_on_area}
use Rattle.call_request.specs.Moves.{rest_move, ask_number, ask_moved, effect_by, report_number, refused_move, report_moved, report_moved_area}
use Rattle.call_request.proofs.AskFound.{ask_refused}
use Rattle.call_request.proofs.Found.{idle_number, forbidden_number, rows_room}

-- a refusal's change leaves the channel as it was
pub rest_moves : (c : Channel) (u : ℕ) → moved_to c u (rest_move (unit_at c u) (desk_of c)) ≡ c
unfolding moved_to desk_of
rest_moves c u = ap (λ (d : Channel). with_marks d c.mark c.urgent) (unit_kept c u)

-- ---- ask

ask_number_lem : (wrong : Bool) (f : File) (c : Channel) (op priority : ℕ) (naming : Naming) (waits : Bool)
    → ask_number wrong f (turn_at c f.unit) op priority naming waits ≡ ask_refusal wrong f c op priority naming waits
unfolding ask_number ask_refusal has_request
ask_number_lem wrong f c op priority naming waits = refl

-- the ask that it is on a channel, from what it makes of the unit
abbrev pub ask_from : File → Channel → ℕ → AskMove → AskChange
ask_from f c op a =
    record { refusal = a.refusal; working = a.change.working; file = cond (eqb a.refusal 0) (asked_file op f) f; channel = moved_to c f.unit a.change }

module _ (wrong : Bool) (f : File) (c : Channel) (long : size c ≡ unit_count) (op priority : ℕ) (naming : Naming) (waits frozen : Bool) where
  small : Bool → ℕ → AskMove
  small b k =
      cond b (record { refusal = 0; change = ask_move unit_count (unit_at c f.unit) f.unit (desk_of c) (op_of op) (is_priority priority) frozen })
      (record { refusal = k; change = rest_move (unit_at c f.unit) (desk_of c) })

  whole : Bool → ℕ → AskChange
  whole b k =
      cond b (record { refusal = 0; working = unit_number (working_in (asked_channel f c op priority frozen)); file = asked_file op f; channel = asked_channel f c op priority frozen })
      (record { refusal = k; working = 0; file = f; channel = c })

  after : asked_channel f c op priority frozen ≡ moved_to c f.unit (ask_move unit_count (unit_at c f.unit) f.unit (desk_of c) (op_of op) (is_priority priority) frozen)
  unfolding asked_channel
  after = sym (ap (λ (a : Asked). a.channel) (n_asks c unit_count long (omega arith) (omega arith) f.unit (op_of op) (is_priority priority) frozen))

  works : unit_number (working_in (asked_channel f c op priority frozen)) ≡ (ask_move unit_count (unit_at c f.unit) f.unit (desk_of c) (op_of op) (is_priority priority) frozen).working
  unfolding asked_channel
  works = sym (n_ask_works c unit_count long (omega arith) (omega arith) f.unit (op_of op) (is_priority priority) frozen)

  by : (b : Bool) (k : ℕ) → eqb k 0 ≡ b → whole b k ≡ ask_from f c op (small b k)
  unfolding small whole
  by true k e = rw (works, after)
  by false k e = rw (e, rest_moves c f.unit)

  pub ask_from_lem : ask_on wrong f c op priority naming waits frozen ≡ ask_from f c op (ask_moved wrong f (unit_at c f.unit) (desk_of c) op priority naming waits frozen)
  unfolding ask_on ask_moved small whole
  ask_from_lem =
      let k = ask_number wrong f (turn_at c f.unit) op priority naming waits in
      rw (← ask_number_lem wrong f c op priority naming waits) (by (eqb k 0) k refl)

  moved_refusal : (ask_moved wrong f (unit_at c f.unit) (desk_of c) op priority naming waits frozen).refusal ≡ ask_refusal wrong f c op priority naming waits
  unfolding ask_moved
  moved_refusal =
      let k = ask_number wrong f (turn_at c f.unit) op priority naming waits in
      go (eqb k 0) k refl ∙ ask_number_lem wrong f c op priority naming waits
    where
      go : (b : Bool) (k : ℕ) → eqb k 0 ≡ b
          → (cond {A = AskMove} b (record { refusal = 0; change = ask_move unit_count (unit_at c f.unit) f.unit (desk_of c) (op_of op) (is_priority priority) frozen })
          (record { refusal = k; change = rest_move (unit_at c f.unit) (desk_of c) })).refusal ≡ k
      go true k e = sym (eqb-true k 0 e)
      go false k e = refl

  module _ (a : AskMove) (is : a ≡ ask_moved wrong f (unit_at c f.unit) (desk_of c) op priority naming waits frozen) where
    pub from_refused : (a.refusal ≡ 0 → ⊥) → record { refusal = a.refusal; working = 0; file = f; channel = c } ≡ ask_on wrong f c op priority naming waits frozen
    from_refused h = sym (ask_refused wrong f c op priority naming waits frozen a.refusal (ap (λ (x : AskMove). x.refusal) is ∙ moved_refusal) h)

    pub from_taken : a.refusal ≡ 0
        → record { refusal = 0; working = a.change.working; file = asked_file op f; channel = moved_to c f.unit a.change } ≡ ask_on wrong f c op priority naming waits frozen
    from_taken z =
        let here : ask_from f c op a ≡ record { refusal = 0; working = a.change.working; file = asked_file op f; channel = moved_to c f.unit a.change } = rw z in
        sym here ∙ ap (ask_from f c op) is ∙ sym ask_from_lem

-- ---- report

module _ (wrong : Bool) (f : File) (c : Channel) (u outcome len w : ℕ) (area words : List ℕ) where
  report_number_lem : report_number wrong f (turn_at c u) u outcome len w area words ≡ report_refusal wrong f c u outcome len w area words
  unfolding report_number report_refusal operation_at judge_of
  report_number_lem = rw (← idle_number c u outcome len, ← forbidden_number c u outcome len)

  pub report_area : report_on_area wrong f c u outcome len w area words ≡ report_moved_area wrong f (turn_at c u) u outcome len w area words
  unfolding report_on_area report_moved_area operation_at judge_of
  report_area = rw (← report_number_lem)

-- the report that it is on a channel, from what it makes of the unit
abbrev pub report_from : File → Channel → ℕ → ℕ → ReportMove → ReportChange
report_from f c u n x =
    record {
      refusal = x.refusal;
      result = x.result;
      delivery = x.delivery;
      working = x.change.working;
      start = x.start;
      count = x.count;
      file = reported_file x.effect f n x.found;
      channel = moved_to c u x.change;
    }

module _ (wrong : Bool) (f : File) (c : Channel) (long : size c ≡ unit_count) (u outcome len w : ℕ) (frozen : Bool) (area words : List ℕ) where
  verdict : Verdict
  verdict = judge_turn (turn_at c u) outcome len

  effect : Effect
  effect = effect_by (turn_at c u) outcome len (length words)

  booked : book_of c u verdict frozen ≡ moved_to c u (book_move unit_count (unit_at c u) u (desk_of c) verdict frozen)
  booked = sym (n_books c unit_count long (omega arith) (omega arith) u verdict frozen)

  busy : unit_number (working_in (book_of c u verdict frozen)) ≡ (book_move unit_count (unit_at c u) u (desk_of c) verdict frozen).working
  busy = sym (n_book_works c unit_count long (omega arith) (omega arith) u verdict frozen)

  report_by_lem : (b : Bool) (k : ℕ)
      → ◌≡◌ {A = ReportChange}
      (cond b
      (record {
        refusal = 0;
        result = result_number (position_at c u) verdict;
        delivery = delivery_of effect (delivery_check effect f words);
        working = unit_number (working_in (book_of c u verdict frozen));
        start = shown_start effect w f;
        count = shown_count effect f;
        file = reported_file effect f (length words) (delivery_check effect f words);
        channel = book_of c u verdict frozen;
      })
      (refused_report k f c))
      (report_from f c u (length words)
      (cond b
      (record {
        refusal = 0;
        result = result_number (position_at c u) verdict;
        delivery = delivery_of effect (delivery_check effect f words);
        start = shown_start effect w f;
        count = shown_count effect f;
        effect = effect;
        found = delivery_check effect f words;
        change = book_move unit_count (unit_at c u) u (desk_of c) verdict frozen;
      })
      (refused_move k (unit_at c u) (desk_of c))))
  unfolding reported_file
  report_by_lem true k = rw (busy, booked)
  report_by_lem false k = rw (rest_moves c u)

  pub report_from_lem : report_on wrong f c u outcome len w frozen area words ≡ report_from f c u (length words) (report_moved wrong f (unit_at c u) (desk_of c) u outcome len w frozen area words)
  unfolding report_on report_moved operation_at judge_of verdict effect
  report_from_lem =
      let k = report_number wrong f (turn_at c u) u outcome len w area words in
      rw (← report_number_lem wrong f c u outcome len w area words) (report_by_lem (eqb k 0) k)

-- a block that is delivered has as many words as it may have
pub moved_room : (wrong : Bool) (f : File) (x : Unit) (d : Desk) (u outcome len w : ℕ) (frozen : Bool) (area words : List ℕ)
    → is_delivery (report_moved wrong f x d u outcome len w frozen area words).effect ≡ true → block_fits f (length words) ≡ true
unfolding report_moved report_number
moved_room wrong f x d u outcome len w frozen area words brings = go (eqb rows 0) refl brings
  where
    e : Effect
    e = effect_by x.turn outcome len (length words)

    rows : ℕ
    rows = lowest (rows_by wrong u outcome len (work_of x.turn) (judge_turn x.turn outcome len) e (all_of is_word words) (all_of is_word (shown_block e w f area)) (block_fits f (length words)) (length words))

    go : (b : Bool) → eqb rows 0 ≡ b
        → is_delivery (cond b
        (record {
          refusal = 0;
          result = result_number x.position (judge_turn x.turn outcome len);
          delivery = delivery_of e (delivery_check e f words);
          start = shown_start e w f;
          count = shown_count e f;
          effect = e;
          found = delivery_check e f words;
          change = book_move unit_count x u d (judge_turn x.turn outcome len) frozen;
        })
        (refused_move rows x d)).effect ≡ true → block_fits f (length words) ≡ true
    go true q t = rows_room wrong u outcome len (work_of x.turn) (judge_turn x.turn outcome len) e (all_of is_word words) (all_of is_word (shown_block e w f area)) (block_fits f (length words)) (length words) (eqb-true rows 0 q) t
    go false q t = true_not_false t refl
