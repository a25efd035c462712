-- What the code finds is what the definitions say: the rows of a report, and its answer from them. Assumes nothing.
use mathlib.Core.Path.{◌≡◌, refl, sym, ap, ◌∙◌}
use mathlib.Core.Bool.{Bool, true, false, not, cond, ◌&&◌, ◌||◌}
use mathlib.Core.List.{List, [], ◌∷◌}
use Prim.Native.Nat.{ℕ, ◌+◌, ◌≤◌}
use native.Mathlib.Omega.{arith}
use lib.Dec.{leb, ltb, eqb}
use Rattle.std.specs.Bool.{then_some}
use Rattle.std.specs.Option.{is_some}
use Rattle.std.proofs.Common.{Some}
use lib.ListN.{length}
use borrow.Author.Tests.{ne_eqb, lt-ltb, leb-true, leb-false, le-ltb}
use Rattle.area.proofs.Walks.{and_left, and_right, or_left, true_not_false}
use Rattle.area.proofs.Lowest.{lowest_none}
use Rattle.area.specs.Lists.{all_of}
use Rattle.area.specs.Parts.{is_word, part_of}
use Rattle.area.specs.Refusals.{lowest}
use Rattle.channel.specs.declared.Request.{Request}
use Rattle.channel.specs.declared.Turn.{Turn}
use Rattle.channel.specs.declared.Turn.TheVariants.{Idle, Waiting, Displaced, Working}
use Rattle.channel.specs.declared.Unit.{Unit}
use Rattle.channel.specs.declared.Channel.{Channel}
use Rattle.channel_outcomes.specs.declared.Ending.{Ending}
use Rattle.channel_outcomes.specs.declared.Verdict.{Verdict}
use Rattle.channel_outcomes.specs.declared.Verdict.TheVariants.{Refused, Repeats, Ends}
use Rattle.channel_outcomes.specs.Rules.{is_allowed, is_failure, is_permanent, is_noise, past_noise, next_attempt, ending_of, table_verdict, verdict_of, result_number, refusal_number}
use Rattle.channel_outcomes.proofs.Laws.Rules.{noise_allowed}
use Rattle.channel.specs.Units.{unit_count, turn_at, work_of, operation_at}
use Rattle.channel_turns.specs.declared.Desk.{Desk}
use Rattle.channel_turns.specs.declared.Move.{Move}
use Rattle.channel_turns.specs.Turns.{judge_turn, judge_of}
use Rattle.channel_turns.specs.Desks.{book_move}
use Rattle.file.specs.declared.File.{File}
use Rattle.word.specs.CheckWords.{extra}
use Rattle.file_input.specs.Delivers.{block_fits}
use Rattle.block.specs.declared.blocks.Judged.{Judged}
use Rattle.block.specs.Blocks.{is_number, judge_refusal, judged_block}
use Rattle.word.specs.declared.Checked.{Checked}
use Rattle.word.specs.Checks.{unchecked}
use Rattle.call_request.specs.declared.Effect.{Effect}
use Rattle.call_request.specs.declared.ReportMove.{ReportMove}
use Rattle.call_request.specs.Effects.{effect_of, is_delivery}
use Rattle.call_request.specs.Report.{is_idle_for, is_forbidden, shown_start, shown_count, rows_by, delivery_check, delivery_of, reported_area}
use Rattle.call_request.specs.Moves.{effect_by, report_number, refused_move, report_moved, report_moved_area}
use Rattle.std.specs.declared.option.Option.{Option}
use Rattle.channel.specs.declared.Op.{Op}

-- ---- report: what the channel refuses

-- a request that is worked for is refused 12 or not at all: a noise record is an outcome that is allowed
verdict_number : (a b : Bool) (e : Ending) (q : Request) (n : ℕ) → eqb 0 n ≡ false → eqb (refusal_number (cond a (cond b (Ends e) (Repeats q)) (Refused 12))) n ≡ (not a && eqb 12 n)
verdict_number true true e q n z = z
verdict_number true false e q n z = z
verdict_number false b e q n z = refl

worked_number : (q : Request) (outcome len n : ℕ) → eqb 0 n ≡ false → eqb (refusal_number (verdict_of q outcome len)) n ≡ (not (is_allowed q.op outcome) && eqb 12 n)
unfolding verdict_of table_verdict
worked_number q outcome len n z = go (is_noise q outcome len) refl
  where
    go : (b : Bool) → is_noise q outcome len ≡ b
        → eqb (refusal_number (cond b (Repeats (past_noise q)) (table_verdict q outcome))) n ≡ (not (is_allowed q.op outcome) && eqb 12 n)
    go true e = z ∙ sym (ap (λ (a : Bool). not a && eqb 12 n) (noise_allowed q outcome len true (sym e) refl))
    go false e = verdict_number (is_allowed q.op outcome) (not (is_failure outcome) || is_permanent q outcome) (ending_of q.op q.attempts outcome) (next_attempt q outcome) n z

pub idle_number : (c : Channel) (u outcome len : ℕ) → eqb (refusal_number (judge_of c u outcome len)) 11 ≡ is_idle_for (operation_at c u)
unfolding judge_of operation_at
idle_number c u outcome len = go (turn_at c u)
  where
    works : (a : Bool) → (not a && false) ≡ false
    works true = refl
    works false = refl

    go : (t : Turn) → eqb (refusal_number (judge_turn t outcome len)) 11 ≡ is_idle_for (work_of t)
    go Idle = refl
    go (Waiting q) = refl
    go (Displaced q) = refl
    go (Working q) = worked_number q outcome len 11 refl ∙ works (is_allowed q.op outcome)

pub forbidden_number : (c : Channel) (u outcome len : ℕ) → eqb (refusal_number (judge_of c u outcome len)) 12 ≡ is_forbidden (operation_at c u) outcome
unfolding judge_of operation_at
forbidden_number c u outcome len = go (turn_at c u)
  where
    works : (a : Bool) → (not a && true) ≡ not a
    works true = refl
    works false = refl

    go : (t : Turn) → eqb (refusal_number (judge_turn t outcome len)) 12 ≡ is_forbidden (work_of t) outcome
    go Idle = refl
    go (Waiting q) = refl
    go (Displaced q) = refl
    go (Working q) = worked_number q outcome len 12 refl ∙ works (is_allowed q.op outcome)

-- ---- report: its rows

-- a report that is not refused and delivers a block has as many words as it may have
pub rows_room : (wrong : Bool) (u outcome len : ℕ) (x : Option Op) (v : Verdict) (e : Effect) (fits clean room : Bool) (n : ℕ)
    → lowest (rows_by wrong u outcome len x v e fits clean room n) ≡ 0 → is_delivery e ≡ true → room ≡ true
rows_room wrong u outcome len x v e fits clean room n z brings =
    let a = lowest_none 1 _ _ (λ q. omega arith) z in
    let b = lowest_none 2 _ _ (λ q. omega arith) a.1 in
    let g = lowest_none 11 _ _ (λ q. omega arith) b.1 in
    let h = lowest_none 12 _ _ (λ q. omega arith) g.1 in
    let k = lowest_none 13 ((is_delivery e || ltb 0 n) && not room) _ (λ q. omega arith) h.1 in
    so room (is_delivery e) (ltb 0 n) brings k.0
  where
    so : (r b w : Bool) → b ≡ true → ((b || w) && not r) ≡ false → r ≡ true
    so true b w t q = refl
    so false true w t q = true_not_false refl q
    so false false w t q = true_not_false t refl

-- a report that is not refused gives words below 2^36
pub rows_fit : (wrong : Bool) (u outcome len : ℕ) (x : Option Op) (v : Verdict) (e : Effect) (fits clean room : Bool) (n : ℕ)
    → lowest (rows_by wrong u outcome len x v e fits clean room n) ≡ 0 → fits ≡ true
rows_fit wrong u outcome len x v e fits clean room n z =
    let a = lowest_none 1 _ _ (λ q. omega arith) z in
    let b = lowest_none 2 (not fits || not clean) _ (λ q. omega arith) a.1 in
    so fits (or_left (not fits) _ b.0)
  where
    so : (r : Bool) → not r ≡ false → r ≡ true
    so true q = refl
    so false q = sym q

-- what the code has looked at before it judges a report of a unit whose turn is t, by the names of `rows_by`
pub record Seen (f : File) (t : Turn) (outcome len w : ℕ) (area words : List ℕ) (x : Option Op) (v : Verdict) (e : Effect) (fits clean room : Bool) (start count : ℕ) : Type 0 where
  pub work : x ≡ work_of t
  pub verdict : v ≡ judge_turn t outcome len
  pub effect : e ≡ effect_of (ltb 0 (length words)) x v
  pub given : fits ≡ all_of is_word words
  pub from : start ≡ shown_start e w f
  pub many : count ≡ shown_count e f
  pub handed : clean ≡ all_of is_word (part_of start count area)
  pub space : room ≡ block_fits f (length words)

module _ (wrong frozen : Bool) (y : Unit) (d : Desk) (u : ℕ) {f : File} {outcome len w : ℕ} {area words : List ℕ} {x : Option Op} {v : Verdict} {e : Effect} {fits clean room : Bool}
    {start count : ℕ} (S : Seen f y.turn outcome len w area words x v e fits clean room start count) where
  same : e ≡ effect_by y.turn outcome len (length words)
  same = S.effect ∙ ap (λ (z : Option Op). effect_of (ltb 0 (length words)) z v) S.work ∙ ap (effect_of (ltb 0 (length words)) (work_of y.turn)) S.verdict

  pub number_found : lowest (rows_by wrong u outcome len x v e fits clean room (length words)) ≡ report_number wrong f y.turn u outcome len w area words
  unfolding report_number
  number_found = rw (S.handed, S.from, S.many, same, S.given, S.space, S.work, S.verdict)

  module _ (k : ℕ) (found : k ≡ report_number wrong f y.turn u outcome len w area words) where
    pub move_refused : (k ≡ 0 → ⊥)
        → (refused_move k y d ≡ report_moved wrong f y d u outcome len w frozen area words) × (area ≡ report_moved_area wrong f y.turn u outcome len w area words)
    unfolding report_moved report_moved_area
    move_refused h = (rw (← found, ne_eqb k 0 h), rw (← found, ne_eqb k 0 h))

    pub move_booked : k ≡ 0 → (er : Checked) (dl : Option Checked) (r : ℕ) (m : Move) → er ≡ delivery_check e f words → dl ≡ delivery_of e er → r ≡ result_number y.position v
        → m ≡ book_move unit_count y u d v frozen
        → ◌≡◌ {A = ReportMove} (record { refusal = 0; result = r; delivery = dl; start = start; count = count; effect = e; found = er; change = m })
        (report_moved wrong f y d u outcome len w frozen area words)
    unfolding report_moved
    move_booked h er dl r m isEr isDl isR isM = rw (isM, isDl, isEr, isR, S.from, S.many, same, S.verdict, ← found, h)

    pub move_area : k ≡ 0 → reported_area e f w words area ≡ report_moved_area wrong f y.turn u outcome len w area words
    unfolding report_moved_area
    move_area h = rw (same, ← found, h)

-- ---- the words that are given

-- `look` found something exactly if the words fit, and then what the check finds
pub is_then_some : (b : Bool) (k : Checked) → is_some (then_some b k) ≡ b
is_then_some true k = refl
is_then_some false k = refl

pub then_some_is : (b : Bool) (k v : Checked) → Some v ≡ then_some b k → v ≡ k
then_some_is true k v e = cc
then_some_is false k v e = cc

pub fits_bounds : (f : File) (n : ℕ) → block_fits f n ≡ true → (1 + extra f.sequence f.check ≤ n) × (n ≤ f.size + extra f.sequence f.check)
fits_bounds f n h =
    let e = extra f.sequence f.check in
    (leb-true (1 + e) n (and_left (leb (1 + e) n) _ h), leb-true n (f.size + e) (and_right (leb (1 + e) n) _ h))

two : (a b : Bool) → not (eqb (lowest ((1, false) ∷ (2, not a) ∷ (13, b) ∷ [])) 2) ≡ a
unfolding lowest
two true true = refl
two true false = refl
two false b = refl

module _ (x : Effect) (f : File) (words : List ℕ) where
  pub look_judged : (brings : Bool) → brings ≡ is_delivery x → (brings && leb f.block 32767) ≡ true → (j : Judged) → j ≡ judged_block words f.sequence f.check f.block
      → (not (eqb j.refusal 2) ≡ all_of is_word words) × (j.found ≡ delivery_check x f words)
  unfolding judged_block judge_refusal
  look_judged brings is_b h j isJ =
      let small : is_number f.block ≡ true = lt-ltb f.block 32768 (omega (arith, leb-true f.block 32767 (and_right brings _ h))) in
      let right : not (is_number f.block) ≡ false = ap not small in (
        ap (λ (k : Judged). not (eqb k.refusal 2)) isJ ∙ rw right (two (all_of is_word words) _),
        ap (λ (k : Judged). k.found) isJ ∙ rw (sym is_b ∙ and_left brings _ h),
      )

  pub look_other : (brings : Bool) → brings ≡ is_delivery x → (brings && leb f.block 32767) ≡ false → unchecked ≡ delivery_check x f words
  unfolding judged_block judge_refusal lowest
  look_other true is_b h =
      let large : is_number f.block ≡ false = le-ltb f.block 32768 (omega (arith, leb-false f.block 32767 h)) in
      rw (← is_b, large)
  look_other false is_b h = rw (← is_b)
