-- An ask is refused 10 by what the history says of its file. Assumes nothing.
use mathlib.Core.Path.{◌≡◌, refl, sym, ap, ◌∙◌}
use mathlib.Core.Logic.{◌≢◌}
use mathlib.Core.Bool.{true, not, ◌&&◌}
use mathlib.Core.Option.{Option, none, some}
use mathlib.Core.List.{List}
use Prim.Native.Nat.{ℕ, ◌≤◌}
use native.Mathlib.Omega.{arith}
use borrow.Author.Tests.{eqb-true, eq-eqb}
use Rattle.area.specs.Refusals.{lowest}
use Rattle.area.proofs.Walks.{true_not_false, and_left, and_right, and_both}
use Rattle.channel.specs.declared.Channel.{Channel}
use Rattle.file.specs.declared.File.{File}
use Rattle.routines.specs.declared.Naming.{Naming}
use Rattle.state.specs.declared.State.{State}
use Rattle.state.specs.Places.{file_at, channel_at}
use Rattle.call_request.specs.Ask.{is_reading, ask_rows, ask_refusal}
use Rattle.pack_request.specs.Calls.{ask_wrong, ask_waits}
use Rattle.pack_request.proofs.Ready.{not_false}
use Rattle.pack_request.proofs.AskTheorems.{ask_ready, ask_exactly}
use Rattle.pack.specs.Calls.{ask, answer_of}
use Rattle.pack.specs.Books.{Opened}
use Rattle.pack.proofs.Marking.{Known}
use Rattle.demands.specs.Marks.{Marks}
use Rattle.demands.proofs.Rows.{row_past, row_given, none_gives, not_gives, row_most, row_here}

-- ---- an ask

module _ (s : State) (area : List ℕ) (file op priority : ℕ) (naming : Naming) where
  abbrev f : File
  f = file_at s file

  abbrev c : Channel
  c = channel_at s f.channel

  number : (answer_of s area (ask file op priority naming)).refusal ≡ lowest (ask_rows (ask_wrong s file) f c op priority naming (ask_waits s file))
  unfolding answer_of
  number = (ask_exactly s file op priority naming).number

  ten_only : (answer_of s area (ask file op priority naming)).refusal ≡ 10 → (op ≡ 0) × (f.opened ≡ true) × (f.marked ≡ true)
  ten_only e =
      let a = row_past 10 1 _ _ (λ q. omega arith) (sym number ∙ e) in
      let b = row_past 10 5 (not f.opened) _ (λ q. omega arith) a.1 in
      let d = row_past 10 6 _ _ (λ q. omega arith) b.1 in
      let g = row_past 10 8 _ _ (λ q. omega arith) d.1 in
      let h = row_past 10 9 _ _ (λ q. omega arith) g.1 in
      let k = row_given 10 (is_reading op && f.marked) _ (not_gives 10 15 _ _ (λ q. omega arith) (none_gives 10 (omega arith))) h.1 in
      (eqb-true op 0 (and_left (is_reading op) _ k), not_false f.opened b.0, and_right (is_reading op) _ k)

  ten_refuses : op ≡ 0 → f.marked ≡ true
      → ((answer_of s area (ask file op priority naming)).refusal ≢ 0) × ((answer_of s area (ask file op priority naming)).refusal ≤ 10)
  unfolding ask_refusal
  ten_refuses r m =
      let row : (is_reading op && f.marked) ≡ true = and_both (is_reading op) _ (eq-eqb op 0 r) m in
      let most : lowest (ask_rows (ask_wrong s file) f c op priority naming (ask_waits s file)) ≤ 10 =
      row_most 1 10 _ _ (omega arith) (row_most 5 10 _ _ (omega arith) (row_most 6 10 _ _ (omega arith) (row_most 8 10 _ _ (omega arith)
      (row_most 9 10 _ _ (omega arith) (row_here 10 10 (is_reading op && f.marked) _ (omega arith) row))))) in (
        λ z. true_not_false row (ask_ready (ask_wrong s file) f c op priority naming (ask_waits s file) (sym number ∙ z)).unmarked,
        omega (arith, number, most),
      )

  pub asked_marks : (o : Option Opened) → Known f o → Marks s area file op priority naming o
  asked_marks none K = record {
    bound = λ x e. absurd (let z : ◌≡◌ {A = ℕ} 0 1 = cc in omega arith);
    shut = λ e. K;
    only = λ e. let x = ten_only e in true_not_false x.1 K;
    refuses = λ r m. true_not_false m refl;
  }
  asked_marks (some x) K = record {
    bound = λ y e. let same : x ≡ y = cc in (K.opened, K.channel ∙ ap (λ (z : Opened). z.channel) same, K.unit ∙ ap (λ (z : Opened). z.unit) same);
    shut = λ e. absurd (let z : ◌≡◌ {A = ℕ} 0 1 = cc in omega arith);
    only = λ e. let y = ten_only e in (y.0, sym K.marked ∙ y.2);
    refuses = λ r m. ten_refuses r (K.marked ∙ m);
  }
