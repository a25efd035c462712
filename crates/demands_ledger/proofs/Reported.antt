-- An accepted report, by what it means for its file, keeps what holds of every open file and its ledger. Assumes nothing.
use mathlib.Core.Path.{◌≡◌, refl, sym, ap, ap₂, subst, ◌∙◌}
use mathlib.Core.Logic.{◌≢◌}
use mathlib.Core.Bool.{Bool, true, false, not, cond, ◌&&◌, ◌||◌}
use mathlib.Core.List.{List, []}
use Prim.Native.Nat.{ℕ, ◌*◌, ◌≤◌}
use native.Mathlib.Omega.{arith}
use lib.Dec.{eqb, leb, ltb}
use lib.ListN.{length}
use borrow.Author.Tests.{eq-eqb, ne_eqb, ltb-false}
use Rattle.area.specs.Parts.{part_of, pasted_in}
use Rattle.area.proofs.Walks.{and_left, or_left, or_right}
use Rattle.area.proofs.Marks.{cond_true, cond_false}
use Rattle.area.specs.Refusals.{here}
use Rattle.block.specs.Blocks.{judged_block}
use Rattle.channel.specs.declared.Channel.{Channel}
use Rattle.channel_outcomes.specs.Rules.{result_number, outcome_count}
use Rattle.channel_turns.specs.Scans.{working_in, unit_number}
use Rattle.channel.specs.Units.{position_at, turn_at, operation_at, unit_count}
use Rattle.channel_turns.specs.Turns.{judge_of, book_of}
use Rattle.word.specs.Checks.{unchecked}
use Rattle.word.specs.declared.Checked.{Checked}
use Rattle.file.specs.declared.Side.{Side}
use Rattle.file.specs.declared.File.{File}
use Rattle.file.specs.Sides.{buffer_at, start_at, taken_side}
use Rattle.file.specs.Fills.{without_oldest}
use Rattle.file_input.specs.Delivers.{has_full, gave_back, met_mark}
use Rattle.file_output.specs.Sends.{send_start, send_words, after_write}
use Rattle.pool.specs.Serving.{serves}
use Rattle.state_sound.proofs.FileFacts.{Sound}
use Rattle.state_sound.proofs.FilesKept.{owns}
use Rattle.state_sound.proofs.Changes.{taken_input}
use Rattle.state.specs.declared.State.{State}
use Rattle.state.specs.Places.{file_at, channel_at, area_short}
use Rattle.state_sound.specs.Requests.{is_write}
use Rattle.state_sound.specs.Soundness.{sound}
use Rattle.state_sound.proofs.Facts.{sound_facts}
use Rattle.state_sound.proofs.Kept.{place_of}
use Rattle.call_request.specs.declared.Effect.{Effect}
use Rattle.call_request.specs.declared.Effect.TheVariants.{Delivers, MeetsMark, GivesBack, Sends, Keeps}
use Rattle.call_request.specs.declared.ReportChange.{ReportChange}
use Rattle.call_request.specs.Effects.{is_delivery}
use Rattle.call_request.specs.Report.{length_wrong, effect_at, shown_start, shown_count, report_refusal, delivery_check, delivery_of, told_by, reported_file, reported_area, report_on, report_on_area}
use Rattle.pack_request.specs.Calls.{file_of, report_wrong, report_change, report_by, report_by_area}
use Rattle.pack_request.proofs.Changed.{here_file}
use Rattle.pack_request.proofs.ReportTheorems.{booked, ReportReady, report_ready, report_exactly, report_frame, is_open, requested_ready, report_books_own}
use Rattle.pack_request.proofs.ReportWords.{is_sending, sends_exactly, report_delivers}
use Rattle.pack_record.specs.Only.{Only}
use Rattle.pack_record.proofs.Written.{only_wider, pasted_only}
use Rattle.area.proofs.Pastes.{paste_fitting}
use Rattle.pack.specs.Histories.{is_repeat}
use Rattle.pack.specs.Calls.{report, answer_of}
use Rattle.pack.proofs.Kept.{call_kept}
use Rattle.demands_ledger.specs.Ledgers.{Ledger, as_block, failed_by, came_by, owed_for, with_report, is_on}
use Rattle.demands_ledger.specs.Blocks.{number_after}
use Rattle.demands_ledger.proofs.Told.{Told}
use Rattle.demands_ledger.proofs.Frames.{marking, Kept, others_same, kept_file}
use Rattle.demands_ledger.proofs.Booked.{plus, plus_none, told_back, told_mark, told_sent, told_came}
use Rattle.demands_ledger.proofs.Deliveries.{words_kept, delivery_told, meets, mark_met, write_ready}
use Rattle.std.specs.declared.option.Option.TheVariants.{Some, None}

module _ (s : State) (area : List ℕ) (ledgers : ℕ → Ledger) (K : Kept s area ledgers) (channel unit outcome len : ℕ) (words : List ℕ)
    (z : (report_by s area channel unit outcome len words).refusal ≡ 0) where
  abbrev i : ℕ
  i = file_of s channel unit

  abbrev f : File
  f = file_at s i

  abbrev c : Channel
  c = channel_at s channel

  abbrev effect : Effect
  effect = effect_at c unit outcome len (length words)

  abbrev L : Ledger
  L = ledgers i

  number : report_refusal (report_wrong s (length area) channel) f c unit outcome len s.w area words ≡ 0
  unfolding report_refusal
  number = sym (report_exactly s area channel unit outcome len words).number ∙ z

  pub ready : ReportReady (report_wrong s (length area) channel) f c unit outcome len s.w area words
  ready = report_ready (report_wrong s (length area) channel) f c unit outcome len s.w area words number

  long : s.m * s.w ≤ length area
  long = ltb-false (length area) (s.m * s.w) (or_left (area_short s (length area)) _ (or_right (not (sound s)) _ ready.right))

  open_file : f.opened ≡ true
  open_file = is_open s area channel unit outcome len words K.good.sixteen number

  S : Sound s.m s.w f
  S = (sound_facts s K.good.right).files i open_file

  -- the result of the report, and the words that are kept of it
  abbrev result : ℕ
  result = result_number (position_at c unit) (judge_of c unit outcome len)

  abbrev kept : List ℕ
  kept = cond (not (is_repeat result)) words []

  no_words : is_delivery effect ≡ false → kept ≡ []
  no_words =
      let x = report_exactly s area channel unit outcome len words in
      let row = x.table.none (sym x.number ∙ z) 1 _ here in
      words_kept c unit outcome len words (or_right (leb unit_count unit || leb outcome_count outcome) _ (or_right (report_wrong s (length area) channel || length_wrong outcome len (operation_at c unit) (length words)) _ row))
      ready.works

  pub after_area : report_by_area s area channel unit outcome len words ≡ reported_area effect f s.w words area
  unfolding report_by_area report_on_area
  after_area = cond_true (reported_area effect f s.w words area) area (eq-eqb _ 0 number)

  -- what the report makes of its file, of the area and of the file's ledger
  abbrev made_ledger : Effect → Ledger
  made_ledger x =
      plus L (meets x) (as_block (part_of (shown_start x s.w f) (shown_count x f) (reported_area x f s.w words area))) (came_by (failed_by result) kept)
      (owed_for L.chosen.sequence L.chosen.check (failed_by result) (delivery_check x f words) kept)

  nothing_more : (g : File) (mark : Bool) → kept ≡ [] → Told s.w g area (marking (mark || L.marked) L)
      → Told s.w g area (plus L mark [] (came_by (failed_by result) kept) (owed_for L.chosen.sequence L.chosen.check (failed_by result) unchecked kept))
  nothing_more g mark e T =
      subst (λ (ws : List ℕ). Told s.w g area
      (plus L mark [] (came_by (failed_by result) ws) (owed_for L.chosen.sequence L.chosen.check (failed_by result) unchecked ws))) (sym e)
      (subst (Told s.w g area) (plus_none L mark) T)

  pub sending : is_write (operation_at c unit) ≡ true → (f.output ≡ true) × (has_full f ≡ true)
  unfolding operation_at
  sending h = write_ready (turn_at c unit) f h (requested_ready s area channel unit outcome len words K.good.sixteen number)

  told_reported : (x : Effect) → effect ≡ x
      → Told s.w (reported_file x f (length words) (delivery_check x f words)) (reported_area x f s.w words area) (made_ledger x)
  unfolding reported_file reported_area after_write
  told_reported (Delivers failed) e =
      let d : is_delivery effect ≡ true = ap is_delivery e in
      let D = report_delivers s area channel unit outcome len words K.good.sixteen number d in
      let R = delivery_told c unit outcome len (length words) failed e in
      subst (λ (ws : List ℕ). Told s.w (reported_file (Delivers failed) f (length words) (delivery_check (Delivers failed) f words))
      (reported_area (Delivers failed) f s.w words area)
      (plus L false [] (came_by (failed_by result) ws)
      (owed_for L.chosen.sequence L.chosen.check (failed_by result) (delivery_check (Delivers failed) f words) ws))) (sym (cond_true words [] R.answers))
      (subst (λ (x : ℕ). Told s.w (reported_file (Delivers failed) f (length words) (delivery_check (Delivers failed) f words))
      (reported_area (Delivers failed) f s.w words area)
      (plus L false [] (came_by x words)
      (owed_for L.chosen.sequence L.chosen.check x (delivery_check (Delivers failed) f words) words))) (sym R.error)
      (told_came s.m s.w f S area long L failed words D.side (ready.fits d) D.inside D.room open_file (K.told i)))
  told_reported MeetsMark e = nothing_more (met_mark f) true (no_words (ap is_delivery e)) (told_mark s.w f area L (K.told i))
  told_reported GivesBack e = nothing_more (gave_back f) false (no_words (ap is_delivery e)) (told_back s.w f area L (K.told i))
  told_reported Sends e =
      let writes : is_write (operation_at c unit) ≡ true =
      and_left (is_write (operation_at c unit)) _ (sym (sends_exactly (ltb 0 (length words)) (operation_at c unit) (position_at c unit) (judge_of c unit outcome len)) ∙ ap is_sending e) in
      let R = sending writes in
      subst (λ (ws : List ℕ). Told s.w (without_oldest f) area
      (plus L false (as_block (part_of (send_start s.w f) (send_words f) area)) (came_by (failed_by result) ws)
      (owed_for L.chosen.sequence L.chosen.check (failed_by result) unchecked ws)))
      (sym (no_words (ap is_delivery e)))
      (told_sent s.m s.w f S area long L open_file R.0 R.1 (K.told i))
  told_reported Keeps e = nothing_more f false (no_words (ap is_delivery e)) (K.told i)

  pub change : report_change s area channel unit outcome len words ≡ record {
    refusal = 0;
    result = result_number (position_at c unit) (judge_of c unit outcome len);
    delivery = delivery_of effect (delivery_check effect f words);
    working = unit_number (working_in (book_of c unit (judge_of c unit outcome len) s.frozen));
    start = shown_start effect s.w f;
    count = shown_count effect f;
    file = reported_file effect f (length words) (delivery_check effect f words);
    channel = book_of c unit (judge_of c unit outcome len) s.frozen;
  }
  unfolding report_on
  change = rw (eq-eqb (report_refusal (report_wrong s (length area) channel) f c unit outcome len s.w area words) 0 number)

  met : eqb (result_number (position_at c unit) (judge_of c unit outcome len)) 3 ≡ meets effect
  met = mark_met c unit outcome len (length words) (booked c unit outcome len ready.works ready.allowed)

  -- what the answer tells of the delivery is what was found
  told_delivery_lem : told_by (delivery_of effect (delivery_check effect f words)) ≡ delivery_check effect f words
  told_delivery_lem = go (is_delivery effect)
    where
      go : (b : Bool) → told_by (cond b (Some (cond b (judged_block words f.sequence f.check f.block).found unchecked)) None)
          ≡ cond b (judged_block words f.sequence f.check f.block).found unchecked
      go true = refl
      go false = refl

  -- the file after it stands in its place
  after_file : file_at (report_by s area channel unit outcome len words).state i ≡ (report_change s area channel unit outcome len words).file
  unfolding report_by
  after_file =
      let x = report_change s area channel unit outcome len words in
      here_file s i channel x.refusal x.file x.channel _ (ap (λ (y : ReportChange). y.refusal) change) (place_of s i open_file)

  -- no word of another file's buffers changes
  still : (j : ℕ) → j ≢ i → (file_at s j).opened ≡ true → (k : Side) → owns (file_at s j) k ≡ true
      → part_of ((buffer_at (file_at s j) k).number * s.w) s.w (report_by_area s area channel unit outcome len words)
      ≡ part_of ((buffer_at (file_at s j) k).number * s.w) s.w area
  unfolding reported_area
  still j ne o k p = go (is_delivery effect) refl
    where
      go : (t : Bool) → is_delivery effect ≡ t
          → part_of ((buffer_at (file_at s j) k).number * s.w) s.w (report_by_area s area channel unit outcome len words)
          ≡ part_of ((buffer_at (file_at s j) k).number * s.w) s.w area
      go true d =
          let D = report_delivers s area channel unit outcome len words K.good.sixteen number d in
          let at = start_at f s.w (taken_side f) in
          let only = only_wider at (length words) at s.w area (pasted_in at words area) (pasted_only at words area D.inside) (omega arith)
          (omega (arith, D.room)) in
          others_same s K.good i (buffer_at f (taken_side f)).number D.held area (report_by_area s area channel unit outcome len words)
          (subst (Only at s.w area) (paste_fitting at words area D.inside ∙ sym D.pasted) only) j ne o k p
      go false d =
          ap (part_of ((buffer_at (file_at s j) k).number * s.w) s.w)
          (after_area ∙ cond_false (pasted_in (start_at f s.w (taken_side f)) words area) area d)

  -- ---- the ledger that it enters is the one of its file

  pub on_same : (j : ℕ) → is_on channel unit (ledgers j) ≡ serves channel unit (file_at s j)
  on_same j = go (file_at s j).opened refl
    where
      go : (t : Bool) → (file_at s j).opened ≡ t → is_on channel unit (ledgers j) ≡ serves channel unit (file_at s j)
      go true o =
          let C = (K.told j).chose o in
          ap (λ (b : Bool). b && (eqb (ledgers j).chosen.channel channel && eqb (ledgers j).chosen.unit unit)) (K.told j).opened
          ∙ ap₂ (λ (a b : ℕ). (file_at s j).opened && (eqb a channel && eqb b unit)) C.on_channel C.on_unit
      go false o =
          ap (λ (b : Bool). b && (eqb (ledgers j).chosen.channel channel && eqb (ledgers j).chosen.unit unit)) ((K.told j).opened ∙ o)
          ∙ sym (ap (λ (b : Bool). b && (eqb (file_at s j).channel channel && eqb (file_at s j).unit unit)) o)

  abbrev pub noting : ℕ → Ledger
  noting j = cond (is_on channel unit (ledgers j)) (with_report words (answer_of s area (report channel unit outcome len words)) (ledgers j)) (ledgers j)

  noting_here : noting i ≡ with_report words (answer_of s area (report channel unit outcome len words)) (ledgers i)
  noting_here = cond_true _ (ledgers i) (on_same i ∙ (report_books_own s area channel unit outcome len words K.good.sixteen z).bound)

  noting_other : (j : ℕ) → j ≢ i → noting j ≡ ledgers j
  noting_other j ne =
      cond_false (with_report words (answer_of s area (report channel unit outcome len words)) (ledgers j)) (ledgers j)
      (go (serves channel unit (file_at s j)) refl)
    where
      go : (t : Bool) → serves channel unit (file_at s j) ≡ t → is_on channel unit (ledgers j) ≡ false
      go true e = absurd (ne ((report_books_own s area channel unit outcome len words K.good.sixteen z).only j e))
      go false e = on_same j ∙ e

  pub report_kept : Kept (report_by s area channel unit outcome len words).state (report_by_area s area channel unit outcome len words) noting
  unfolding answer_of report_by
  report_kept =
      let t = (report_by s area channel unit outcome len words).state in
      let zs = report_by_area s area channel unit outcome len words in
      let F = report_frame s area channel unit outcome len words in
      kept_file s t area zs ledgers noting K (call_kept s area K.good (report channel unit outcome len words)) i F.words F.files noting_other
      still
      (subst (λ (h : File). Told s.w h zs (noting i)) (sym after_file)
      (subst (Told s.w (report_change s area channel unit outcome len words).file zs) (sym noting_here)
      (subst (λ (x : ReportChange). Told s.w x.file zs
      (plus L (eqb x.result 3) (as_block (part_of x.start x.count zs)) (came_by (failed_by x.result) (cond (not (is_repeat x.result)) words []))
      (owed_for L.chosen.sequence L.chosen.check (failed_by x.result) (told_by x.delivery) (cond (not (is_repeat x.result)) words [])))) (sym change)
      (subst (λ (e : Checked). Told s.w (reported_file effect f (length words) (delivery_check effect f words)) zs
      (plus L (eqb (result_number (position_at c unit) (judge_of c unit outcome len)) 3) (as_block (part_of (shown_start effect s.w f) (shown_count effect f) zs)) (came_by (failed_by result) kept)
      (owed_for L.chosen.sequence L.chosen.check (failed_by result) e kept))) (sym told_delivery_lem)
      (subst (λ (mark : Bool). Told s.w (reported_file effect f (length words) (delivery_check effect f words)) zs
      (plus L mark (as_block (part_of (shown_start effect s.w f) (shown_count effect f) zs)) (came_by (failed_by result) kept)
      (owed_for L.chosen.sequence L.chosen.check (failed_by result) (delivery_check effect f words) kept))) (sym met)
      (subst (λ (ys : List ℕ). Told s.w (reported_file effect f (length words) (delivery_check effect f words)) ys
      (plus L (meets effect) (as_block (part_of (shown_start effect s.w f) (shown_count effect f) ys)) (came_by (failed_by result) kept)
      (owed_for L.chosen.sequence L.chosen.check (failed_by result) (delivery_check effect f words) kept))) (sym after_area)
      (told_reported effect refl)))))))

  -- words with a report that answers its request are a delivered block
  pub report_brings : words ≢ [] → is_repeat (report_by s area channel unit outcome len words).result ≡ false → is_delivery effect ≡ true
  unfolding report_by
  report_brings some ended = go (is_delivery effect) refl
    where
      go : (t : Bool) → is_delivery effect ≡ t → t ≡ true
      go true d = refl
      go false d =
          let ends : is_repeat result ≡ false = ap (λ (x : ReportChange). is_repeat x.result) (sym change) ∙ ended in
          absurd (some (sym (cond_true words [] (ap not ends)) ∙ no_words d))

  -- what a report that answers its request tells of the block is the judgement of the words as delivered, with the number that the block is due
  pub report_judged : words ≢ [] → is_repeat (report_by s area channel unit outcome len words).result ≡ false
      → (report_by s area channel unit outcome len words).delivery ≡ Some (judged_block words f.sequence f.check (number_after 1 L.came)).found
  unfolding report_by
  report_judged some ended =
      let d = report_brings some ended in
      let D = report_delivers s area channel unit outcome len words K.good.sixteen number d in
      ap (λ (x : ReportChange). x.delivery) change ∙ cond_true (Some (delivery_check effect f words)) None d
      ∙ ap Some (cond_true (judged_block words f.sequence f.check f.block).found unchecked d)
      ∙ ap (λ (n : ℕ). Some (judged_block words f.sequence f.check n).found)
      ((K.told i).brought open_file (taken_input s.m s.w f S D.side)).number
