-- What an accepted report shows of its file's blocks, by the operation last asked for: the next block, or none. Assumes nothing.
use mathlib.Core.Path.{◌≡◌, refl, sym, ap, ap₂, ◌∙◌}
use mathlib.Core.Logic.{◌≢◌}
use mathlib.Core.Bool.{Bool, true, false, cond, ◌&&◌, ◌||◌}
use mathlib.Core.List.{List, [], ◌∷◌, map}
use Prim.Native.Nat.{ℕ, ◌+◌}
use lib.Dec.{eqb, ltb}
use lib.ListN.{length}
use borrow.Author.Tests.{eqb-true}
use Rattle.area.specs.Parts.{part_of}
use Rattle.area.proofs.Walks.{true_not_false, and_left, and_right}
use Rattle.channel.specs.declared.Op.{Op}
use Rattle.channel.specs.declared.Op.TheVariants.{Read, Write, Mark}
use Rattle.channel.specs.declared.Turn.{Turn}
use Rattle.channel.specs.declared.Channel.{Channel}
use Rattle.channel.specs.Units.{position_at, turn_at, work_of, operation_at}
use Rattle.channel_turns.specs.Turns.{judge_of}
use Rattle.file.specs.declared.Side.{Side}
use Rattle.file.specs.declared.Side.TheVariants.{Neither}
use Rattle.file.specs.declared.File.{File}
use Rattle.file.specs.Slots.{full_words}
use Rattle.file.specs.Sides.{slot_at, start_at, is_side, oldest}
use Rattle.word.specs.CheckWords.{extra}
use Rattle.file_input.proofs.Ages.{Aged, no_block, old, aged}
use Rattle.file_output.specs.Sends.{send_start, send_words}
use Rattle.pool.specs.Serving.{serves}
use Rattle.state.specs.declared.State.{State}
use Rattle.state.specs.Places.{file_at, channel_at}
use Rattle.state_sound.specs.Requests.{requested, is_write_op, is_write}
use Rattle.call_request.specs.declared.Effect.{Effect}
use Rattle.call_request.specs.declared.Effect.TheVariants.{Delivers, MeetsMark, GivesBack, Sends, Keeps}
use Rattle.call_request.specs.declared.ReportChange.{ReportChange}
use Rattle.call_request.specs.Ask.{op_of}
use Rattle.call_request.specs.Report.{effect_at, shown_start, shown_count, reported_area}
use Rattle.pack_request.specs.Calls.{file_of, report_by, report_by_area}
use Rattle.pack_request.proofs.ReportTheorems.{Booked, again, ended, booked, report_books_own}
use Rattle.pack_request.proofs.ReportWords.{is_sending, sends_exactly}
use Rattle.demands_ledger.specs.Ledgers.{Ledger, is_on}
use Rattle.demands_ledger.specs.Blocks.{block_in, blocks_in}
use Rattle.demands_ledger.proofs.Frames.{Kept}
use Rattle.demands_ledger.proofs.Reported.{ready, sending, after_area, change, on_same}
use Rattle.demands_ledger.proofs.Asks.{Asked}
use Rattle.std.specs.declared.option.Option.TheVariants.{Some}

-- ---- the block that a write sends is the first in line

pub sent_first : (w : ℕ) (f : File) (xs : List ℕ) → is_side (oldest f) ≡ true
    → (rest : List (List ℕ)) × (blocks_in w f xs ≡ part_of (send_start w f) (send_words f) xs ∷ rest)
unfolding send_start send_words
sent_first w f xs full = go (oldest f) (aged f) full
  where
    go : (k : Side) → Aged f k → is_side k ≡ true
        → (rest : List (List ℕ)) × (blocks_in w f xs ≡ part_of (start_at f w k) (full_words (slot_at f k) + extra f.sequence f.check) xs ∷ rest)
    go Neither (no_block e) s = true_not_false s refl
    go k (old _ n at e rest s x l gone moved) t = (
      map (block_in w (extra f.sequence f.check) xs) rest,
      ap (map (block_in w (extra f.sequence f.check) xs)) l
          ∙ ap (λ (i : ℕ). part_of (start_at f w k) (i + extra f.sequence f.check) xs ∷ map (block_in w (extra f.sequence f.check) xs) rest)
          (sym (ap full_words x)),
    )

-- ---- the numbers of the operations

asks_write : (n : ℕ) → n ≡ 1 → is_write_op (op_of n) ≡ true
unfolding op_of
asks_write n e = ap (λ (i : ℕ). is_write_op (op_of i)) e

asks_other : (n : ℕ) → n ≢ 1 → is_write_op (op_of n) ≡ false
unfolding op_of
asks_other n ne = go (eqb n 0) (eqb n 1) refl
  where
    go : (a b : Bool) → eqb n 1 ≡ b → is_write_op (cond a Read (cond b Write Mark)) ≡ false
    go true b e = refl
    go false true e = absurd (ne (eqb-true n 1 e))
    go false false e = refl

-- nothing is shown but what a write sends
shows_none : (x : Effect) (w : ℕ) (f : File) (xs : List ℕ) → is_sending x ≡ false → part_of (shown_start x w f) (shown_count x f) xs ≡ []
shows_none (Delivers failed) w f xs e = refl
shows_none MeetsMark w f xs e = refl
shows_none GivesBack w f xs e = refl
shows_none Sends w f xs e = true_not_false refl e
shows_none Keeps w f xs e = refl

shows_sent : (x : Effect) (w : ℕ) (f : File) (xs words : List ℕ) → is_sending x ≡ true
    → part_of (shown_start x w f) (shown_count x f) (reported_area x f w words xs) ≡ part_of (send_start w f) (send_words f) xs
unfolding reported_area
shows_sent (Delivers failed) w f xs words e = true_not_false e refl
shows_sent MeetsMark w f xs words e = true_not_false e refl
shows_sent GivesBack w f xs words e = true_not_false e refl
shows_sent Sends w f xs words e = refl
shows_sent Keeps w f xs words e = true_not_false e refl

-- ---- an accepted report

module _ (s : State) (area : List ℕ) (ledgers : ℕ → Ledger) (K : Kept s area ledgers) (A : Asked s ledgers) (channel unit outcome len : ℕ)
    (words : List ℕ) (z : (report_by s area channel unit outcome len words).refusal ≡ 0) where
  abbrev i : ℕ
  i = file_of s channel unit

  abbrev f : File
  f = file_at s i

  abbrev c : Channel
  c = channel_at s channel

  bound : serves channel unit (file_at s (file_of s channel unit)) ≡ true
  bound = (report_books_own s area channel unit outcome len words K.good.sixteen z).bound

  -- the file that is open on its unit, by its ledger
  pub on_file : (j : ℕ) → is_on channel unit (ledgers j) ≡ true → j ≡ file_of s channel unit
  on_file j e =
      (report_books_own s area channel unit outcome len words K.good.sixteen z).only j
      (sym (on_same s area ledgers K channel unit outcome len words z j) ∙ e)

  on_request : (op : Op) → requested (turn_at c unit) ≡ Some op → op ≡ op_of (ledgers i).asked
  on_request op r =
      let on_channel_lem = eqb-true f.channel channel (and_left (eqb f.channel channel) _ (and_right f.opened _ bound)) in
      let on_unit_lem = eqb-true f.unit unit (and_right (eqb f.channel channel) _ (and_right f.opened _ bound)) in
      A i (and_left f.opened _ bound) op
      (ap (λ (n : ℕ). requested (turn_at (channel_at s n) f.unit)) on_channel_lem ∙ ap (λ (n : ℕ). requested (turn_at c n)) on_unit_lem ∙ r)

  -- a write is worked for exactly if one was asked for
  writes : is_write (operation_at c unit) ≡ is_write_op (op_of (ledgers i).asked)
  unfolding operation_at
  writes = let R = ready s area ledgers K channel unit outcome len words z in go (booked c unit outcome len R.works R.allowed)
    where
      go : Booked c unit outcome len → is_write (operation_at c unit) ≡ is_write_op (op_of (ledgers i).asked)
      go (again r q t j) = ap (λ (x : Turn). is_write (work_of x)) t ∙ ap is_write_op (on_request r.op (ap requested t))
      go (ended r e t j) = ap (λ (x : Turn). is_write (work_of x)) t ∙ ap is_write_op (on_request r.op (ap requested t))

  pub write_full : (ledgers i).asked ≡ 1 → (f.output ≡ true) × (is_side (oldest f) ≡ true)
  write_full e = sending s area ledgers K channel unit outcome len words z (writes ∙ asks_write (ledgers i).asked e)

  abbrev result : ℕ
  result = (report_by s area channel unit outcome len words).result

  abbrev shown : List ℕ
  shown =
      part_of (report_by s area channel unit outcome len words).start (report_by s area channel unit outcome len words).count
      (report_by_area s area channel unit outcome len words)

  sends : is_sending (effect_at c unit outcome len (length words)) ≡ (is_write_op (op_of (ledgers i).asked) && (eqb result 1 || eqb result 4))
  unfolding report_by
  sends =
      sends_exactly (ltb 0 (length words)) (operation_at c unit) (position_at c unit) (judge_of c unit outcome len)
      ∙ ap₂ (λ (b : Bool) (n : ℕ). b && (eqb n 1 || eqb n 4)) writes
      (sym (ap (λ (x : ReportChange). x.result) (change s area ledgers K channel unit outcome len words z)))

  shown_is : shown ≡ part_of (shown_start (effect_at c unit outcome len (length words)) s.w f) (shown_count (effect_at c unit outcome len (length words)) f)
      (report_by_area s area channel unit outcome len words)
  unfolding report_by
  shown_is =
      ap (λ (x : ReportChange). part_of x.start x.count (report_by_area s area channel unit outcome len words))
      (change s area ledgers K channel unit outcome len words z)

  -- "if it ends a write with 01 or 04, the block's words"
  pub shown_out : (ledgers i).asked ≡ 1 → (eqb result 1 || eqb result 4) ≡ true → shown ≡ part_of (send_start s.w f) (send_words f) area
  shown_out e h =
      shown_is ∙ ap (part_of (shown_start (effect_at c unit outcome len (length words)) s.w f) (shown_count (effect_at c unit outcome len (length words)) f))
      (after_area s area ledgers K channel unit outcome len words z)
      ∙ shows_sent (effect_at c unit outcome len (length words)) s.w f area words
      (sends ∙ ap₂ (λ (a b : Bool). a && b) (asks_write (ledgers i).asked e) h)

  shown_none : (is_write_op (op_of (ledgers i).asked) && (eqb result 1 || eqb result 4)) ≡ false → shown ≡ []
  shown_none h = shown_is ∙ shows_none (effect_at c unit outcome len (length words)) s.w f (report_by_area s area channel unit outcome len words) (sends ∙ h)

  pub shown_other : (ledgers i).asked ≢ 1 → shown ≡ []
  shown_other ne = shown_none (ap (λ (b : Bool). b && (eqb result 1 || eqb result 4)) (asks_other (ledgers i).asked ne))

  pub shown_again : (ledgers i).asked ≡ 1 → (eqb result 1 || eqb result 4) ≡ false → shown ≡ []
  shown_again e h = shown_none (ap₂ (λ (a b : Bool). a && b) (asks_write (ledgers i).asked e) h)
