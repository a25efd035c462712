-- The promises of ask: refused exactly by its table, a sound state kept, nothing else touched, one event of its channel. Assumes nothing.
use mathlib.Core.Path.{◌≡◌, refl, sym, ap, ◌∙◌}
use mathlib.Core.Bool.{Bool, true, false, not, ◌&&◌, ◌||◌}
use mathlib.Core.Option.{none, some}
use Prim.Native.Nat.{ℕ}
use native.Mathlib.Decide.{ℕ_discrete}
use native.Mathlib.Omega.{arith}
use lib.Dec.{ltb}
use Rattle.area.proofs.Walks.{true_not_false, and_both, or_left, or_right, or_neither}
use Rattle.area.proofs.Lowest.{lowest_none}
use Rattle.area.proofs.Exactly.{exactly}
use Rattle.area.specs.Refusals.{Rows, lowest, Exactly}
use Rattle.channel.specs.declared.Turn.{Turn}
use Rattle.channel.specs.declared.Turn.TheVariants.{Idle, Waiting, Displaced, Working}
use Rattle.channel.specs.declared.Channel.{Channel}
use Rattle.channel_turns.specs.declared.Asked.{Asked}
use Rattle.channel.specs.Units.{declared_at, turn_at, is_idle, has_request, accepts_at}
use Rattle.channel_turns.specs.Scans.{working_in, unit_number}
use Rattle.channel_theorems.specs.History.{station, ask, accepted, step_to, ask_step, step}
use Rattle.channel_theorems.specs.Lifted.{Agrees}
use Rattle.channel_turns.proofs.Laws.Starts as turns
use Rattle.file.specs.declared.File.{File}
use Rattle.file_input.specs.Delivers.{has_empty, has_full}
use Rattle.file_output.specs.Sends.{has_unsent}
use Rattle.state_sound.specs.Files.{taken_count}
use Rattle.area.specs.Lists.{one_if}
use Rattle.routines.specs.declared.Naming.{Naming}
use Rattle.routines.specs.Posts.{naming_wrong, due_of}
use Rattle.routines.proofs.Laws.Facts.{named_right_lem}
use Rattle.state.specs.declared.State.{State}
use Rattle.state.specs.Places.{file_at, channel_at}
use Rattle.state.specs.Stores.{with_file, with_channel, with_routines}
use Rattle.state_sound.specs.Requests.{requested, is_read}
use Rattle.state_sound.specs.Soundness.{sound}
use Rattle.state_sound.proofs.Facts.{SoundFacts, sound_facts, facts_sound}
use Rattle.state_sound.proofs.ChannelCalls.{ask_moved_lem}
use Rattle.state_sound.proofs.Kept.{line_of, place_of}
use Rattle.state_sound.proofs.RoutinesKept.{asked_beside}
use Rattle.call_request.specs.declared.AskChange.{AskChange}
use Rattle.pack_request.specs.declared.Asking.{Asking}
use Rattle.call_request.specs.Ask.{is_reading, is_writing, is_marking, is_priority, op_of, ask_rows, ask_refusal, asked_file, asked_channel, ask_on}
use Rattle.pack_request.specs.Calls.{ask_wrong, ask_waits, asked_all, ask_by}
use Rattle.call_request.proofs.AskFound.{ask_refused, ask_taken}
use Rattle.pack_request.proofs.Ready.{not_false, ready_facts, kind, asked_file_lem}
use Rattle.pack_request.proofs.Changed.{Frame, changed_refused, changed_taken, changed_frame, here_file, here_channel, became_sound}
use Rattle.std.specs.declared.option.Option.TheVariants.{Some}

-- ---- what an accepted ask found

pub record AskReady (wrong : Bool) (f : File) (c : Channel) (op priority : ℕ) (naming : Naming) (waits : Bool) : Type 0 where
  pub right : wrong ≡ false
  pub range : (ltb 2 op || ltb 1 priority) ≡ false
  pub level : naming_wrong naming ≡ false
  pub is_open : f.opened ≡ true
  pub way : ((is_reading op && f.output) || ((is_writing op || is_marking op) && not f.output)) ≡ false
  pub quiet : has_request c f.unit ≡ false
  pub free : waits ≡ false
  pub buffer : ((is_reading op && not (has_empty f)) || (is_writing op && not (has_full f))) ≡ false
  pub unmarked : (is_reading op && f.marked) ≡ false
  pub sent : (is_marking op && has_unsent f) ≡ false

pub ask_ready : (wrong : Bool) (f : File) (c : Channel) (op priority : ℕ) (naming : Naming) (waits : Bool) → ask_refusal wrong f c op priority naming waits ≡ 0
    → AskReady wrong f c op priority naming waits
unfolding ask_refusal
ask_ready wrong f c op priority naming waits z =
    let a = lowest_none 1 (wrong || (ltb 2 op || (ltb 1 priority || naming_wrong naming))) _ (λ q. omega arith) z in
    let b = lowest_none 5 (not f.opened) _ (λ q. omega arith) a.1 in
    let d = lowest_none 6 _ _ (λ q. omega arith) b.1 in
    let e = lowest_none 8 (has_request c f.unit || waits) _ (λ q. omega arith) d.1 in
    let g = lowest_none 9 _ _ (λ q. omega arith) e.1 in
    let h = lowest_none 10 _ _ (λ q. omega arith) g.1 in
    let k = lowest_none 15 _ _ (λ q. omega arith) h.1 in
    let n = or_right wrong _ a.0 in
    let l = or_right (ltb 2 op) _ n in
    record {
      right = or_left wrong _ a.0;
      range = or_neither (ltb 2 op) (ltb 1 priority) (or_left (ltb 2 op) _ n) (or_left (ltb 1 priority) _ l);
      level = or_right (ltb 1 priority) _ l;
      is_open = not_false f.opened b.0;
      way = d.0;
      quiet = or_left (has_request c f.unit) waits e.0;
      free = or_right (has_request c f.unit) waits e.0;
      buffer = g.0;
      unmarked = h.0;
      sent = k.0;
    }

-- ---- the call on a state

module _ (s : State) (file op priority : ℕ) (naming : Naming) where
  abbrev f : File
  f = file_at s file

  abbrev c : Channel
  c = channel_at s f.channel

  abbrev rows : Rows
  rows = ask_rows (ask_wrong s file) f c op priority naming (ask_waits s file)

  abbrev asked : Asking
  asked = ask_by s file op priority naming

  abbrev refusal : ℕ
  refusal = ask_refusal (ask_wrong s file) f c op priority naming (ask_waits s file)

  taken_change : refusal ≡ 0 → (ask_on (ask_wrong s file) f c op priority naming (ask_waits s file) s.frozen).refusal ≡ 0
  taken_change z = ap (λ (x : AskChange). x.refusal) (ask_taken (ask_wrong s file) f c op priority naming (ask_waits s file) s.frozen refusal refl z)

  refused_change_lem : (refusal ≡ 0 → ⊥) → (ask_on (ask_wrong s file) f c op priority naming (ask_waits s file) s.frozen).refusal ≡ refusal
  refused_change_lem h = ap (λ (x : AskChange). x.refusal) (ask_refused (ask_wrong s file) f c op priority naming (ask_waits s file) s.frozen refusal refl h)

  ask_number_lem : asked.refusal ≡ refusal
  unfolding ask_by
  ask_number_lem = go (ℕ_discrete refusal 0)
    where
      go : Dec (refusal ≡ 0) → (ask_on (ask_wrong s file) f c op priority naming (ask_waits s file) s.frozen).refusal ≡ refusal
      go (yes z) = taken_change z ∙ sym z
      go (no h) = refused_change_lem h

  -- what an accepted ask leads to
  ask_state : refusal ≡ 0 → asked.state ≡ with_routines (with_file (with_channel s f.channel (asked_channel f c op priority s.frozen)) file (asked_file op f)) (asked_all s file naming)
  unfolding ask_by
  ask_state z =
      let e = ask_taken (ask_wrong s file) f c op priority naming (ask_waits s file) s.frozen refusal refl z in
      changed_taken s file f.channel _ _ _ _ (taken_change z)
      ∙ ap (λ (x : AskChange). with_routines (with_file (with_channel s f.channel x.channel) file x.file) (asked_all s file naming)) e

  -- refused: the number alone, and the state that was passed
  ask_alone_lem : (refusal ≡ 0 → ⊥) → (asked.state ≡ s) × (asked.working ≡ 0)
  unfolding ask_by
  ask_alone_lem h = (
    changed_refused s file f.channel _ _ _ _ (λ z. h (sym (refused_change_lem h) ∙ z)),
    ap (λ (x : AskChange). x.working) (ask_refused (ask_wrong s file) f c op priority naming (ask_waits s file) s.frozen refusal refl h),
  )

  -- "Given exactly when": refused with a number exactly if its row applies and no lower one does; a refusal changes nothing
  pub record AskExactly : Type 0 where
    pub number : asked.refusal ≡ lowest rows
    pub table : Exactly rows
    pub alone : (asked.refusal ≡ 0 → ⊥) → (asked.state ≡ s) × (asked.working ≡ 0)

  pub ask_exactly : AskExactly
  unfolding ask_refusal
  ask_exactly = record { number = ask_number_lem; table = exactly rows refl; alone = λ h. ask_alone_lem (λ z. h (ask_number_lem ∙ z)) }

  -- what is not named is not touched: every other file and every channel but the file's own
  pub ask_frame : Frame s asked.state file f.channel
  unfolding ask_by
  ask_frame = changed_frame s file f.channel _ _ _ _

  module _ (z : refusal ≡ 0) where
    found : AskReady (ask_wrong s file) f c op priority naming (ask_waits s file)
    found = ask_ready (ask_wrong s file) f c op priority naming (ask_waits s file) z

    pub ask_was_sound : sound s ≡ true
    ask_was_sound = not_false (sound s) (or_left (not (sound s)) _ found.right)

    facts : SoundFacts s
    facts = sound_facts s ask_was_sound

    accepts : accepts_at c f.unit ≡ true
    unfolding accepts_at has_request
    accepts = and_both (declared_at c f.unit) _ (facts.declared file found.is_open) (not_false (is_idle (turn_at c f.unit)) found.quiet)

    none_taken : taken_count f ≡ 0
    unfolding has_request
    none_taken = (ready_facts _ f (facts.ready file found.is_open)).taken ∙ quiet_turn (turn_at c f.unit) (not_false (is_idle (turn_at c f.unit)) found.quiet)
      where
        quiet_turn : (t : Turn) → is_idle t ≡ true → one_if (is_read (requested t)) ≡ 0
        quiet_turn Idle e = refl
        quiet_turn (Waiting q) e = true_not_false e refl
        quiet_turn (Displaced q) e = true_not_false e refl
        quiet_turn (Working q) e = true_not_false e refl

    after_facts : SoundFacts (with_routines (with_file (with_channel s f.channel (asked_channel f c op priority s.frozen)) file (asked_file op f)) (asked_all s file naming))
    unfolding asked_channel
    after_facts =
        let moved = ask_moved_lem s.m c f.unit s.frozen (facts.channels f.channel) (op_of op) (is_priority priority) accepts in
        became_sound s file f.channel f.unit _ _ (Some (op_of op)) (asked_all s file naming) facts found.is_open refl refl moved
        (asked_file_lem s.m s.w f op (facts.files file found.is_open) none_taken
        (kind f op (or_left (ltb 2 op) _ found.range) found.way found.buffer found.unmarked found.sent))
        (asked_beside s f.channel f.unit _ (Some (op_of op)) facts (line_of s facts file found.is_open) moved (due_of naming) refl found.free
        (named_right_lem naming.given naming.level naming.routine))

    asked_channel_lem : channel_at asked.state f.channel ≡ asked_channel f c op priority s.frozen
    unfolding ask_by
    asked_channel_lem =
        here_channel s file f.channel _ _ _ _ (taken_change z) (line_of s facts file found.is_open)
        ∙ ap (λ (x : AskChange). x.channel) (ask_taken (ask_wrong s file) f c op priority naming (ask_waits s file) s.frozen refusal refl z)

    asked_event : Agrees (station c s.frozen) (some (record { event = ask f.unit (op_of op) (is_priority priority); answer = accepted }))
        (station (channel_at asked.state f.channel) asked.state.frozen)
    unfolding step asked_channel
    asked_event =
        let t = turns.ask_taken c f.unit (op_of op) (is_priority priority) s.frozen true (sym accepts) refl in
        ap (ask_step s.frozen) t
        ∙ ap (λ (d : Channel). step_to accepted (station d s.frozen)) (sym (asked_channel_lem ∙ ap (λ (a : Asked). a.channel) t))
        ∙ ap (λ (b : Bool). step_to accepted (station (channel_at asked.state f.channel) b)) (sym ask_frame.frozen)

  -- from a sound state the state after is sound
  pub ask_kept : sound s ≡ true → sound asked.state ≡ true
  ask_kept h = go (ℕ_discrete refusal 0)
    where
      go : Dec (refusal ≡ 0) → sound asked.state ≡ true
      go (yes z) = ap sound (ask_state z) ∙ facts_sound _ (after_facts z)
      go (no n) = ap sound (ask_alone_lem n).0 ∙ h

  -- an accepted ask is one event of the file's channel, accepted there too; every other call on it is none (`ask_exactly`, `ask_frame`)
  pub ask_event_lem : asked.refusal ≡ 0 → Agrees (station c s.frozen) (some (record { event = ask f.unit (op_of op) (is_priority priority); answer = accepted }))
      (station (channel_at asked.state f.channel) asked.state.frozen)
  ask_event_lem z = asked_event (sym ask_number_lem ∙ z)

  -- the file after it, and the working unit that it adds
  pub ask_file : asked.refusal ≡ 0 → file_at asked.state file ≡ asked_file op f
  unfolding ask_by
  ask_file z =
      let n = sym ask_number_lem ∙ z in
      here_file s file f.channel _ _ _ _ (taken_change n) (place_of s file (found n).is_open)
      ∙ ap (λ (x : AskChange). x.file) (ask_taken (ask_wrong s file) f c op priority naming (ask_waits s file) s.frozen refusal refl n)

  pub ask_working : asked.refusal ≡ 0 → asked.working ≡ unit_number (working_in (channel_at asked.state f.channel))
  unfolding ask_by
  ask_working z =
      let n = sym ask_number_lem ∙ z in
      ap (λ (x : AskChange). x.working) (ask_taken (ask_wrong s file) f c op priority naming (ask_waits s file) s.frozen refusal refl n)
      ∙ ap (λ (d : Channel). unit_number (working_in d)) (sym (asked_channel_lem n))

  -- the request of its unit names the routine, and nothing else of the routines changes
  pub ask_routines : asked.refusal ≡ 0 → asked.state.routines ≡ asked_all s file naming
  unfolding with_routines
  ask_routines z = ap (λ (t : State). t.routines) (ask_state (sym ask_number_lem ∙ z))
