-- The roster of a history is what the state holds, after every call; and what each accepted call looks at and enters. Assumes nothing.
use mathlib.Core.Path.{◌≡◌, refl, sym, ap, subst, ◌∙◌}
use mathlib.Core.Bool.{Bool, true, false, cond, ◌&&◌}
use mathlib.Core.Option.{Option, none, some}
use mathlib.Core.List.{List, [], ◌∷◌}
use Prim.Native.Nat.{ℕ, zero, suc}
use native.Mathlib.Decide.{ℕ_discrete}
use native.Mathlib.Omega.{arith}
use borrow.Author.Tests.{eq-eqb, ne_eqb}
use lib.ListN.{length, get_or, replicate, length-map}
use Rattle.area.specs.Refusals.{lowest}
use Rattle.area.proofs.Walks.{by_test, and_left, and_right}
use Rattle.channel.specs.declared.Channel.{Channel}
use Rattle.channel.specs.Units.{unit_count, channel_count, size, fresh_with, bits_from, fresh_of}
use Rattle.channel_turns.specs.Starts.{thaw_of}
use Rattle.channel_theorems.specs.History.{Station, step_to}
use Rattle.channel_theorems.specs.Lifted.{Shown, Agrees}
use Rattle.channel_theorems.proofs.Theorems.Turning.{declared_inside}
use Rattle.channel_theorems.proofs.Theorems.Calls.{Took, took}
use Rattle.channel_theorems.proofs.Theorems.Fresh.{units_step}
use Rattle.routines.specs.declared.Naming.{Naming}
use Rattle.routines.specs.declared.Program.{Program}
use Rattle.routines.specs.declared.Routines.{Routines}
use Rattle.routines.specs.Ranks.{is_due}
use Rattle.routines.specs.Waits.{is_unit}
use Rattle.routines.specs.Schedule.{none_runs}
use Rattle.routines.specs.Right.{programs_right}
use Rattle.routines.specs.Posts.{post_at, waits_of, with_post}
use Rattle.routines.specs.Changes.{made_due_in, looked_in, answered_in, gave_back_in}
use Rattle.state.specs.declared.State.{State}
use Rattle.state.specs.Places.{no_channel, before_start, file_at, channel_in, channel_at}
use Rattle.state.specs.Stores.{with_routines}
use Rattle.state_sound.specs.Soundness.{sound}
use Rattle.state_sound.proofs.Facts.{SoundFacts, sound_facts}
use Rattle.state_sound.proofs.Kept.{line_of}
use Rattle.call_request.specs.Ask.{ask_refusal}
use Rattle.call_request.specs.Named.{reported_routines}
use Rattle.pack_start.specs.declared.Masks.{Masks}
use Rattle.pack_start.specs.Fresh.{fresh_state}
use Rattle.pack_start.specs.Freeze.{frozen_state, thawed_state}
use Rattle.pack_start.proofs.FreshTheorems.{fresh_accepted}
use Rattle.pack_start.proofs.FreezeTheorems.{freeze_state, thaw_state}
use Rattle.pack_open.proofs.OpenTheorems.{open_frame}
use Rattle.pack_open.proofs.CloseTheorems.{close_frame}
use Rattle.pack_request.specs.Calls.{ask_wrong, ask_waits}
use Rattle.pack_request.proofs.AskTheorems.{AskReady, ask_ready, ask_exactly, ask_frame, ask_routines}
use Rattle.pack_request.proofs.ReportTheorems.{report_frame, report_routines}
use Rattle.pack_routine.specs.declared.Ran.{Ran}
use Rattle.pack_routine.specs.Ons.{running_rows}
use Rattle.pack_routine.specs.Calls.{ran_in, return_by, running_by}
use Rattle.pack_routine.proofs.OnLaws.{back_change}
use Rattle.pack_routine.proofs.Theorems.{return_some, return_done_as, return_frame, running_exactly, running_tells, running_state}
use Rattle.pack_record.proofs.GetTheorems.{get_frame}
use Rattle.pack_record.proofs.SkipTheorems.{skip_frame}
use Rattle.pack_record.proofs.PutTheorems.{put_frame}
use Rattle.pack_record.proofs.SealTheorems.{seal_frame}
use Rattle.pack.specs.Calls.{Call, fresh, opening, close, ask, report, get, put, seal, skip, freeze, thaw, return, running, Answer, answer_of}
use Rattle.pack.specs.Histories.{Lent, answer_to, after, is_accepted, is_answer}
use Rattle.pack.proofs.Refused.{call_alone_lem}
use Rattle.pack.proofs.Kept.{Good, call_kept}
use Rattle.pack.proofs.Seen.{seen, call_agrees}
use Rattle.pack.proofs.Booking.{shows_start}
use Rattle.demands.specs.Routines.{told_program, runs_in, told_entry, another, Roster, blank_roster, named_by, with_name, with_due, with_freeze, with_look, with_return, makes_due, readied, rostered, rostered_at, roster_after}
use Rattle.demands.proofs.Looks.{Looked, stays, looked, gave_back_lem}
use Rattle.demands.proofs.Beside.{reported_idle}
use Rattle.demands.proofs.Listed.{Lists, lists_none, unit_is, ask_lists, due_lists, look_lists, LookEnters, look_enters, back_entry, back_lists}

pub record Noted (s : State) (r : Roster) : Type 0 where
  pub lists : Lists r s.routines
  pub frozen : r.frozen ≡ s.frozen
  pub lines : length s.channels ≡ channel_count
  pub long : (c : ℕ) → size (channel_at s c) ≡ unit_count

-- ---- what the pack answers is what runs

pub running_taken : (s : State) → sound s ≡ true → (running_by s).refusal ≡ 0
unfolding running_rows lowest
running_taken s h = (running_exactly s).0 ∙ rw h

pub runs_is : (s : State) → sound s ≡ true → runs_in s ≡ s.routines.programs.running
unfolding answer_of
runs_is s h = ap (λ (x : Ran). x.program) (running_tells s (running_taken s h))

-- ---- a channel has the units that it had

size_agrees : (x : Option Shown) (k d : Station) → Agrees k x d → size d.channel ≡ size k.channel
size_agrees none k d e = ap (λ (y : Station). size y.channel) e
size_agrees (some x) k d e = (units_step k x.event (step_to x.answer d) (subst (Took k x.event) e (took k x.event))).long

-- ---- a look in a call: what it looks at, and the routines afterwards

pub record Look (s t : State) (q : Roster) : Type 0 where
  pub from : Routines
  pub frozen : Bool
  pub lists : Lists q from
  pub right : programs_right from.programs ≡ true
  pub view : Looked from frozen t.routines
  pub is_frozen : frozen ≡ t.frozen
  pub before : runs_in s ≡ from.programs.running

look_frozen : (before : Program) (o : Option Program) (q : Roster) → (with_look before o q).frozen ≡ q.frozen
look_frozen before none q = refl
look_frozen before (some p) q = refl

pub look_after : (s t : State) (q : Roster) → sound t ≡ true → Look s t q → Lists (with_look (runs_in s) (another (runs_in s) (runs_in t)) q) t.routines
look_after s t q h K =
    let b = K.from.programs.running in
    subst (λ (p : Program). Lists (with_look p (another p (runs_in t)) q) t.routines) (sym K.before)
    (subst (λ (p : Program). Lists (with_look b (another b p) q) t.routines) (sym (runs_is t h))
    (look_lists K.from K.frozen q K.lists t.routines K.right K.view))

pub look_entered : (s t : State) (q : Roster) → sound t ≡ true → (K : Look s t q) → (p : Program) → another (runs_in s) (runs_in t) ≡ some p
    → LookEnters K.from K.frozen q K.lists t.routines p
look_entered s t q h K p e =
    look_enters K.from K.frozen q K.lists t.routines p K.view
    (sym (ap (λ (x : Program). another x (runs_in t)) K.before ∙ ap (another K.from.programs.running) (runs_is t h)) ∙ e)

-- ---- a fresh start, and before the first one

pub noted_start : (s : State) (area : List ℕ) (m w : ℕ) (masks : Masks) → (answer_of s area (fresh m w masks)).refusal ≡ 0
    → Noted (answer_of s area (fresh m w masks)).state blank_roster
unfolding answer_of fresh_state
noted_start s area m w masks z = record {
  lists = subst (λ (t : State). Lists blank_roster t.routines) (sym (fresh_accepted s (length area) m w masks z)) lists_none;
  frozen = sym (ap (λ (t : State). t.frozen) (fresh_accepted s (length area) m w masks z));
  lines = ap (λ (t : State). length t.channels) (fresh_accepted s (length area) m w masks z);
  long = λ c. (shows_start c s area m w masks z).long;
}

none_there : (n c : ℕ) → get_or (replicate n no_channel) c no_channel ≡ no_channel
none_there zero c = refl
none_there (suc n) zero = refl
none_there (suc n) (suc c) = none_there n c

none_size : size no_channel ≡ unit_count
unfolding fresh_of fresh_with bits_from
none_size = refl

pub noted_before : Noted before_start blank_roster
unfolding before_start
noted_before = record {
  lists = lists_none;
  frozen = refl;
  lines = refl;
  long = λ c. ap size (none_there channel_count c) ∙ none_size;
}

module _ (s : State) (area : List ℕ) (g : Good s) (r : Roster) (N : Noted s r) where
  abbrev pub then : Call → State
  then call = (answer_of s area call).state

  facts : SoundFacts s
  facts = sound_facts s g.right

  pub list_right : programs_right s.routines.programs ≡ true
  list_right = facts.routines.ready.programs

  right_then : (call : Call) → sound (then call) ≡ true
  right_then call = (call_kept s area g call).right

  -- ---- calls that leave the routines

  quiet : (t : State) (q : Roster) → t.channels ≡ s.channels → t.routines ≡ s.routines → Lists q s.routines → q.frozen ≡ t.frozen → Noted t q
  quiet t q cs e L f = record {
    lists = subst (Lists q) (sym e) L;
    frozen = f;
    lines = ap (λ (xs : List Channel). length xs) cs ∙ N.lines;
    long = λ c. ap (λ (xs : List Channel). size (channel_in xs c)) cs ∙ N.long c;
  }

  -- ---- an ask

  module _ (file op priority : ℕ) (naming : Naming) (z : (answer_of s area (ask file op priority naming)).refusal ≡ 0) where
    abbrev c : ℕ
    c = (file_at s file).channel

    abbrev u : ℕ
    u = (file_at s file).unit

    found : AskReady (ask_wrong s file) (file_at s file) (channel_at s (file_at s file).channel) op priority naming (ask_waits s file)
    unfolding answer_of ask_refusal
    found = ask_ready (ask_wrong s file) (file_at s file) (channel_at s (file_at s file).channel) op priority naming (ask_waits s file) (sym (ask_exactly s file op priority naming).number ∙ z)

    unit : is_unit (waits_of s.routines) (file_at s file).channel (file_at s file).unit ≡ true
    unit =
        let line = line_of s facts file found.is_open in
        let below = declared_inside (channel_at s c) u (facts.declared file found.is_open) in
        unit_is _ _ s.routines facts.routines.ready c u (omega (arith, line, N.lines)) (omega (arith, below, N.long c))

    ask_noted : Noted (then (ask file op priority naming)) (with_name (file_at s file).channel (file_at s file).unit (named_by naming) r)
    unfolding answer_of
    ask_noted = record {
      lists =
          subst (Lists (with_name c u (named_by naming) r)) (sym (ask_routines s file op priority naming z))
          (ask_lists s.routines r c u naming unit found.level N.lists);
      frozen = N.frozen ∙ sym (ask_frame s file op priority naming).frozen;
      lines = (ask_frame s file op priority naming).channel_count ∙ N.lines;
      long = λ k. size_agrees (seen k s area (ask file op priority naming)) _ _ (call_agrees k s area g (ask file op priority naming)) ∙ N.long k;
    }

  -- ---- a report

  module _ (channel unit outcome len : ℕ) (words : List ℕ) (z : (answer_of s area (report channel unit outcome len words)).refusal ≡ 0) where
    abbrev x : Call
    x = report channel unit outcome len words

    abbrev a : Answer
    a = answer_of s area (report channel unit outcome len words)

    abbrev makes : Bool
    makes = makes_due r channel unit (answer_of s area (report channel unit outcome len words))

    names_same : is_due (r.names channel unit) ≡ is_due (post_at s.routines channel unit).named
    names_same = ap is_due (N.lists.names channel unit)

    -- it makes nothing due, and leaves the routines
    pub report_idle : makes_due r channel unit (answer_of s area (report channel unit outcome len words)) ≡ false → (then (report channel unit outcome len words)).routines ≡ s.routines
    unfolding answer_of
    report_idle e =
        report_routines s area channel unit outcome len words z
        ∙ reported_idle s.routines s.frozen channel unit _ (ap (λ (b : Bool). is_answer a.added && b) (sym names_same) ∙ e)

    report_made : makes_due r channel unit (answer_of s area (report channel unit outcome len words)) ≡ true
        → (then (report channel unit outcome len words)).routines ≡ looked_in (made_due_in s.routines channel unit) s.frozen
    unfolding answer_of reported_routines answered_in
    report_made e =
        let answers : is_answer a.added ≡ true = and_left (is_answer a.added) _ e in
        let named : is_due (post_at s.routines channel unit).named ≡ true = sym names_same ∙ and_right (is_answer a.added) _ e in
        report_routines s area channel unit outcome len words z ∙ rw (answers, named)

    report_still : (then (report channel unit outcome len words)).frozen ≡ s.frozen
    unfolding answer_of
    report_still = (report_frame s area channel unit outcome len words).frozen

    pub report_look : Look s (then (report channel unit outcome len words)) (readied s (report channel unit outcome len words) (answer_of s area (report channel unit outcome len words)) r)
    unfolding made_due_in with_post
    report_look =
        by_test (λ b. makes ≡ b → Look s (then (report channel unit outcome len words)) (cond b (with_due channel unit r) r)) makes
        (λ t e. record {
          from = made_due_in s.routines channel unit;
          frozen = s.frozen;
          lists = due_lists s.routines r channel unit (sym names_same ∙ and_right (is_answer a.added) _ e) N.lists;
          right = list_right;
          view = subst (Looked (made_due_in s.routines channel unit) s.frozen) (sym (report_made e)) (looked (made_due_in s.routines channel unit) s.frozen);
          is_frozen = sym report_still;
          before = runs_is s g.right;
        })
        (λ t e. record {
          from = s.routines;
          frozen = s.frozen;
          lists = N.lists;
          right = list_right;
          view = subst (Looked s.routines s.frozen) (sym (report_idle e)) stays;
          is_frozen = sym report_still;
          before = runs_is s g.right;
        }) refl

    -- the freeze is as it was
    report_frozen : (readied s (report channel unit outcome len words) (answer_of s area (report channel unit outcome len words)) r).frozen ≡ r.frozen
    report_frozen = go makes
      where
        go : (b : Bool) → (cond b (with_due channel unit r) r).frozen ≡ r.frozen
        go true = refl
        go false = refl

    report_noted : Noted (then (report channel unit outcome len words)) (rostered s (report channel unit outcome len words) (answer_of s area (report channel unit outcome len words)) r)
    unfolding answer_of
    report_noted = record {
      lists = look_after s (then x) _ (right_then x) report_look;
      frozen = look_frozen (runs_in s) (another (runs_in s) (runs_in (then x))) _ ∙ report_frozen ∙ N.frozen ∙ sym report_still;
      lines = (report_frame s area channel unit outcome len words).channel_count ∙ N.lines;
      long = λ k. size_agrees (seen k s area (report channel unit outcome len words)) _ _ (call_agrees k s area g (report channel unit outcome len words)) ∙ N.long k;
    }

  -- ---- a freeze, a thaw

  freeze_noted : (answer_of s area freeze).refusal ≡ 0 → Noted (then freeze) (with_freeze true r)
  unfolding answer_of frozen_state
  freeze_noted z =
      subst (λ (t : State). Noted t (with_freeze true r)) (sym (freeze_state s z))
      (quiet (frozen_state s) (with_freeze true r) refl refl (record { names = N.lists.names; waits = N.lists.waits; list = N.lists.list }) refl)

  module _ (z : (answer_of s area thaw).refusal ≡ 0) where
    thaw_is : then thaw ≡ thawed_state s
    unfolding answer_of
    thaw_is = thaw_state s z

    pub thaw_frozen : (then thaw).frozen ≡ false
    unfolding thawed_state
    thaw_frozen = ap (λ (t : State). t.frozen) thaw_is

    pub thaw_look : Look s (then thaw) (with_freeze false r)
    unfolding thawed_state
    thaw_look = record {
      from = s.routines;
      frozen = false;
      lists = record { names = N.lists.names; waits = N.lists.waits; list = N.lists.list };
      right = list_right;
      view = subst (Looked s.routines false) (sym (ap (λ (t : State). t.routines) thaw_is)) (looked s.routines false);
      is_frozen = sym thaw_frozen;
      before = runs_is s g.right;
    }

    thaw_noted : Noted (then thaw) (rostered s thaw (answer_of s area thaw) r)
    unfolding thawed_state
    thaw_noted = record {
      lists = look_after s (then thaw) (with_freeze false r) (right_then thaw) thaw_look;
      frozen = look_frozen (runs_in s) (another (runs_in s) (runs_in (then thaw))) (with_freeze false r) ∙ sym thaw_frozen;
      lines = ap (λ (t : State). length t.channels) thaw_is ∙ length-map s.channels thaw_of ∙ N.lines;
      long = λ k. size_agrees (seen k s area thaw) _ _ (call_agrees k s area g thaw) ∙ N.long k;
    }

  -- ---- a return

  module _ (z : (answer_of s area return).refusal ≡ 0) where
    abbrev back : Routines
    back = (gave_back_in s.routines s.frozen).routines

    return_as : return_by s ≡ ran_in s (back_change s.frozen s.routines)
    unfolding answer_of
    return_as = return_done_as s z

    pub some_runs : none_runs s.routines.programs ≡ false
    unfolding answer_of
    some_runs = return_some s z

    pub return_routines : (then return).routines ≡ (gave_back_in s.routines s.frozen).routines
    unfolding answer_of with_routines
    return_routines = ap (λ (x : Ran). x.state.routines) return_as

    pub return_entry : told_entry (answer_of s area return).added ≡ back_entry (gave_back_in s.routines s.frozen).entered (gave_back_in s.routines s.frozen).routines
    unfolding answer_of
    return_entry = ap (λ (x : Ran). cond x.entered (some x.program) none) return_as

    pub return_tells : told_program (answer_of s area return).added ≡ (then return).routines.programs.running
    unfolding answer_of
    return_tells = ap (λ (x : Ran). x.program) return_as ∙ ap (λ (R : Routines). R.programs.running) (sym return_routines)

    return_noted : Noted (then return) (with_return (told_entry (answer_of s area return).added) r)
    unfolding answer_of
    return_noted = record {
      lists =
          subst (λ (o : Option Program). Lists (with_return o r) (then return).routines) (sym return_entry)
          (subst (Lists (with_return (back_entry (gave_back_in s.routines s.frozen).entered back) r)) (sym return_routines)
          (back_lists s.routines s.frozen r N.lists _ back list_right some_runs (gave_back_lem s.routines s.frozen)));
      frozen = kept (told_entry (answer_of s area return).added) ∙ N.frozen ∙ sym (return_frame s).frozen;
      lines = ap (λ (xs : List Channel). length xs) (return_frame s).channels ∙ N.lines;
      long = λ c. ap (λ (xs : List Channel). size (channel_in xs c)) (return_frame s).channels ∙ N.long c;
    }
      where
        kept : (o : Option Program) → (with_return o r).frozen ≡ r.frozen
        kept none = refl
        kept (some p) = refl

  -- ---- every accepted call, and every call

  running_same : then running ≡ s
  unfolding answer_of
  running_same = running_state s

  pub accepted_noted : (call : Call) → (answer_of s area call).refusal ≡ 0 → Noted (answer_of s area call).state (rostered s call (answer_of s area call) r)
  unfolding answer_of
  accepted_noted (fresh m w masks) z = noted_start s area m w masks z
  accepted_noted (opening file channel unit flags size rlen) z =
      let F = open_frame s file channel unit flags size rlen in
      quiet _ r F.channels F.routines N.lists (N.frozen ∙ sym F.frozen)
  accepted_noted (close file) z = let F = close_frame s file in quiet _ r F.channels F.routines N.lists (N.frozen ∙ sym F.frozen)
  accepted_noted (ask file op priority naming) z = ask_noted file op priority naming z
  accepted_noted (report channel unit outcome len words) z = report_noted channel unit outcome len words z
  accepted_noted (get file) z = let F = get_frame s area file in quiet _ r F.1 F.5 N.lists (N.frozen ∙ sym F.4)
  accepted_noted (put file words) z = let F = put_frame s area file words in quiet _ r F.1 F.5 N.lists (N.frozen ∙ sym F.4)
  accepted_noted (seal file) z = let F = seal_frame s area file in quiet _ r F.1 F.5 N.lists (N.frozen ∙ sym F.4)
  accepted_noted (skip file) z = let F = skip_frame s file in quiet _ r F.1 F.5 N.lists (N.frozen ∙ sym F.4)
  accepted_noted freeze z = freeze_noted z
  accepted_noted thaw z = thaw_noted z
  accepted_noted return z = return_noted z
  accepted_noted running z = subst (λ (t : State). Noted t r) (sym running_same) N

  -- a refused call enters no roster and changes nothing
  pub call_noted : (call : Call) → Noted (answer_of s area call).state (rostered_at s (record { call = call; area = area }) r)
  call_noted call = go (ℕ_discrete (answer_of s area call).refusal 0)
    where
      To : Bool → Type 0
      To t = Noted (answer_of s area call).state (cond t (rostered s call (answer_of s area call) r) r)

      go : Dec ((answer_of s area call).refusal ≡ 0) → To (is_accepted (answer_of s area call))
      go (yes z) = subst To (sym (eq-eqb (answer_of s area call).refusal 0 z)) (accepted_noted call z)
      go (no h) =
          subst To (sym (ne_eqb (answer_of s area call).refusal 0 h))
          (subst (λ (x : Answer). Noted x.state r) (sym (call_alone_lem s area call h)) N)

-- ---- every history

pub noted_after : (s : State) (r : Roster) (h : List Lent) → Good s → Noted s r → Noted (after s h) (roster_after s r h)
unfolding after roster_after
noted_after s r [] g N = N
noted_after s r (x ∷ h) g N =
    noted_after (answer_to s x).state (rostered_at s x r) h (call_kept s x.area g x.call) (call_noted s x.area g r N x.call)
