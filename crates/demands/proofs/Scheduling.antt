-- What runs after each accepted call, by the roster. Assumes nothing.
use mathlib.Core.Path.{◌≡◌, refl, sym, ap, subst, ◌∙◌}
use mathlib.Core.Bool.{Bool, true, false, cond}
use mathlib.Core.Logic.{◌⊎◌, inl, inr}
use mathlib.Core.Option.{Option, none, some}
use mathlib.Core.List.{List, [], ◌∷◌, map}
use Prim.Native.Nat.{ℕ, ◌+◌, ◌≤◌, ◌<◌}
use native.Mathlib.Omega.{arith}
use borrow.Author.Tests.{lt-leb, eq-eqb}
use lib.ListN.{length}
use Rattle.area.specs.Refusals.{lowest}
use Rattle.area.proofs.Walks.{by_test, true_not_false}
use Rattle.routines.specs.declared.Due.{Due}
use Rattle.routines.specs.declared.Naming.{Naming}
use Rattle.routines.specs.declared.Program.{Program}
use Rattle.routines.specs.declared.Routines.{Routines}
use Rattle.routines.specs.Ranks.{depth, is_main, is_due}
use Rattle.routines.specs.Waits.{due_at, highest}
use Rattle.routines.specs.Right.{descends}
use Rattle.routines.specs.Posts.{waits_of, with_post}
use Rattle.routines.specs.Changes.{asked_in, gave_back_in}
use Rattle.routines.proofs.Laws.Lists.{length_under}
use Rattle.routines.proofs.Laws.Kept.{clauses}
use Rattle.routines.proofs.Laws.Table.{due_at_lem}
use Rattle.routines_theorems.specs.Parts.{machine_of}
use Rattle.routines_theorems.proofs.Theorems.{runs_highest, full_list}
use Rattle.routines_theorems.proofs.Parts.{part_sound}
use Rattle.state.specs.declared.State.{State}
use Rattle.state.specs.Places.{file_at, channel_at}
use Rattle.state_sound.specs.Soundness.{sound}
use Rattle.state_sound.proofs.Facts.{sound_facts}
use Rattle.pack_open.proofs.OpenTheorems.{open_frame}
use Rattle.pack_open.proofs.CloseTheorems.{close_frame}
use Rattle.pack_start.proofs.FreezeTheorems.{freeze_frame}
use Rattle.call_request.specs.Ask.{ask_refusal}
use Rattle.pack_request.specs.Calls.{ask_wrong, ask_waits}
use Rattle.pack_request.proofs.AskTheorems.{ask_ready, ask_exactly, ask_routines}
use Rattle.pack_routine.specs.declared.Ran.{Ran}
use Rattle.pack_routine.specs.Ons.{return_rows}
use Rattle.pack_routine.proofs.Theorems.{return_exactly, running_tells, running_state}
use Rattle.pack_record.proofs.GetTheorems.{get_frame}
use Rattle.pack_record.proofs.SkipTheorems.{skip_frame}
use Rattle.pack_record.proofs.PutTheorems.{put_frame}
use Rattle.pack_record.proofs.SealTheorems.{seal_frame}
use Rattle.pack.specs.Calls.{Call, fresh, opening, close, ask, report, get, put, seal, skip, freeze, thaw, return, running, runs, running_now, answer_of}
use Rattle.pack.specs.Books.{Book}
use Rattle.pack.proofs.Kept.{Good, call_kept}
use Rattle.pack.proofs.Seen.{station_at}
use Rattle.pack.proofs.Booking.{Shows}
use Rattle.demands.specs.Turns.{is_pending}
use Rattle.demands.proofs.Turns.{ask_holding}
use Rattle.demands.specs.Entries.{KeptOut}
use Rattle.demands.specs.Routines.{runs_in, told_entry, another, entered_by, Roster, with_due, with_return, past_first, makes_due, readied, rostered, rostered_at, Moves, answers, thaws, returns, afresh, Schedules, Returns, GivesBack}
use Rattle.demands.proofs.Looks.{gave_back_lem}
use Rattle.demands.proofs.Listed.{none_some, LookEnters, BackEnters, back_enters, back_resumes}
use Rattle.demands.proofs.Rosters.{Noted, running_taken, runs_is, Look, look_entered, list_right, report_idle, report_look, thaw_look, some_runs, return_routines, return_entry, return_tells, accepted_noted}

list_length : (t : State) (q : Roster) → Noted t q → length q.list ≡ t.routines.programs.count
list_length t q N = ap length N.lists.list ∙ length_under t.routines.programs.pushed t.routines.programs.count

-- ---- in every state

module _ (t : State) (q : Roster) (h : sound t ≡ true) (N : Noted t q) where
  waits_are : (c u : ℕ) → due_at (waits_of t.routines) c u ≡ q.waits c u
  waits_are c u = due_at_lem t.routines c u ∙ sym (N.lists.waits c u)

  -- when nothing is frozen and the list is not full, what runs is at least as high as all that wait
  pub all_lower : q.frozen ≡ false → length q.list < 4 → (c u : ℕ) → (q.waits c u).rank ≤ (runs_in t).rank
  all_lower f l c u =
      let few : t.routines.programs.count < depth = omega (arith, list_length t q N, l) in
      let low = runs_highest (machine_of t.frozen t.routines) (part_sound _ _ t.frozen t.routines (sound_facts t h).routines) (sym N.frozen ∙ f) (lt-leb depth t.routines.programs.count few) c u in
      let r : (due_at (waits_of t.routines) c u).rank ≡ (q.waits c u).rank = ap (λ (d : Due). d.rank) (waits_are c u) in
      let now : (runs_in t).rank ≡ t.routines.programs.running.rank = ap (λ (p : Program). p.rank) (runs_is t h) in
      omega (arith, low, r, now)

  pub kept_out : q.frozen ≡ false → (c u : ℕ) → (runs_in t).rank < (q.waits c u).rank → KeptOut (runs_in t) q.list (q.waits c u)
  kept_out f c u above =
      let r : (due_at (waits_of t.routines) c u).rank ≡ (q.waits c u).rank = ap (λ (d : Due). d.rank) (waits_are c u) in
      let now : (runs_in t).rank ≡ t.routines.programs.running.rank = ap (λ (p : Program). p.rank) (runs_is t h) in
      let K = full_list (machine_of t.frozen t.routines) (part_sound _ _ t.frozen t.routines (sound_facts t h).routines) (sym N.frozen ∙ f) c u (omega (arith, above, r, now)) in
      record {
        third = now ∙ K.runs;
        below = ap (map (λ (x : Program). x.rank)) N.lists.list ∙ K.below;
        waiting = sym r ∙ K.waiting;
      }

  pub falls_down : descends (runs_in t) q.list ≡ true
  falls_down =
      ap (λ (p : Program). descends p q.list) (runs_is t h)
      ∙ ap (descends t.routines.programs.running) N.lists.list
      ∙ (clauses t.routines.programs (sound_facts t h).routines.ready.programs).falls

-- ---- after every accepted call

module _ (s : State) (area : List ℕ) (g : Good s) (r : Roster) (N : Noted s r) where
  abbrev then : Call → State
  then call = (answer_of s area call).state

  right_then : (call : Call) → sound (then call) ≡ true
  right_then call = (call_kept s area g call).right

  -- the same routines, so the same program runs
  same_runs : (call : Call) → (then call).routines ≡ s.routines → runs_in (then call) ≡ runs_in s
  same_runs call e = runs_is (then call) (right_then call) ∙ ap (λ (R : Routines). R.programs.running) e ∙ sym (runs_is s g.right)

  -- an ask leaves what runs
  ask_runs : (file op priority : ℕ) (naming : Naming) → (answer_of s area (ask file op priority naming)).refusal ≡ 0 → runs_in (then (ask file op priority naming)) ≡ runs_in s
  unfolding answer_of asked_in with_post
  ask_runs file op priority naming z =
      runs_is (then (ask file op priority naming)) (right_then (ask file op priority naming))
      ∙ ap (λ (R : Routines). R.programs.running) (ask_routines s file op priority naming z)
      ∙ sym (runs_is s g.right)

  module _ (call : Call) (z : (answer_of s area call).refusal ≡ 0) where
    M : Noted (answer_of s area call).state (rostered s call (answer_of s area call) r)
    M = accepted_noted s area g r N call z

    -- a call that enters none
    quietly : entered_by s call (answer_of s area call) ≡ none → ((Moves r (answer_of s area call) call → ⊥) → runs_in (then call) ≡ runs_in s)
        → Schedules s call (answer_of s area call) r (rostered s call (answer_of s area call) r)
    quietly quiet still = record {
      still = still;
      runs = λ p e. absurd (none_some p (sym quiet ∙ e));
      first = λ p e. absurd (none_some p (sym quiet ∙ e));
      thawed = λ p e. absurd (none_some p (sym quiet ∙ e));
      interrupts = λ k p e. absurd (none_some p (sym quiet ∙ e));
      highest = all_lower (then call) _ (right_then call) M;
      full = kept_out (then call) _ (right_then call) M;
      falls = falls_down (then call) _ (right_then call) M;
    }

    -- one that looks
    looking : entered_by s call (answer_of s area call) ≡ another (runs_in s) (runs_in (then call)) → (readied s call (answer_of s area call) r).list ≡ r.list
        → Look s (then call) (readied s call (answer_of s area call) r) → ((Moves r (answer_of s area call) call → ⊥) → runs_in (then call) ≡ runs_in s)
        → Schedules s call (answer_of s area call) r (rostered s call (answer_of s area call) r)
    looking is same K still = record {
      still = still;
      runs = λ p e. runs_is (then call) (right_then call) ∙ (E p e).runs;
      first = λ p e. (E p e).first;
      thawed = λ p e. M.frozen ∙ sym K.is_frozen ∙ (E p e).thawed;
      interrupts = λ k p e. (
        subst (λ (x : Program). x.rank < p.rank) (sym K.before) (E p e).above,
        (let n : length r.list ≡ K.from.programs.count =
            ap length (sym same ∙ K.lists.list) ∙ length_under K.from.programs.pushed K.from.programs.count in
            omega (arith, n, (E p e).room)),
      );
      highest = all_lower (then call) _ (right_then call) M;
      full = kept_out (then call) _ (right_then call) M;
      falls = falls_down (then call) _ (right_then call) M;
    }
      where
        E : (p : Program) → entered_by s call (answer_of s area call) ≡ some p
            → LookEnters K.from K.frozen (readied s call (answer_of s area call) r) K.lists (then call).routines p
        E p e = look_entered s (then call) (readied s call (answer_of s area call) r) (right_then call) K p (sym is ∙ e)

  -- ---- a return

  module _ (z : (answer_of s area return).refusal ≡ 0) where
    abbrev T : Routines
    T = (gave_back_in s.routines s.frozen).routines

    abbrev q : Roster
    q = rostered s return (answer_of s area return) r

    R : Noted (answer_of s area return).state (rostered s return (answer_of s area return) r)
    R = accepted_noted s area g r N return z

    B : (p : Program) → told_entry (answer_of s area return).added ≡ some p → BackEnters s.routines s.frozen r N.lists (gave_back_in s.routines s.frozen).routines p
    B p e =
        back_enters s.routines s.frozen r N.lists _ T p (list_right s area g r N) (some_runs s area g r N z) (gave_back_lem s.routines s.frozen)
        (sym (return_entry s area g r N z) ∙ e)

    back_frozen : (o : Option Program) → (with_return o r).frozen ≡ r.frozen
    back_frozen none = refl
    back_frozen (some p) = refl

    return_schedules : Schedules s return (answer_of s area return) r (rostered s return (answer_of s area return) r)
    return_schedules = record {
      still = λ n. absurd (n returns);
      runs = λ p e.
          runs_is (then return) (right_then return) ∙ ap (λ (X : Routines). X.programs.running) (return_routines s area g r N z) ∙ (B p e).runs;
      first = λ p e. (B p e).first;
      thawed = λ p e. back_frozen (told_entry (answer_of s area return).added) ∙ N.frozen ∙ (B p e).thawed;
      interrupts = λ k p e. true_not_false k refl;
      highest = all_lower (then return) _ (right_then return) R;
      full = kept_out (then return) _ (right_then return) R;
      falls = falls_down (then return) _ (right_then return) R;
    }

    pub gives_back : GivesBack (answer_of s area return) r (rostered s return (answer_of s area return) r)
    gives_back = record {
      tells = return_tells s area g r N z ∙ sym (runs_is (then return) (right_then return));
      enters = λ p e. (B p e).above;
      resumes = goes;
      otherwise = λ e f c u.
          let shorter : length r.list ≡ length q.list + 1 = ap length (goes e) ∙ one q.list in
          let four = (clauses s.routines.programs (list_right s area g r N)).few in
          let thawed : q.frozen ≡ false = back_frozen (told_entry (answer_of s area return).added) ∙ f in
          let low = all_lower (then return) q (right_then return) R thawed (omega (arith, shorter, list_length s r N, four)) c u in
          subst (λ (d : Due). d.rank ≤ (runs_in (then return)).rank) (ap (λ (o : Option Program). (with_return o r).waits c u) e) low;
    }
      where
        goes : told_entry (answer_of s area return).added ≡ none → r.list ≡ runs_in (then return) ∷ q.list
        goes e =
            back_resumes s.routines s.frozen r N.lists _ T (list_right s area g r N) (some_runs s area g r N z) (gave_back_lem s.routines s.frozen)
            (sym (return_entry s area g r N z) ∙ e)
            ∙ ap (λ (p : Program). p ∷ past_first r.list)
            (sym (runs_is (then return) (right_then return) ∙ ap (λ (X : Routines). X.programs.running) (return_routines s area g r N z)))
            ∙ ap (λ (o : Option Program). runs_in (then return) ∷ (with_return o r).list) (sym e)

        one : (xs : List Program) → length (runs_in (then return) ∷ xs) ≡ length xs + 1
        one xs = omega arith

  -- ---- every accepted call

  pub call_schedules : (call : Call) → (answer_of s area call).refusal ≡ 0 → Schedules s call (answer_of s area call) r (rostered s call (answer_of s area call) r)
  unfolding answer_of
  call_schedules (fresh m w masks) z = quietly (fresh m w masks) z refl (λ n. absurd (n afresh))
  call_schedules (opening file channel unit flags size rlen) z =
      quietly (opening file channel unit flags size rlen) z refl
      (λ n. same_runs (opening file channel unit flags size rlen) (open_frame s file channel unit flags size rlen).routines)
  call_schedules (close file) z = quietly (close file) z refl (λ n. same_runs (close file) (close_frame s file).routines)
  call_schedules (ask file op priority naming) z = quietly (ask file op priority naming) z refl (λ n. ask_runs file op priority naming z)
  call_schedules (report channel unit outcome len words) z =
      looking (report channel unit outcome len words) z refl (due_list (makes_due r channel unit (answer_of s area (report channel unit outcome len words))))
      (report_look s area g r N channel unit outcome len words z)
      (λ n. by_test (λ b. makes_due r channel unit (answer_of s area (report channel unit outcome len words)) ≡ b → runs_in (then (report channel unit outcome len words)) ≡ runs_in s)
      (makes_due r channel unit (answer_of s area (report channel unit outcome len words)))
      (λ t e. absurd (n (answers e)))
      (λ t e. same_runs (report channel unit outcome len words) (report_idle s area g r N channel unit outcome len words z e)) refl)
    where
      due_list : (b : Bool) → (cond b (with_due channel unit r) r).list ≡ r.list
      due_list true = refl
      due_list false = refl
  call_schedules (get file) z = quietly (get file) z refl (λ n. same_runs (get file) (get_frame s area file).5)
  call_schedules (put file words) z = quietly (put file words) z refl (λ n. same_runs (put file words) (put_frame s area file words).5)
  call_schedules (seal file) z = quietly (seal file) z refl (λ n. same_runs (seal file) (seal_frame s area file).5)
  call_schedules (skip file) z = quietly (skip file) z refl (λ n. same_runs (skip file) (skip_frame s file).5)
  call_schedules freeze z = quietly freeze z refl (λ n. same_runs freeze (freeze_frame s).2)
  call_schedules thaw z = looking thaw z refl refl (thaw_look s area g r N z) (λ n. absurd (n thaws))
  call_schedules return z = return_schedules z
  call_schedules running z = quietly running z refl (λ n. same_runs running (ap (λ (t : State). t.routines) (running_state s)))

  -- the same, of a call that is lent its area
  pub at_schedules : (call : Call) → (answer_of s area call).refusal ≡ 0
      → Schedules s call (answer_of s area call) r (rostered_at s (record { call = call; area = area }) r)
  at_schedules call z =
      subst (λ (b : Bool). Schedules s call (answer_of s area call) r (cond b (rostered s call (answer_of s area call) r) r)) (sym (eq-eqb (answer_of s area call).refusal 0 z))
      (call_schedules call z)

  pub at_back : (answer_of s area return).refusal ≡ 0 → GivesBack (answer_of s area return) r (rostered_at s (record { call = return; area = area }) r)
  at_back z =
      subst (λ (b : Bool). GivesBack (answer_of s area return) r (cond b (rostered s return (answer_of s area return) r) r)) (sym (eq-eqb (answer_of s area return).refusal 0 z))
      (gives_back z)

  -- ---- an ask, and a routine that waits at its unit

  module _ (file op priority : ℕ) (naming : Naming) where
    waits_same : ask_waits s file ≡ is_due (r.waits (file_at s file).channel (file_at s file).unit)
    waits_same = ap is_due (waits_are s r g.right N (file_at s file).channel (file_at s file).unit)

    -- it is refused 8 only if its unit has a request, or its routine waits
    pub ask_held : (b : Book) → Shows (station_at (file_at s file).channel s) b → (answer_of s area (ask file op priority naming)).refusal ≡ 8
        → (is_pending (b.requests (file_at s file).unit) ≡ true) ⊎ (is_due (r.waits (file_at s file).channel (file_at s file).unit) ≡ true)
    ask_held b S z = go (ask_holding s area file op priority naming b S z)
      where
        go : (is_pending (b.requests (file_at s file).unit) ≡ true) ⊎ (ask_waits s file ≡ true)
            → (is_pending (b.requests (file_at s file).unit) ≡ true) ⊎ (is_due (r.waits (file_at s file).channel (file_at s file).unit) ≡ true)
        go (inl e) = inl e
        go (inr e) = inr (sym waits_same ∙ e)

    -- and where it is accepted none waits
    pub ask_free : (answer_of s area (ask file op priority naming)).refusal ≡ 0 → is_due (r.waits (file_at s file).channel (file_at s file).unit) ≡ false
    unfolding answer_of ask_refusal
    ask_free z =
        sym waits_same
        ∙ (ask_ready (ask_wrong s file) (file_at s file) (channel_at s (file_at s file).channel) op priority naming (ask_waits s file) (sym (ask_exactly s file op priority naming).number ∙ z)
        ).free

  -- ---- in every state that calls lead to

  pub call_returns : Returns s area
  unfolding answer_of return_rows lowest
  call_returns = record {
    number = (return_exactly s).0 ∙ rw g.right (ap (λ (p : Program). cond (is_main p) 18 0) (sym (runs_is s g.right)));
    asked =
        ap (λ (x : Ran). running_now x area) (running_tells s (running_taken s g.right))
        ∙ ap (λ (p : Program). record { refusal = 0; added = runs p; shows = []; state = s; area = area }) (sym (runs_is s g.right));
  }
