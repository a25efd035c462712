-- What is made due is entered once, and programs resume in the reverse order of their interruption, over histories. Assumes nothing.
use mathlib.Core.Path.{◌≡◌, refl, sym, ap, subst, ◌∙◌}
use mathlib.Core.Bool.{Bool, true, false, cond, ◌&&◌}
use mathlib.Core.Option.{Option, none, some}
use mathlib.Core.List.{List, [], ◌∷◌, ◌++◌}
use Prim.Native.Nat.{ℕ, ◌+◌, ◌<◌}
use native.Mathlib.Decide.{ℕ_discrete}
use native.Mathlib.Omega.{arith}
use borrow.Author.Tests.{eqb-true, eq-eqb, ne_eqb, lt-ltb}
use lib.Dec.{eqb}
use Rattle.area.specs.Lists.{one_if}
use Rattle.area.proofs.Walks.{by_test, true_not_false, and_left, and_right, and_both}
use Rattle.routines.specs.declared.Due.{Due}
use Rattle.routines.specs.declared.Program.{Program}
use Rattle.routines.specs.Ranks.{nothing_due, is_due, waiting_at}
use Rattle.routines_theorems.specs.History.{is_program, Turn, Reversed, done, interrupts, resumes, drops}
use Rattle.state.specs.declared.State.{State}
use Rattle.pack.specs.Calls.{Call, fresh, opening, close, ask, report, get, put, seal, skip, freeze, thaw, return, running, Answer, answer_of}
use Rattle.pack.specs.Histories.{Lent, answer_to, is_accepted, is_answer, of_fresh, count, fresh_start}
use Rattle.pack.proofs.Kept.{Good, call_kept}
use Rattle.demands.specs.Entries.{First}
use Rattle.demands.specs.Routines.{runs_in, told_entry, another, entered_by, Roster, with_due, with_look, with_return, makes_due, readied, rostered, rostered_at, roster_after, turn_of_look, turn_of_return, turns_by, turns_at, turns_after, makes_due_at, count_due, is_one, enters_it, Once}
use Rattle.demands.proofs.Listed.{same_program}
use Rattle.demands.proofs.Rosters.{Noted, call_noted}
use Rattle.demands.proofs.Scheduling.{call_schedules, gives_back}

-- ---- programs resume in the reverse order

same_list : {xs zs ys : List Program} {ts : List Turn} → xs ≡ zs → Reversed zs ts ys → Reversed xs ts ys
same_list {xs} {zs} {ys} {ts} e R = rw e R

module _ (s : State) (area : List ℕ) (g : Good s) (r : Roster) (N : Noted s r) (ys : List Program) (ts : List Turn) where
  abbrev Goes : Call → Type 0
  Goes call = Reversed (rostered s call (answer_of s area call) r).list ts ys → Reversed r.list (turns_by s call (answer_of s area call) ++ ts) ys

  look_goes : (before : Program) (o : Option Program) (q : Roster) → r.list ≡ q.list → Reversed (with_look before o q).list ts ys → Reversed r.list (turn_of_look before o ++ ts) ys
  look_goes before none q e R = same_list e R
  look_goes before (some p) q e R = interrupts (same_list (ap (λ (xs : List Program). before ∷ xs) e) R)

  back_goes : (now : Program) (o : Option Program) → (o ≡ none → r.list ≡ now ∷ (with_return o r).list) → Reversed (with_return o r).list ts ys
      → Reversed r.list (turn_of_return now o ++ ts) ys
  back_goes now none e R = same_list (e refl) (resumes R)
  back_goes now (some p) e R = R

  due_list : (c u : ℕ) (b : Bool) → r.list ≡ (cond b (with_due c u r) r).list
  due_list c u true = refl
  due_list c u false = refl

  call_turns : (call : Call) → (answer_of s area call).refusal ≡ 0 → Goes call
  call_turns (fresh m w masks) z R = drops R
  call_turns (opening file channel unit flags size rlen) z R = R
  call_turns (close file) z R = R
  call_turns (ask file op priority naming) z R = R
  call_turns (report channel unit outcome len words) z R =
      look_goes (runs_in s) (entered_by s (report channel unit outcome len words) (answer_of s area (report channel unit outcome len words))) _
      (due_list channel unit (makes_due r channel unit (answer_of s area (report channel unit outcome len words)))) R
  call_turns (get file) z R = R
  call_turns (put file words) z R = R
  call_turns (seal file) z R = R
  call_turns (skip file) z R = R
  call_turns freeze z R = R
  call_turns thaw z R = look_goes (runs_in s) (entered_by s thaw (answer_of s area thaw)) _ refl R
  call_turns return z R = back_goes (runs_in (answer_of s area return).state) (told_entry (answer_of s area return).added) (λ e. (gives_back s area g r N z).resumes e) R
  call_turns running z R = R

  -- a refused call turns nothing
  at_turns : (call : Call)
      → Reversed (rostered_at s (record { call = call; area = area }) r).list ts ys
      → Reversed r.list (turns_at s (record { call = call; area = area }) ++ ts) ys
  at_turns call = go (ℕ_discrete (answer_of s area call).refusal 0)
    where
      To : Bool → Type 0
      To b =
          Reversed (cond b (rostered s call (answer_of s area call) r) r).list ts ys
          → Reversed r.list (cond b (turns_by s call (answer_of s area call)) [] ++ ts) ys

      go : Dec ((answer_of s area call).refusal ≡ 0) → To (is_accepted (answer_of s area call))
      go (yes z) = subst To (sym (eq-eqb (answer_of s area call).refusal 0 z)) (call_turns call z)
      go (no h) = subst To (sym (ne_eqb (answer_of s area call).refusal 0 h)) (λ R. R)

pub reversed : (s : State) (r : Roster) (h : List Lent) → Good s → Noted s r → Reversed r.list (turns_after s h) (roster_after s r h).list
unfolding turns_after roster_after
reversed s r [] g N = done
reversed s r (x ∷ h) g N =
    at_turns s x.area g r N _ _ x.call
    (reversed (answer_to s x).state (rostered_at s x r) h (call_kept s x.area g x.call) (call_noted s x.area g r N x.call))

-- ---- "A due routine is entered once."

-- what is entered is the routine of unit u of channel c
abbrev is_at : ℕ → ℕ → Option Program → Bool
is_at c u none = false
is_at c u (some p) = eqb c p.channel && eqb u p.unit

module _ (c u : ℕ) (s : State) (a : Answer) (r : Roster) where
  look_waits : (before : Program) (o : Option Program) (q : Roster) → (with_look before o q).waits c u ≡ cond (is_at c u o) nothing_due (q.waits c u)
  look_waits before none q = refl
  look_waits before (some p) q = refl

  back_waits : (o : Option Program) (q : Roster) → (with_return o q).waits c u ≡ cond (is_at c u o) nothing_due (q.waits c u)
  back_waits none q = refl
  back_waits (some p) q = refl

  -- what waits after a call is what may be entered, but for what is entered
  waits_now : (call : Call) → (rostered s call a r).waits c u ≡ cond (is_at c u (entered_by s call a)) nothing_due ((readied s call a r).waits c u)
  waits_now (fresh m w masks) = refl
  waits_now (opening file channel unit flags size rlen) = refl
  waits_now (close file) = refl
  waits_now (ask file op priority naming) = refl
  waits_now (report channel unit outcome len words) = look_waits (runs_in s) (another (runs_in s) (runs_in a.state)) _
  waits_now (get file) = refl
  waits_now (put file words) = refl
  waits_now (seal file) = refl
  waits_now (skip file) = refl
  waits_now freeze = refl
  waits_now thaw = look_waits (runs_in s) (another (runs_in s) (runs_in a.state)) _
  waits_now return = back_waits (told_entry a.added) r
  waits_now running = refl

  due_waits : (channel unit : ℕ) (b : Bool) → (eqb c channel && (eqb u unit && b)) ≡ false → (cond b (with_due channel unit r) r).waits c u ≡ r.waits c u
  due_waits channel unit false e = refl
  due_waits channel unit true e = go (eqb c channel) (eqb u unit) e
    where
      go : (x y : Bool) → (x && (y && true)) ≡ false → cond (x && y) (r.names channel unit) (r.waits c u) ≡ r.waits c u
      go true true e = true_not_false refl e
      go true false e = refl
      go false y e = refl

  -- and that is what waited, where none is made due at the unit
  waits_still : (call : Call) → of_fresh call ≡ false → makes_due_at c u r call a ≡ false → (readied s call a r).waits c u ≡ r.waits c u
  waits_still (fresh m w masks) f e = true_not_false refl f
  waits_still (opening file channel unit flags size rlen) f e = refl
  waits_still (close file) f e = refl
  waits_still (ask file op priority naming) f e = refl
  waits_still (report channel unit outcome len words) f e = due_waits channel unit (makes_due r channel unit a) e
  waits_still (get file) f e = refl
  waits_still (put file words) f e = refl
  waits_still (seal file) f e = refl
  waits_still (skip file) f e = refl
  waits_still freeze f e = refl
  waits_still thaw f e = refl
  waits_still return f e = refl
  waits_still running f e = refl

module _ (c u : ℕ) (d : Due) (due : is_due d ≡ true) where
  abbrev it : Program
  it = waiting_at c u d

  -- of what may be entered at the unit, what waits there afterwards, and whether the routine was entered
  data Gone (w next : Due) (e : Bool) : Type 0 where
    kept : next ≡ w → e ≡ false → Gone w next e
    left : next ≡ nothing_due → 0 < w.rank → e ≡ is_program (waiting_at c u w) (waiting_at c u d) → Gone w next e

  -- a program of another unit is another
  not_it : (p : Program) → (eqb c p.channel && eqb u p.unit) ≡ false → is_program p (waiting_at c u d) ≡ false
  not_it p e = go (is_program p (waiting_at c u d)) refl
    where
      go : (b : Bool) → is_program p (waiting_at c u d) ≡ b → b ≡ false
      go false q = refl
      go true q =
          let rest = and_right (eqb p.rank d.rank) _ q in
          let k : p.channel ≡ c = eqb-true p.channel c (and_left (eqb p.channel c) _ rest) in
          let v : p.unit ≡ u = eqb-true p.unit u (and_left (eqb p.unit u) _ (and_right (eqb p.channel c) _ rest)) in
          true_not_false (rw (eq-eqb c p.channel (sym k), eq-eqb u p.unit (sym v))) e

  gone_by : (w : ℕ → ℕ → Due) (o : Option Program) → ((p : Program) → o ≡ some p → First w p) → Gone (w c u) (cond (is_at c u o) nothing_due (w c u)) (is_one (waiting_at c u d) o)
  gone_by w none F = kept refl refl
  gone_by w (some p) F =
      by_test (λ b. (eqb c p.channel && eqb u p.unit) ≡ b → Gone (w c u) (cond b nothing_due (w c u)) (is_program p (waiting_at c u d))) (eqb c p.channel && eqb u p.unit)
      (λ t e.
      let k : c ≡ p.channel = eqb-true c p.channel (and_left (eqb c p.channel) _ e) in
      let v : u ≡ p.unit = eqb-true u p.unit (and_right (eqb c p.channel) _ e) in
      let x = F p refl in
      let here : w c u ≡ record { rank = p.rank; routine = p.routine } = ap (λ (n : ℕ). w n u) k ∙ ap (w p.channel) v ∙ x.waited in
      let own : p ≡ waiting_at c u (w c u) =
      sym (ap (λ (y : Due). waiting_at c u y) here ∙ ap (λ (n : ℕ). record { rank = p.rank; channel = n; unit = u; routine = p.routine }) k
      ∙ ap (λ (n : ℕ). record { rank = p.rank; channel = p.channel; unit = n; routine = p.routine }) v) in
      let rank : (w c u).rank ≡ p.rank = ap (λ (y : Due). y.rank) here in
      left refl (omega (arith, rank, x.named)) (ap (λ (y : Program). is_program y (waiting_at c u d)) own))
      (λ t e. kept refl (not_it p e)) refl

  module _ (s : State) (area : List ℕ) (g : Good s) (r : Roster) (N : Noted s r) (call : Call) where
    abbrev a : Answer
    a = answer_of s area call

    -- an accepted call
    call_gone : (answer_of s area call).refusal ≡ 0
        → Gone ((readied s call (answer_of s area call) r).waits c u) ((rostered s call (answer_of s area call) r).waits c u) (enters_it (waiting_at c u d) s call (answer_of s area call))
    call_gone z =
        subst (λ (w : Due). Gone ((readied s call a r).waits c u) w (enters_it (waiting_at c u d) s call a)) (sym (waits_now c u s a r call))
        (gone_by (readied s call a r).waits (entered_by s call a) (call_schedules s area g r N call z).first)

    -- a call that makes none due at the unit, and is no accepted fresh start
    step_gone : one_if (is_accepted (answer_of s area call) && of_fresh call) ≡ 0 → one_if (is_accepted (answer_of s area call) && makes_due_at c u r call (answer_of s area call)) ≡ 0
        → Gone (r.waits c u) ((rostered_at s (record { call = call; area = area }) r).waits c u) (is_accepted (answer_of s area call) && enters_it (waiting_at c u d) s call (answer_of s area call))
    step_gone f m = go (ℕ_discrete (answer_of s area call).refusal 0) f m
      where
        To : Bool → Type 0
        To b =
            one_if (b && of_fresh call) ≡ 0 → one_if (b && makes_due_at c u r call (answer_of s area call)) ≡ 0
            → Gone (r.waits c u) ((cond b (rostered s call (answer_of s area call) r) r).waits c u) (b && enters_it (waiting_at c u d) s call (answer_of s area call))

        none_of : (b : Bool) → one_if b ≡ 0 → b ≡ false
        none_of true e = absurd (omega (arith, e))
        none_of false e = refl

        go : Dec ((answer_of s area call).refusal ≡ 0) → To (is_accepted (answer_of s area call))
        go (yes z) =
            subst To (sym (eq-eqb (answer_of s area call).refusal 0 z))
            (λ f m. subst (λ (w : Due). Gone w ((rostered s call a r).waits c u) (enters_it (waiting_at c u d) s call a))
            (waits_still c u s a r call (none_of (of_fresh call) f) (none_of (makes_due_at c u r call a) m)) (call_gone z))
        go (no h) = subst To (sym (ne_eqb (answer_of s area call).refusal 0 h)) (λ f m. kept refl refl)

  -- ---- over calls after it

  -- both counts of a history are of its first call and of the rest
  first_zero : (x y : ℕ) → x + y ≡ 0 → x ≡ 0
  first_zero x y e = omega (arith, e)

  rest_zero : (x y : ℕ) → x + y ≡ 0 → y ≡ 0
  rest_zero x y e = omega (arith, e)

  not_due : (w : Due) → is_due w ≡ false → 0 < w.rank → ⊥
  not_due w e l = true_not_false (lt-ltb 0 w.rank l) e

  -- what is left of a history after its first call
  abbrev Rest : State → Roster → List Lent → Type 0
  Rest s r h = (count (enters_it (waiting_at c u d)) s h ≡ 0) × (is_due ((roster_after s r h).waits c u) ≡ false)

  abbrev OnceMore : State → Roster → List Lent → Type 0
  OnceMore s r h =
      (count (enters_it (waiting_at c u d)) s h + one_if (is_due ((roster_after s r h).waits c u)) ≡ 1)
      × (is_due ((roster_after s r h).waits c u) ≡ true → (roster_after s r h).waits c u ≡ d)

  abbrev Steps : State → Roster → Lent → Type 0
  Steps s r x = Gone (r.waits c u) ((rostered_at s x r).waits c u) (is_accepted (answer_to s x) && enters_it (waiting_at c u d) s x.call (answer_to s x))

  -- nothing waits at the unit
  rest_of : (s : State) (r : Roster) (x : Lent) (h : List Lent) → is_due (r.waits c u) ≡ false
      → (is_due ((rostered_at s x r).waits c u) ≡ false → Rest (answer_to s x).state (rostered_at s x r) h) → Steps s r x → Rest s r (x ∷ h)
  unfolding count roster_after
  rest_of s r x h w next (kept e n) =
      let z = next (ap is_due e ∙ w) in
      let here : one_if (is_accepted (answer_to s x) && enters_it (waiting_at c u d) s x.call (answer_to s x)) ≡ 0 = ap one_if n in
      (omega (arith, here, z.0), z.1)
  rest_of s r x h w next (left e l n) = absurd (not_due (r.waits c u) w l)

  -- the routine waits there
  once_of : (s : State) (r : Roster) (x : Lent) (h : List Lent) → r.waits c u ≡ d
      → ((rostered_at s x r).waits c u ≡ d → OnceMore (answer_to s x).state (rostered_at s x r) h)
      → (is_due ((rostered_at s x r).waits c u) ≡ false → Rest (answer_to s x).state (rostered_at s x r) h) → Steps s r x → OnceMore s r (x ∷ h)
  unfolding count roster_after
  once_of s r x h w next rest (kept e n) =
      let z = next (e ∙ w) in
      let here : one_if (is_accepted (answer_to s x) && enters_it (waiting_at c u d) s x.call (answer_to s x)) ≡ 0 = ap one_if n in
      (omega (arith, here, z.0), z.1)
  once_of s r x h w next rest (left e l n) =
      let z = rest (ap is_due e) in
      let here : one_if (is_accepted (answer_to s x) && enters_it (waiting_at c u d) s x.call (answer_to s x)) ≡ 1 =
      ap one_if (n ∙ ap (λ (y : Due). is_program (waiting_at c u y) (waiting_at c u d)) w ∙ same_program (waiting_at c u d)) in
      let none : one_if (is_due ((roster_after (answer_to s x).state (rostered_at s x r) h).waits c u)) ≡ 0 = ap one_if z.1 in
      (omega (arith, here, none, z.0), λ q. true_not_false q z.1)

  no_more : (s : State) (r : Roster) (h : List Lent) → Good s → Noted s r → count fresh_start s h ≡ 0 → count_due c u s r h ≡ 0 → is_due (r.waits c u) ≡ false → Rest s r h
  unfolding count count_due roster_after
  no_more s r [] g N f m w = (refl, w)
  no_more s r (x ∷ h) g N f m w =
      rest_of s r x h w
      (λ v. no_more (answer_to s x).state (rostered_at s x r) h (call_kept s x.area g x.call) (call_noted s x.area g r N x.call) (rest_zero _ _ f) (rest_zero _ _ m) v)
      (step_gone s x.area g r N x.call (first_zero _ _ f) (first_zero _ _ m))

  -- it waits: it is entered once, or waits still
  once_more : (s : State) (r : Roster) (h : List Lent) → Good s → Noted s r → count fresh_start s h ≡ 0 → count_due c u s r h ≡ 0 → r.waits c u ≡ d → OnceMore s r h
  unfolding count count_due roster_after
  once_more s r [] g N f m w = (let one : one_if (is_due (r.waits c u)) ≡ 1 = ap (λ (x : Due). one_if (is_due x)) w ∙ ap one_if due in omega (arith, one), λ e. w)
  once_more s r (x ∷ h) g N f m w =
      let good = call_kept s x.area g x.call in
      let noted = call_noted s x.area g r N x.call in
      once_of s r x h w
      (λ v. once_more (answer_to s x).state (rostered_at s x r) h good noted (rest_zero _ _ f) (rest_zero _ _ m) v)
      (λ v. no_more (answer_to s x).state (rostered_at s x r) h good noted (rest_zero _ _ f) (rest_zero _ _ m) v)
      (step_gone s x.area g r N x.call (first_zero _ _ f) (first_zero _ _ m))

-- ---- from the call that makes it due on

module _ (s : State) (r : Roster) (g : Good s) (N : Noted s r) (c u outcome len : ℕ) (words area : List ℕ) (d : Due) (due : is_due d ≡ true) (named : r.names c u ≡ d)
    (z : (answer_of s area (report c u outcome len words)).refusal ≡ 0) (answers : is_answer (answer_of s area (report c u outcome len words)).added ≡ true) where
  abbrev made : Lent
  made = record { call = report c u outcome len words; area = area }

  makes : makes_due r c u (answer_of s area (report c u outcome len words)) ≡ true
  makes = and_both (is_answer (answer_of s area (report c u outcome len words)).added) _ answers (ap is_due named ∙ due)

  -- it is what may be entered at its unit
  now_due : (readied s (report c u outcome len words) (answer_of s area (report c u outcome len words)) r).waits c u ≡ d
  now_due =
      ap (λ (b : Bool). (cond b (with_due c u r) r).waits c u) makes
      ∙ rw (eq-eqb c c refl, eq-eqb u u refl) named

  pub entered_once : (later : List Lent) → count fresh_start (answer_to s (record { call = report c u outcome len words; area = area })).state later ≡ 0
      → count_due c u (answer_to s (record { call = report c u outcome len words; area = area })).state (rostered_at s (record { call = report c u outcome len words; area = area }) r) later ≡ 0
      → Once c u d s r (record { call = report c u outcome len words; area = area }) later
  unfolding count roster_after
  entered_once later f m =
      let all = both in
      record {
        at_most = omega (arith, all.0);
        exactly = λ e. let none : one_if (is_due ((roster_after s r (made ∷ later)).waits c u)) ≡ 0 = ap one_if e in omega (arith, all.0, none);
        not_yet = λ e. let one : one_if (is_due ((roster_after s r (made ∷ later)).waits c u)) ≡ 1 = ap one_if e in omega (arith, all.0, one);
        waiting = all.1;
      }
    where
      x : Call
      x = report c u outcome len words

      t : State
      t = (answer_to s (record { call = report c u outcome len words; area = area })).state

      q : Roster
      q = rostered_at s (record { call = report c u outcome len words; area = area }) r

      accepted : is_accepted (answer_of s area (report c u outcome len words)) ≡ true
      accepted = eq-eqb (answer_of s area (report c u outcome len words)).refusal 0 z

      q_is : q.waits c u ≡ (rostered s (report c u outcome len words) (answer_of s area (report c u outcome len words)) r).waits c u
      q_is = ap (λ (b : Bool). (cond b (rostered s (report c u outcome len words) (answer_of s area (report c u outcome len words)) r) r).waits c u) accepted

      e_is : (is_accepted (answer_of s area (report c u outcome len words)) && enters_it (waiting_at c u d) s (report c u outcome len words) (answer_of s area (report c u outcome len words)))
          ≡ enters_it (waiting_at c u d) s (report c u outcome len words) (answer_of s area (report c u outcome len words))
      e_is = ap (λ (b : Bool). b && enters_it (waiting_at c u d) s (report c u outcome len words) (answer_of s area (report c u outcome len words))) accepted

      go : Gone c u d due ((readied s (report c u outcome len words) (answer_of s area (report c u outcome len words)) r).waits c u)
          ((rostered s (report c u outcome len words) (answer_of s area (report c u outcome len words)) r).waits c u)
          (enters_it (waiting_at c u d) s (report c u outcome len words) (answer_of s area (report c u outcome len words)))
          → (count (enters_it (waiting_at c u d)) s (made ∷ later) + one_if (is_due ((roster_after s r (made ∷ later)).waits c u)) ≡ 1)
          × (is_due ((roster_after s r (made ∷ later)).waits c u) ≡ true → (roster_after s r (made ∷ later)).waits c u ≡ d)
      go (kept e n) =
          let y = once_more c u d due t q later (call_kept s area g x) (call_noted s area g r N x) f m (q_is ∙ e ∙ now_due) in
          let here : one_if (is_accepted (answer_of s area (report c u outcome len words)) && enters_it (waiting_at c u d) s (report c u outcome len words) (answer_of s area (report c u outcome len words))) ≡ 0 =
          ap one_if (e_is ∙ n) in
          (omega (arith, here, y.0), y.1)
      go (left e l n) =
          let y = no_more c u d due t q later (call_kept s area g x) (call_noted s area g r N x) f m (ap is_due (q_is ∙ e)) in
          let here : one_if (is_accepted (answer_of s area (report c u outcome len words)) && enters_it (waiting_at c u d) s (report c u outcome len words) (answer_of s area (report c u outcome len words))) ≡ 1 =
          ap one_if (e_is ∙ n ∙ ap (λ (k : Due). is_program (waiting_at c u k) (waiting_at c u d)) now_due ∙ same_program (waiting_at c u d)) in
          let none : one_if (is_due ((roster_after t q later).waits c u)) ≡ 0 = ap one_if y.1 in
          (omega (arith, here, none, y.0), λ k. true_not_false k y.1)

      both : (count (enters_it (waiting_at c u d)) s (made ∷ later) + one_if (is_due ((roster_after s r (made ∷ later)).waits c u)) ≡ 1)
          × (is_due ((roster_after s r (made ∷ later)).waits c u) ≡ true → (roster_after s r (made ∷ later)).waits c u ≡ d)
      both = go (call_gone c u d due s area g r N (report c u outcome len words) z)
