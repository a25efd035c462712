-- What ask, report, start and thaw keep of a channel: its facts, every unit's declaration, and what is requested of every other unit.
-- Assumes nothing.
use mathlib.Core.Path.{◌≡◌, refl, sym, ap, subst, ◌∙◌}
use mathlib.Core.Logic.{◌≢◌}
use mathlib.Core.Bool.{Bool, true, false, ◌||◌}
use mathlib.Core.Option.{Option, none, some}
use mathlib.Core.List.{List}
use Prim.Native.Nat.{ℕ, zero, suc, ◌<◌}
use native.Mathlib.Omega.{arith}
use lib.Dec.{leb, ltb, eqb}
use lib.ListN.{get_or}
use borrow.Author.Tests.{leb-true, le-leb, lt-ltb}
use Rattle.area.proofs.Walks.{by_test, true_not_false, and_left, and_right, and_both, or_either, or_first, or_second}
use Rattle.area.proofs.Bools.{both}
use Rattle.channel.specs.declared.Op.{Op}
use Rattle.channel.specs.declared.Position.{Position}
use Rattle.channel.specs.declared.Request.{Request}
use Rattle.channel.specs.declared.Turn.{Turn}
use Rattle.channel.specs.declared.Turn.TheVariants.{Idle, Waiting, Displaced, Working}
use Rattle.channel.specs.declared.Unit.{Unit}
use Rattle.channel.specs.declared.Channel.{Channel}
use Rattle.channel_turns.specs.declared.Asked.{Asked}
use Rattle.channel_outcomes.specs.declared.Ending.{Ending}
use Rattle.channel_outcomes.specs.declared.Verdict.{Verdict}
use Rattle.channel_outcomes.specs.declared.Verdict.TheVariants.{Repeats, Ends}
use Rattle.channel_outcomes.specs.Positions.{most_passed, position_after, noted_by}
use Rattle.channel.specs.Units.{size, idle_unit, unit_at, declared_at, turn_at, position_at, operation_at, with_unit, with_turn, is_idle, accepts_at}
use Rattle.channel_turns.specs.Scans.{working_in}
use Rattle.channel_turns.specs.Turns.{judge_turn, judge_of, goes_on, incomplete_turn, repeat_of, mark_moved, end_of, book_of, report_of}
use Rattle.channel_turns.specs.Starts.{start_of, thaw_of, new_request, ask_of}
use Rattle.channel_theorems.specs.History.{Station, station, Event, ask, report, thaw, Step, step}
use Rattle.channel_turns.proofs.Laws.Scans.{next_below}
use Rattle.channel_turns.proofs.Laws.Starts.{ask_taken}
use Rattle.channel_theorems.proofs.Theorems.Turning.{held_as, held, mark_as, mark_with, size_with, at_set, busy_inside, declared_inside}
use Rattle.channel_theorems.proofs.Theorems.Starts.{Begins, Started, is_frozen, is_busy, is_quiet, begins, started, start_alive}
use Rattle.channel_theorems.proofs.Theorems.Calls.{ended_at, ended_mark, Took, refuses, asks, repeats, ends, freezes, thaws, took, incomplete_held}
use Rattle.channel_theorems.proofs.Theorems.Positions.{Held, after_held_lem, noted_held}
use Rattle.channel_theorems.proofs.Theorems.Sound.{verdict_again, works, one_kept, ranges_kept}
use Rattle.state_sound.specs.Requests.{requested}
use Rattle.state_sound.specs.Soundness.{position_in_range, noise_known, noise_right, position_right}
use Rattle.state_sound.proofs.ChannelFacts.{ChannelFacts}
use Rattle.std.specs.declared.option.Option.{Option as OptionOf}
use Rattle.std.specs.declared.option.Option.TheVariants.{Some, None}
use Rattle.std.specs.Option.{is_some}

-- ---- what is requested of a unit is the operation that it holds

abbrev op_held : Option Request → OptionOf Op
op_held none = None
op_held (some q) = Some q.op

requested_held : (t : Turn) → requested t ≡ op_held (held t)
requested_held Idle = refl
requested_held (Waiting q) = refl
requested_held (Displaced q) = refl
requested_held (Working q) = refl

-- what two channels share at a unit
abbrev Alike : Channel → ℕ → Unit → Type 0
Alike c y k = (requested k.turn ≡ requested (turn_at c y)) × (k.declared ≡ declared_at c y)

-- ---- a start

pub start_alike : (c : Channel) (frozen : Bool) (y : ℕ) → Alike c y (unit_at (start_of c frozen) y)
start_alike c frozen y = go (start_of c frozen) (started c frozen)
  where
    go : (d : Channel) → Started c frozen d → Alike c y (unit_at d y)
    go d (is_frozen e) = (refl, refl)
    go d (is_busy x e) = (refl, refl)
    go d (is_quiet q) = (refl, refl)
    go d (begins x t b) =
        at_set c x t b.within (Alike c)
        (requested_held t ∙ ap op_held b.same ∙ sym (requested_held (turn_at c x)), refl) (λ z ne. (refl, refl)) y

pub start_mark : (k : Bool) (c : Channel) (frozen : Bool) → (mark_as k (start_of c frozen) ≡ mark_as k c) × (size (start_of c frozen) ≡ size c)
start_mark k c frozen = go (start_of c frozen) (started c frozen)
  where
    go : (d : Channel) → Started c frozen d → (mark_as k d ≡ mark_as k c) × (size d ≡ size c)
    go d (is_frozen e) = (refl, refl)
    go d (is_busy x e) = (refl, refl)
    go d (is_quiet q) = (refl, refl)
    go d (begins x t b) = (mark_with k c x t _, size_with c x t _)

start_works : (c : Channel) (frozen : Bool) → frozen ≡ false → (u : ℕ) → is_idle (turn_at (start_of c frozen) u) ≡ false → is_some (working_in (start_of c frozen)) ≡ true
start_works c frozen f u i = or_either frozen _ (start_alive c frozen (start_of c frozen) u (started c frozen) i) (λ e. true_not_false e f) (λ e. e)

-- ---- every call keeps a channel's facts

with_declared : (c : Channel) (x : ℕ) (t : Turn) (stood : Position) → x < size c → (y : ℕ) → declared_at (with_unit c x t stood) y ≡ declared_at c y
with_declared c x t stood l = at_set c x t l (λ y k. k.declared ≡ declared_at c y) refl (λ y ne. refl)

mark_below : (k : Bool) (c : Channel) (u : ℕ) (stood : Position) → mark_as k c < size c → mark_as k (ended_at c u stood) < size c
mark_below k c u stood h =
    let below = by_test (λ b. mark_moved b (size c) u (mark_as k c) < size c) (held_as k (turn_at c u)) (λ e. next_below (size c) u (omega arith)) (λ e. h) in
    subst (λ (n : ℕ). n < size c) (sym (ended_mark k c u stood)) below

-- ---- where the reels stand

-- what a sound position says of its counts
stands_held : (x : Unit) → position_right x ≡ true → Held x.position
unfolding position_right
stands_held x h =
    let p = x.position in
    let a = both {a = leb p.marks most_passed} (and_left (position_in_range x.declared p) _ h) in
    record { marks = leb-true p.marks most_passed a.0; records = leb-true p.records most_passed (and_left (leb p.records most_passed) _ a.1) }

-- of a declared unit
known_right : (x : Unit) → x.declared ≡ true → Held x.position → noise_right x.turn x.position ≡ true → position_right x ≡ true
unfolding position_right
known_right x d h n =
    let p = x.position in
    and_both (position_in_range x.declared p) _
    (and_both (leb p.marks most_passed) _ (le-leb p.marks most_passed h.marks)
    (and_both (leb p.records most_passed) _ (le-leb p.records most_passed h.records) (or_first x.declared _ d)))
    n

-- the noise of a unit's request goes by the request that it holds
abbrev held_noise : Option Request → Position → Bool
held_noise none p = true
held_noise (some q) p = noise_known q p

noise_held : (t : Turn) (p : Position) → noise_right t p ≡ held_noise (held t) p
noise_held Idle p = refl
noise_held (Waiting q) p = refl
noise_held (Displaced q) p = refl
noise_held (Working q) p = refl

noise_noted : (p : Position) (q : Request) (t : Turn) → held t ≡ some q → noise_right t (noted_by p q) ≡ true
unfolding noted_by
noise_noted p q t e = noise_held t (noted_by p q) ∙ ap (λ (h : Option Request). held_noise h (noted_by p q)) e ∙ either q.noise p.noisy
  where
    either : (n : ℕ) (b : Bool) → (eqb n 0 || (b || ltb 0 n)) ≡ true
    either zero b = refl
    either (suc n) b = or_second (eqb (suc n) 0) _ (or_second b _ (lt-ltb 0 (suc n) (omega arith)))

start_right : (c : Channel) (frozen : Bool) → ((y : ℕ) → position_right (unit_at c y) ≡ true) → (y : ℕ) → position_right (unit_at (start_of c frozen) y) ≡ true
unfolding position_right
start_right c frozen F y = go (start_of c frozen) (started c frozen)
  where
    go : (d : Channel) → Started c frozen d → position_right (unit_at d y) ≡ true
    go d (is_frozen e) = F y
    go d (is_busy x e) = F y
    go d (is_quiet q) = F y
    go d (begins x t b) = at_set c x t b.within (λ z k. position_right k ≡ true) (begun x t b) (λ z ne. F z) y
      where
        begun : (x : ℕ) (t : Turn) → Begins c x t → position_right (record { declared = declared_at c x; turn = t; position = position_at c x }) ≡ true
        begun x t b =
            let p = position_at c x in
            and_both (position_in_range (declared_at c x) p) _ (and_left (position_in_range (declared_at c x) p) _ (F x))
            (noise_held t p ∙ ap (λ (h : Option Request). held_noise h p) b.same ∙ sym (noise_held (turn_at c x) p) ∙ and_right (position_in_range (declared_at c x) p) _ (F x))

module _ (m : ℕ) (s : Station) (F : ChannelFacts m s.frozen s.channel) where
  took_declared : (e : Event) (o : Step) → Took s e o → (y : ℕ) → declared_at o.after.channel y ≡ declared_at s.channel y
  took_declared e o refuses y = refl
  took_declared e o (asks u op p d i) y = (start_alike _ s.frozen y).1 ∙ with_declared s.channel u _ _ (declared_inside s.channel u d) y
  took_declared e o (repeats u oc len r q t stood i j k stands) y = (start_alike _ s.frozen y).1 ∙ with_declared s.channel u t _ (busy_inside s.channel u (ap is_idle i)) y
  took_declared e o (ends u oc len r how stood i judged stands) y = (start_alike _ s.frozen y).1 ∙ with_declared s.channel u Idle _ (busy_inside s.channel u (ap is_idle i)) y
  took_declared e o freezes y = refl
  took_declared e o thaws y = (start_alike s.channel false y).1

  took_mark : (k : Bool) (e : Event) (o : Step) → Took s e o → mark_as k o.after.channel < size o.after.channel
  took_mark k e o refuses = F.mark k
  took_mark k e o (asks u op p d i) =
      let c = with_turn s.channel u (Waiting (new_request op p)) in
      let a = start_mark k c s.frozen in
      omega (arith, a.0, a.1, size_with s.channel u (Waiting (new_request op p)) (position_at s.channel u), mark_with k s.channel u (Waiting (new_request op p)) (position_at s.channel u), F.mark k)
  took_mark k e o (repeats u oc len r q t stood i j n stands) =
      let a = start_mark k (with_unit s.channel u t stood) s.frozen in
      omega (arith, a.0, a.1, size_with s.channel u t stood, mark_with k s.channel u t stood, F.mark k)
  took_mark k e o (ends u oc len r how stood i judged stands) =
      let a = start_mark k (ended_at s.channel u stood) s.frozen in
      omega (arith, a.0, a.1, size_with s.channel u Idle stood, mark_below k s.channel u stood (F.mark k))
  took_mark k e o freezes = F.mark k
  took_mark k e o thaws = let a = start_mark k s.channel false in omega (arith, a.0, a.1, F.mark k)

  took_stands : (e : Event) (o : Step) → Took s e o → (y : ℕ) → position_right (unit_at o.after.channel y) ≡ true
  took_stands e o refuses = F.stands
  took_stands e o (asks u op p d i) =
      start_right _ s.frozen
      (at_set s.channel u (Waiting (new_request op p)) (declared_inside s.channel u d) (λ y k. position_right k ≡ true)
      (known_right _ d (stands_held (unit_at s.channel u) (F.stands u)) refl) (λ y ne. F.stands y))
  took_stands e o (repeats u oc len r q t stood i j k stands) =
      let w = works s.channel u r F.ranges i in
      start_right _ s.frozen
      (at_set s.channel u t w.within (λ y k. position_right k ≡ true)
      (known_right _ w.known (rw stands (noted_held (position_at s.channel u) q (stands_held (unit_at s.channel u) (F.stands u))))
      (rw stands (noise_noted (position_at s.channel u) q t (incomplete_held q t k))))
      (λ y ne. F.stands y))
  took_stands e o (ends u oc len r how stood i judged stands) =
      let w = works s.channel u r F.ranges i in
      start_right (ended_at s.channel u stood) s.frozen
      (at_set s.channel u Idle w.within (λ y k. position_right k ≡ true)
      (known_right _ w.known (rw stands (after_held_lem (operation_at s.channel u) how (position_at s.channel u) (stands_held (unit_at s.channel u) (F.stands u)))) refl)
      (λ y ne. F.stands y))
  took_stands e o freezes = F.stands
  took_stands e o thaws = start_right s.channel false F.stands

  took_alive : (e : Event) (o : Step) → Took s e o → o.after.frozen ≡ false → (u : ℕ) → is_idle (turn_at o.after.channel u) ≡ false → is_some (working_in o.after.channel) ≡ true
  took_alive e o refuses = F.alive
  took_alive e o (asks u op p d i) = start_works _ s.frozen
  took_alive e o (repeats u oc len r q t stood i j n stands) = start_works _ s.frozen
  took_alive e o (ends u oc len r how stood i judged stands) = start_works _ s.frozen
  took_alive e o freezes = λ f. true_not_false refl f
  took_alive e o thaws = start_works s.channel false

  pub step_facts : (e : Event) → ChannelFacts m (step s e).after.frozen (step s e).after.channel
  step_facts e = record {
    mark = λ k. took_mark k e (step s e) (took s e);
    one = one_kept s e (step s e) F.one (took s e);
    ranges = ranges_kept s e (step s e) F.ranges (took s e);
    stands = took_stands e (step s e) (took s e);
    pool = λ u h. F.pool u (sym (took_declared e (step s e) (took s e) u) ∙ h);
    alive = took_alive e (step s e) (took s e);
  }

-- ---- ask and report, as replacements: r is requested of unit u afterwards, and all else is as it was

pub record Moved (m : ℕ) (frozen : Bool) (c x : Channel) (u : ℕ) (r : OptionOf Op) : Type 0 where
  pub facts : ChannelFacts m frozen x
  pub here : requested (turn_at x u) ≡ r
  pub known : declared_at x u ≡ declared_at c u
  pub others : (y : ℕ) → y ≢ u → (requested (turn_at x y) ≡ requested (turn_at c y)) × (declared_at x y ≡ declared_at c y)

-- another turn at a unit, and then a start
with_here : (c : Channel) (u : ℕ) (t : Turn) (stood : Position) → u < size c → requested (turn_at (with_unit c u t stood) u) ≡ requested t
with_here c u t stood l = at_set c u t l (λ y k. y ≡ u → requested k.turn ≡ requested t) (λ e. refl) (λ y ne e. absurd (ne e)) u refl

with_others : (c : Channel) (u : ℕ) (t : Turn) (stood : Position) → u < size c → (y : ℕ) → y ≢ u → Alike c y (unit_at (with_unit c u t stood) y)
with_others c u t stood l = at_set c u t l (λ y k. y ≢ u → Alike c y k) (λ ne. absurd (ne refl)) (λ y ne q. (refl, refl))

moved : (m : ℕ) (frozen : Bool) (c d : Channel) (u : ℕ) (t : Turn) (stood : Position) → u < size c → d.units ≡ (with_unit c u t stood).units
    → ChannelFacts m frozen (start_of d frozen)
    → Moved m frozen c (start_of d frozen) u (requested t)
moved m frozen c d u t stood l e F = record {
  facts = F;
  here = (start_alike d frozen u).0 ∙ same u (λ k. requested k.turn ≡ requested t) (with_here c u t stood l);
  known = (start_alike d frozen u).1 ∙ same u (λ k. k.declared ≡ declared_at c u) (with_declared c u t stood l u);
  others = λ y ne.
      let o : Alike c y (unit_at d y) = same y (Alike c y) (with_others c u t stood l y ne) in
      let a = start_alike d frozen y in
      (a.0 ∙ o.0, a.1 ∙ o.1);
}
  where
    same : (y : ℕ) (P : Unit → Type 0) → P (unit_at (with_unit c u t stood) y) → P (unit_at d y)
    same y P p = subst (λ (us : List Unit). P (get_or us y (idle_unit false))) (sym e) p

module _ (m : ℕ) (c : Channel) (u : ℕ) (frozen : Bool) (F : ChannelFacts m frozen c) where
  -- an accepted ask
  pub ask_moved_lem : (op : Op) (priority : Bool) → accepts_at c u ≡ true → Moved m frozen c (ask_of c u op priority frozen).channel u (Some op)
  unfolding accepts_at step
  ask_moved_lem op p a =
      let e : (ask_of c u op p frozen).channel ≡ start_of (with_turn c u (Waiting (new_request op p))) frozen =
      ap (λ (k : Asked). k.channel) (ask_taken c u op p frozen true (sym a) refl) in
      let F' : ChannelFacts m frozen (ask_of c u op p frozen).channel = step_facts m (station c frozen) F (ask u op p) in
      subst (λ (x : Channel). Moved m frozen c x u (Some op)) (sym e)
      (moved m frozen c (with_turn c u (Waiting (new_request op p))) u (Waiting (new_request op p)) (position_at c u) (declared_inside c u (and_left (declared_at c u) _ a)) refl
      (subst (ChannelFacts m frozen) e F'))

  booked_facts : (outcome len : ℕ) (v : Verdict) → judge_of c u outcome len ≡ v → ChannelFacts m frozen (book_of c u v frozen)
  unfolding step report_of
  booked_facts outcome len v e =
      let F' : ChannelFacts m frozen (book_of c u (judge_of c u outcome len) frozen) = step_facts m (station c frozen) F (report u outcome len) in
      subst (λ (w : Verdict). ChannelFacts m frozen (book_of c u w frozen)) e F'

  judged_again : (t : Turn) (outcome len : ℕ) (q : Request) → judge_turn t outcome len ≡ Repeats q → (is_idle t ≡ false) × (Some q.op ≡ requested t)
  judged_again Idle outcome len q e = absurd (let z : ◌≡◌ {A = ℕ} 0 1 = cc in omega arith)
  judged_again (Waiting r) outcome len q e = absurd (let z : ◌≡◌ {A = ℕ} 0 1 = cc in omega arith)
  judged_again (Displaced r) outcome len q e = absurd (let z : ◌≡◌ {A = ℕ} 0 1 = cc in omega arith)
  judged_again (Working r) outcome len q e = (refl, ap Some (verdict_again r outcome len q e).same_op)

  judged_ended : (t : Turn) (outcome len : ℕ) (k : Ending) → judge_turn t outcome len ≡ Ends k → is_idle t ≡ false
  judged_ended Idle outcome len k e = absurd (let z : ◌≡◌ {A = ℕ} 0 1 = cc in omega arith)
  judged_ended (Waiting r) outcome len k e = refl
  judged_ended (Displaced r) outcome len k e = refl
  judged_ended (Working r) outcome len k e = refl

  incomplete_op : (b : Bool) (q : Request) → requested (incomplete_turn b q) ≡ Some q.op
  incomplete_op true q = refl
  incomplete_op false q = refl

  -- a report after which the operation is repeated
  pub repeat_moved : (outcome len : ℕ) (q : Request) → judge_of c u outcome len ≡ Repeats q → Moved m frozen c (book_of c u (Repeats q) frozen) u (requested (turn_at c u))
  unfolding judge_of book_of repeat_of
  repeat_moved outcome len q e =
      let j = judged_again (turn_at c u) outcome len q e in
      subst (Moved m frozen c (start_of (with_unit c u (incomplete_turn (goes_on c q.priority frozen) q) (noted_by (position_at c u) q)) frozen) u) (incomplete_op (goes_on c q.priority frozen) q ∙ j.1)
      (moved m frozen c (with_unit c u (incomplete_turn (goes_on c q.priority frozen) q) (noted_by (position_at c u) q)) u (incomplete_turn (goes_on c q.priority frozen) q) (noted_by (position_at c u) q) (busy_inside c u j.0) refl (booked_facts outcome len (Repeats q) e))

  -- a report that ends the operation
  pub end_moved : (outcome len : ℕ) (k : Ending) → judge_of c u outcome len ≡ Ends k → Moved m frozen c (book_of c u (Ends k) frozen) u None
  unfolding judge_of book_of end_of
  end_moved outcome len k e =
      moved m frozen c (ended_at c u (position_after (operation_at c u) k (position_at c u))) u Idle (position_after (operation_at c u) k (position_at c u)) (busy_inside c u (judged_ended (turn_at c u) outcome len k e)) refl (booked_facts outcome len (Ends k) e)

-- ---- freeze and thaw

pub freeze_facts : (m : ℕ) (frozen : Bool) (c : Channel) → ChannelFacts m frozen c → ChannelFacts m true c
freeze_facts m frozen c F = record { mark = F.mark; one = F.one; ranges = F.ranges; stands = F.stands; pool = F.pool; alive = λ f. true_not_false refl f }

pub thaw_facts : (m : ℕ) (frozen : Bool) (c : Channel) → ChannelFacts m frozen c → ChannelFacts m false (thaw_of c)
unfolding step
thaw_facts m frozen c F = step_facts m (station c frozen) F thaw

pub thaw_alike : (c : Channel) (y : ℕ) → (requested (turn_at (thaw_of c) y) ≡ requested (turn_at c y)) × (declared_at (thaw_of c) y ≡ declared_at c y)
unfolding thaw_of
thaw_alike c y = start_alike c false y
