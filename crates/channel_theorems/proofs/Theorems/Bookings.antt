-- What each unit holds after a call, where the mark stands then, and which unit a start begins. Assumes nothing.
use mathlib.Core.Path.{◌≡◌, refl, sym, ap, ◌∙◌}
use mathlib.Core.Logic.{◌≢◌, ◌⊎◌, inl, inr}
use mathlib.Core.Bool.{Bool, true, false, not, cond, ◌||◌}
use mathlib.Core.Option.{Option, none, some}
use Prim.Native.Nat.{ℕ, ◌<◌}
use native.Mathlib.Decide.{ℕ_discrete}
use native.Mathlib.Omega.{arith}
use lib.Dec.{eqb}
use borrow.Author.Tests.{eq-eqb, ne_eqb}
use Rattle.area.proofs.Walks.{true_not_false}
use Rattle.area.proofs.Marks.{cond_true, cond_false}
use Rattle.channel.specs.declared.Op.{Op}
use Rattle.channel.specs.declared.Position.{Position}
use Rattle.channel.specs.declared.Request.{Request}
use Rattle.channel.specs.declared.Turn.{Turn}
use Rattle.channel.specs.declared.Turn.TheVariants.{Idle, Waiting, Displaced, Working}
use Rattle.channel.specs.declared.Unit.{Unit}
use Rattle.channel.specs.declared.Channel.{Channel}
use Rattle.channel.specs.Units.{size, turn_at, position_at, operation_at, with_unit, with_turn, is_idle, is_working}
use Rattle.channel_turns.specs.Scans.{working_in, priority_in, ordinary_in, next_turn, or_else, begin_of, Before, Scanned, finds, misses}
use Rattle.channel_outcomes.specs.declared.Ending.{Ending}
use Rattle.channel_outcomes.specs.Positions.{position_after, noted_by}
use Rattle.channel_turns.specs.Starts.{begun_turn, start_of, new_request}
use Rattle.channel_turns.specs.Turns.{incomplete_turn, goes_on, repeat_of, mark_moved, end_of}
use Rattle.channel_turns.proofs.Laws.Starts.{start_stays, start_begins}
use Rattle.channel_theorems.specs.History.{Station, ask, accepted, Step}
use Rattle.channel_theorems.proofs.Theorems.Scan.{scan_unique}
use Rattle.channel_theorems.proofs.Theorems.Turning.{wants_priority, wants_turn, held_as, held, mark_as, mark_with, begin_as, working_scan, priority_scan, ordinary_scan, at_set, everywhere, busy_inside, declared_inside}
use Rattle.channel_theorems.proofs.Theorems.Starts.{Started, is_frozen, is_busy, is_quiet, begins, started, works_found, urgent_found}
use Rattle.channel_theorems.proofs.Theorems.Calls.{ended_at, ended_mark, Took, refuses, asks}
use Rattle.channel_theorems.proofs.Theorems.Sound.{OneWorks}
use Rattle.std.specs.declared.option.Option.{Option as OptionOf}
use Rattle.std.specs.declared.option.Option.TheVariants.{Some, None}
use Rattle.std.specs.Option.{is_some}

-- ---- what each unit holds

pub held_start : (c : Channel) (f : Bool) (y : ℕ) → held (turn_at (start_of c f) y) ≡ held (turn_at c y)
held_start c f y = go (start_of c f) (started c f)
  where
    go : (d : Channel) → Started c f d → held (turn_at d y) ≡ held (turn_at c y)
    go d (is_frozen e) = refl
    go d (is_busy x e) = refl
    go d (is_quiet g) = refl
    go d (begins x t b) = at_set c x t b.within (λ z k. held k.turn ≡ held (turn_at c z)) b.same (λ z ne. refl) y

held_set : (c : Channel) (x : ℕ) (t : Turn) (stood : Position) (y : ℕ) → x < size c
    → held (turn_at (with_unit c x t stood) y) ≡ cond (eqb y x) (held t) (held (turn_at c y))
held_set c x t stood y l =
    at_set c x t l (λ z k. held k.turn ≡ cond (eqb z x) (held t) (held (turn_at c z)))
    (sym (cond_true (held t) (held (turn_at c x)) (eq-eqb x x refl)))
    (λ z ne. sym (cond_false (held t) (held (turn_at c z)) (ne_eqb z x ne))) y

-- a start leaves both marks
pub mark_start : (k : Bool) (c : Channel) (f : Bool) → mark_as k (start_of c f) ≡ mark_as k c
mark_start k c f = go (start_of c f) (started c f)
  where
    go : (d : Channel) → Started c f d → mark_as k d ≡ mark_as k c
    go d (is_frozen e) = refl
    go d (is_busy x e) = refl
    go d (is_quiet g) = refl
    go d (begins x t b) = mark_with k c x t _

-- an accepted ask
pub ask_held : (s : Station) (u : ℕ) (op : Op) (p : Bool) (o : Step) → Took s (ask u op p) o → o.answer ≡ accepted → (y : ℕ)
    → held (turn_at o.after.channel y) ≡ cond (eqb y u) (some (new_request op p)) (held (turn_at s.channel y))
ask_held s u op p o refuses e y = absurd (let z : ◌≡◌ {A = ℕ} 0 1 = cc in omega arith)
ask_held s u op p o (asks x q b d i) e y =
    held_start (with_turn s.channel x (Waiting (new_request q b))) s.frozen y
    ∙ held_set s.channel x (Waiting (new_request q b)) _ y (declared_inside s.channel x d)

pub ask_mark : (k : Bool) (s : Station) (u : ℕ) (op : Op) (p : Bool) (o : Step) → Took s (ask u op p) o → mark_as k o.after.channel ≡ mark_as k s.channel
ask_mark k s u op p o refuses = refl
ask_mark k s u op p o (asks x q b d i) =
    mark_start k (with_turn s.channel x (Waiting (new_request q b))) s.frozen ∙ mark_with k s.channel x (Waiting (new_request q b)) _

-- an operation that is repeated, and one that has ended
module _ (c : Channel) (u : ℕ) (l : u < size c) (frozen : Bool) where
  -- where the reel stands then
  abbrev going : Request → Position
  going q = noted_by (position_at c u) q

  abbrev ending : Ending → Position
  ending e = position_after (operation_at c u) e (position_at c u)

  pub repeat_held : (q : Request) (y : ℕ) → held (turn_at (repeat_of c u q frozen) y) ≡ cond (eqb y u) (some q) (held (turn_at c y))
  unfolding repeat_of
  repeat_held q y =
      held_start (with_unit c u (incomplete_turn (goes_on c q.priority frozen) q) (going q)) frozen y
      ∙ held_set c u (incomplete_turn (goes_on c q.priority frozen) q) _ y l
      ∙ ap (λ (h : Option Request). cond (eqb y u) h (held (turn_at c y))) (either (goes_on c q.priority frozen))
    where
      either : (b : Bool) → held (incomplete_turn b q) ≡ some q
      either true = refl
      either false = refl

  pub repeat_mark : (k : Bool) (q : Request) → mark_as k (repeat_of c u q frozen) ≡ mark_as k c
  unfolding repeat_of
  repeat_mark k q =
      mark_start k (with_unit c u (incomplete_turn (goes_on c q.priority frozen) q) (going q)) frozen
      ∙ mark_with k c u (incomplete_turn (goes_on c q.priority frozen) q) _

  pub end_held : (e : Ending) (y : ℕ) → held (turn_at (end_of c u e frozen) y) ≡ cond (eqb y u) none (held (turn_at c y))
  unfolding end_of
  end_held e y = held_start (ended_at c u (ending e)) frozen y ∙ held_set c u Idle _ y l

  -- each end moves the mark of its own kind
  pub end_mark : (k : Bool) (e : Ending) → mark_as k (end_of c u e frozen) ≡ mark_moved (held_as k (turn_at c u)) (size c) u (mark_as k c)
  unfolding end_of
  end_mark k e = mark_start k (ended_at c u (ending e)) frozen ∙ ended_mark k c u (ending e)

-- ---- which unit a start begins

-- no unit works
abbrev pub Quiet : Channel → Type 0
Quiet c = (x : ℕ) → is_working (turn_at c x) ≡ false

-- a request that is held, as a priority one or as an ordinary one
abbrev pub urgent_held : Option Request → Bool
urgent_held none = false
urgent_held (some q) = q.priority

abbrev pub ordinary_held : Option Request → Bool
ordinary_held none = false
ordinary_held (some q) = not q.priority

-- a request that is not worked for wants its turn
pub wants_priority_lem : (t : Turn) → is_working t ≡ false → wants_priority t ≡ urgent_held (held t)
wants_priority_lem Idle w = refl
wants_priority_lem (Waiting q) w = refl
wants_priority_lem (Displaced q) w = refl
wants_priority_lem (Working q) w = true_not_false refl w

wants_turn_lem : (t : Turn) → is_working t ≡ false → wants_turn t ≡ ordinary_held (held t)
wants_turn_lem Idle w = refl
wants_turn_lem (Waiting q) w = refl
wants_turn_lem (Displaced q) w = refl
wants_turn_lem (Working q) w = true_not_false refl w

pub not_urgent : (t : Turn) → urgent_held (held t) ≡ false → wants_priority t ≡ false
not_urgent Idle e = refl
not_urgent (Waiting q) e = e
not_urgent (Displaced q) e = e
not_urgent (Working q) e = refl

begun_urgent : (t : Turn) → urgent_held (held t) ≡ true → (is_working (begun_turn t) ≡ true) × (is_idle t ≡ false)
begun_urgent Idle e = true_not_false e refl
begun_urgent (Waiting q) e = (refl, refl)
begun_urgent (Displaced q) e = (refl, refl)
begun_urgent (Working q) e = (refl, refl)

begun_ordinary : (t : Turn) → ordinary_held (held t) ≡ true → (is_working (begun_turn t) ≡ true) × (is_idle t ≡ false)
begun_ordinary Idle e = true_not_false e refl
begun_ordinary (Waiting q) e = (refl, refl)
begun_ordinary (Displaced q) e = (refl, refl)
begun_ordinary (Working q) e = (refl, refl)

module _ (c : Channel) (quiet : Quiet c) where
  pub none_works : working_in c ≡ None
  none_works = scan_unique (working_scan c) (misses (λ y l. quiet y))

  -- a start of that unit
  begins_at : (y : ℕ) → Some y ≡ next_turn c → is_working (begun_turn (turn_at c y)) ≡ true → is_idle (turn_at c y) ≡ false
      → is_working (turn_at (start_of c false) y) ≡ true
  begins_at y e w i =
      ap (λ (d : Channel). is_working (turn_at d y)) (start_begins c false false (sym (ap is_some none_works)) refl (Some y) e)
      ∙ at_set c y (begun_turn (turn_at c y)) (busy_inside c y i) (λ z k. z ≡ y → is_working k.turn ≡ true) (λ q. w) (λ z ne q. absurd (ne q)) y refl

  -- "Priority requests are now scanned as ordinary ones are"
  pub start_urgent : (y : ℕ) → urgent_held (held (turn_at c y)) ≡ true
      → ((z : ℕ) → z < size c → Before (begin_as true c) y z → urgent_held (held (turn_at c z)) ≡ false)
      → is_working (turn_at (start_of c false) y) ≡ true
  unfolding next_turn
  start_urgent y u first =
      let b = begun_urgent (turn_at c y) u in
      let l = busy_inside c y b.1 in
      begins_at y
      (ap (λ (f : OptionOf ℕ). or_else f (ordinary_in c))
      (scan_unique (finds y l (wants_priority_lem (turn_at c y) (quiet y) ∙ u) (λ z k o. not_urgent (turn_at c z) (first z k o))) (priority_scan c)))
      b.0 b.1

  -- "else a scan starts a waiting or displaced one"
  pub start_ordinary : ((z : ℕ) → urgent_held (held (turn_at c z)) ≡ false) → (y : ℕ) → ordinary_held (held (turn_at c y)) ≡ true
      → ((z : ℕ) → z < size c → Before (begin_as false c) y z → ordinary_held (held (turn_at c z)) ≡ false)
      → is_working (turn_at (start_of c false) y) ≡ true
  unfolding next_turn
  start_ordinary none-urgent y u first =
      let b = begun_ordinary (turn_at c y) u in
      let l = busy_inside c y b.1 in
      let p : None ≡ priority_in c = scan_unique (misses (λ z k. not_urgent (turn_at c z) (none-urgent z))) (priority_scan c) in
      let o : Some y ≡ ordinary_in c =
      scan_unique (finds y l (wants_turn_lem (turn_at c y) (quiet y) ∙ u) (λ z k q. wants_turn_lem (turn_at c z) (quiet z) ∙ first z k q)) (ordinary_scan c) in
      begins_at y (o ∙ ap (λ (f : OptionOf ℕ). or_else f (ordinary_in c)) p) b.0 b.1

-- a channel that works, or that is frozen, starts nothing
pub start_busy : (c : Channel) (f : Bool) (x : ℕ) → is_working (turn_at c x) ≡ true → start_of c f ≡ c
start_busy c f x w = start_stays c f true (sym (works_found c x w)) (either f)
  where
    either : (b : Bool) → (b || true) ≡ true
    either true = refl
    either false = refl

pub start_frozen : (c : Channel) → start_of c true ≡ c
start_frozen c = start_stays c true (is_some (working_in c)) refl refl

-- ---- an operation that is repeated: it goes on, or is set aside

-- the channel is quiet once its one working unit stops
pub quiet_set : (c : Channel) (u : ℕ) (t : Turn) (stood : Position) → OneWorks c → is_working (turn_at c u) ≡ true → is_working t ≡ false → u < size c
    → Quiet (with_unit c u t stood)
quiet_set c u t stood one w stops l = at_set c u t l (λ y k. is_working k.turn ≡ false) stops (λ y ne. other y ne (is_working (turn_at c y)) refl)
  where
    other : (y : ℕ) → y ≢ u → (b : Bool) → is_working (turn_at c y) ≡ b → b ≡ false
    other y ne true e = absurd (ne (one y u e w))
    other y ne false e = refl

module _ (c : Channel) (u : ℕ) (r q : Request) (at : turn_at c u ≡ Working r) where
  -- where the reel stands while q is repeated
  abbrev stands : Position
  stands = noted_by (position_at c u) q

  inside_u : u < size c
  inside_u = busy_inside c u (ap is_idle at)

  onward_by : goes_on c q.priority false ≡ true → is_working (turn_at (repeat_of c u q false) u) ≡ true
  unfolding repeat_of
  onward_by g =
      ap (λ (b : Bool). is_working (turn_at (start_of (with_unit c u (incomplete_turn b q) stands) false) u)) g
      ∙ ap (λ (d : Channel). is_working (turn_at d u)) (start_busy (with_unit c u (Working q) stands) false u here) ∙ here
    where
      here : is_working (turn_at (with_unit c u (Working q) stands) u) ≡ true
      here = at_set c u (Working q) inside_u (λ y k. y ≡ u → is_working k.turn ≡ true) (λ e. refl) (λ y ne e. absurd (ne e)) u refl

  -- "a priority operation is not displaced"
  pub onward_urgent : q.priority ≡ true → is_working (turn_at (repeat_of c u q false) u) ≡ true
  unfolding goes_on
  onward_urgent p = onward_by (rw p)

  -- "else the incomplete operation continues"
  pub onward_alone : ((y : ℕ) → y ≢ u → urgent_held (held (turn_at c y)) ≡ false) → is_working (turn_at (repeat_of c u q false) u) ≡ true
  unfolding goes_on
  onward_alone quiet = onward_by (ap (λ (f : OptionOf ℕ). q.priority || not (is_some f)) no_one ∙ either q.priority)
    where
      no_one : priority_in c ≡ None
      no_one = scan_unique (priority_scan c) (misses (λ y l. go y (ℕ_discrete y u)))
        where
          go : (y : ℕ) → Dec (y ≡ u) → wants_priority (turn_at c y) ≡ false
          go y (yes e) = ap (λ (n : ℕ). wants_priority (turn_at c n)) e ∙ ap wants_priority at
          go y (no ne) = not_urgent (turn_at c y) (quiet y ne)

      either : (b : Bool) → (b || true) ≡ true
      either true = refl
      either false = refl

  -- "a waiting priority request starts, displacing an incomplete ordinary one"
  pub set_aside : q.priority ≡ false → (y : ℕ) → wants_priority (turn_at c y) ≡ true
      → repeat_of c u q false ≡ start_of (with_unit c u (Displaced q) stands) false
  unfolding repeat_of goes_on
  set_aside p y w =
      ap (λ (b : Bool). start_of (with_unit c u (incomplete_turn (b || not (is_some (priority_in c))) q) stands) false) p
      ∙ ap (λ (b : Bool). start_of (with_unit c u (incomplete_turn (not b) q) stands) false) (urgent_found c y w)

-- ---- who works

pub record Busy (c : Channel) : Type 0 where
  pub unit : ℕ
  pub works : is_working (turn_at c unit) ≡ true

pub found_busy : (c : Channel) → is_some (working_in c) ≡ true → Busy c
found_busy c e = go (working_in c) (working_scan c) e
  where
    go : (f : OptionOf ℕ) → Scanned (λ x. is_working (turn_at c x)) (size c) (begin_of (size c) 0) f → is_some f ≡ true → Busy c
    go f (finds x l t g) e = record { unit = x; works = t }
    go f (misses g) e = true_not_false e refl

pub quiet_or_busy : (c : Channel) → Quiet c ⊎ Busy c
quiet_or_busy c = go (working_in c) (working_scan c)
  where
    go : (f : OptionOf ℕ) → Scanned (λ x. is_working (turn_at c x)) (size c) (begin_of (size c) 0) f → Quiet c ⊎ Busy c
    go f (finds x l t g) = inr (record { unit = x; works = t })
    go f (misses g) = inl (everywhere c (λ (k : Unit). is_working k.turn) refl g)

-- the one unit that works is the one found
pub working_at : (c : Channel) → OneWorks c → (u : ℕ) → is_working (turn_at c u) ≡ true → working_in c ≡ Some u
working_at c one u w = go (working_in c) (working_scan c)
  where
    go : (f : OptionOf ℕ) → Scanned (λ x. is_working (turn_at c x)) (size c) (begin_of (size c) 0) f → f ≡ Some u
    go f (finds x l t g) = ap Some (one x u t w)
    go f (misses g) = true_not_false w (everywhere c (λ (k : Unit). is_working k.turn) refl g u)
