-- What a start does, as cases; and that after it the channel works, is frozen, or has no request. Assumes nothing.
use mathlib.Core.Path.{◌≡◌, refl, sym, subst}
use mathlib.Core.Logic.{◌≢◌}
use mathlib.Core.Bool.{Bool, true, false, not, cond, ◌||◌}
use Prim.Native.Nat.{ℕ, ◌<◌}
use Rattle.area.proofs.Walks.{true_not_false}
use Rattle.channel.specs.declared.Request.{Request}
use Rattle.channel.specs.declared.Turn.{Turn}
use Rattle.channel.specs.declared.Turn.TheVariants.{Idle, Waiting, Displaced, Working}
use Rattle.channel.specs.declared.Unit.{Unit}
use Rattle.channel.specs.declared.Channel.{Channel}
use Rattle.channel.specs.Units.{size, turn_at, with_turn, is_idle, is_working}
use Rattle.channel_turns.specs.Scans.{priority, begin_of, working_in, priority_in, ordinary_in, or_else, next_turn, Before, Scanned, finds, misses}
use Rattle.channel_turns.specs.Turns.{is_ordinary, holds_priority}
use Rattle.channel_turns.specs.Starts.{begun_turn, begun_at, start_of}
use Rattle.channel_theorems.proofs.Theorems.Order.{Compared, same, first, later, compare_before}
use Rattle.channel_theorems.proofs.Theorems.Turning.{wants_priority, wants_turn, works_turn, held_as, wants_as, works_as, held, begin_as, working_scan, priority_scan, ordinary_scan, at_set, everywhere, busy_inside}
use Rattle.std.specs.declared.option.Option.{Option}
use Rattle.std.specs.Option.{is_some}

-- ---- a start

not_both : {A : Type 0} (b : Bool) → b ≡ false → not b ≡ false → A
not_both true p q = true_not_false refl p
not_both false p q = true_not_false refl q

not_either : {A : Type 0} (b : Bool) → b ≡ true → not b ≡ true → A
not_either true p q = true_not_false q refl
not_either false p q = true_not_false p refl

-- of either kind
pub turn_wants : (k : Bool) (t : Turn) → held_as k t ≡ true → is_working t ≡ false → wants_as k t ≡ true
turn_wants true Idle h w = h
turn_wants true (Waiting q) h w = h
turn_wants true (Displaced q) h w = h
turn_wants true (Working q) h w = true_not_false refl w
turn_wants false Idle h w = h
turn_wants false (Waiting q) h w = h
turn_wants false (Displaced q) h w = h
turn_wants false (Working q) h w = true_not_false refl w

pub turn_works : (k : Bool) (t : Turn) → works_as k t ≡ true → is_working t ≡ true
turn_works k (Working q) h = refl
turn_works true Idle h = h
turn_works true (Waiting q) h = h
turn_works true (Displaced q) h = h
turn_works false Idle h = h
turn_works false (Waiting q) h = h
turn_works false (Displaced q) h = h

pub turn_busy : (k : Bool) (t : Turn) → held_as k t ≡ true → is_idle t ≡ false
turn_busy k (Waiting q) h = refl
turn_busy k (Displaced q) h = refl
turn_busy k (Working q) h = refl
turn_busy true Idle h = true_not_false h refl
turn_busy false Idle h = true_not_false h refl

-- one that is worked for is of its own kind
pub works_held : (k : Bool) (t : Turn) → works_as k t ≡ true → held_as k t ≡ true
works_held true (Working q) h = h
works_held true Idle h = h
works_held true (Waiting q) h = true_not_false h refl
works_held true (Displaced q) h = true_not_false h refl
works_held false (Working q) h = h
works_held false Idle h = h
works_held false (Waiting q) h = true_not_false h refl
works_held false (Displaced q) h = true_not_false h refl

-- and one of the other kind is not
pub kinds_apart : {A : Type 0} (t : Turn) → holds_priority t ≡ true → is_ordinary t ≡ true → A
kinds_apart Idle p o = true_not_false p refl
kinds_apart (Waiting q) p o = not_either q.priority p o
kinds_apart (Displaced q) p o = not_either q.priority p o
kinds_apart (Working q) p o = not_either q.priority p o

pub quiet_idle : (t : Turn) → is_working t ≡ false → wants_priority t ≡ false → wants_turn t ≡ false → is_idle t ≡ true
quiet_idle Idle a b c = refl
quiet_idle (Waiting q) a b c = not_both q.priority b c
quiet_idle (Displaced q) a b c = not_both q.priority b c
quiet_idle (Working q) a b c = true_not_false refl a

-- a request that waits and begins: it is held as before, and worked for
record Begun (k : Bool) (t : Turn) : Type 0 where
  begun : is_working (begun_turn t) ≡ true
  busy : is_idle t ≡ false
  same : held (begun_turn t) ≡ held t
  same_turn : (j : Bool) → held_as j (begun_turn t) ≡ held_as j t
  kind : held_as k (begun_turn t) ≡ true

same_kind : (q : Request) (j : Bool) → held_as j (Working q) ≡ held_as j (Waiting q)
same_kind q true = refl
same_kind q false = refl

same_displaced : (q : Request) (j : Bool) → held_as j (Working q) ≡ held_as j (Displaced q)
same_displaced q true = refl
same_displaced q false = refl

turn_begins : (k : Bool) (t : Turn) → wants_as k t ≡ true → Begun k t
turn_begins true Idle h = true_not_false h refl
turn_begins true (Waiting q) h = record { begun = refl; busy = refl; same = refl; same_turn = same_kind q; kind = h }
turn_begins true (Displaced q) h = record { begun = refl; busy = refl; same = refl; same_turn = same_displaced q; kind = h }
turn_begins true (Working q) h = true_not_false h refl
turn_begins false Idle h = true_not_false h refl
turn_begins false (Waiting q) h = record { begun = refl; busy = refl; same = refl; same_turn = same_kind q; kind = h }
turn_begins false (Displaced q) h = record { begun = refl; busy = refl; same = refl; same_turn = same_displaced q; kind = h }
turn_begins false (Working q) h = true_not_false h refl

-- unit x of an idle channel begins, at the turn t, in the turn of its own kind; an ordinary one only if no priority request waits
pub record Begins (c : Channel) (x : ℕ) (t : Turn) : Type 0 where
  pub within : x < size c
  pub same : held t ≡ held (turn_at c x)
  pub same_turn : (k : Bool) → held_as k t ≡ held_as k (turn_at c x)
  pub begins : is_working t ≡ true
  pub was_idle : (y : ℕ) → is_working (turn_at c y) ≡ false
  pub in_turn : (k : Bool) → works_as k t ≡ true → (y : ℕ) → wants_as k (turn_at c y) ≡ true → y ≢ x → Before (begin_as k c) y x
  pub urgent_first : works_turn t ≡ true → (y : ℕ) → wants_priority (turn_at c y) ≡ false

pub data Started (c : Channel) (frozen : Bool) : Channel → Type 0 where
  is_frozen : frozen ≡ true → Started c frozen c
  is_busy : (x : ℕ) → is_working (turn_at c x) ≡ true → Started c frozen c
  is_quiet : ((x : ℕ) → is_idle (turn_at c x) ≡ true) → Started c frozen c
  begins : (x : ℕ) (t : Turn) → Begins c x t → Started c frozen (with_turn c x t)

pub started : (c : Channel) (frozen : Bool) → Started c frozen (start_of c frozen)
unfolding start_of next_turn
started c frozen = go frozen (working_in c) (priority_in c) (ordinary_in c) refl (working_scan c) (priority_scan c) (ordinary_scan c)
  where
    all : (test : Turn → Bool) → test Idle ≡ false → ((y : ℕ) → y < size c → test (turn_at c y) ≡ false) → (y : ℕ) → test (turn_at c y) ≡ false
    all test e f = everywhere c (λ (k : Unit). test k.turn) e f

    -- x is the first of kind k, and an ordinary one begins only if no priority request waits
    by_turn : (k : Bool) (x : ℕ) → ((y : ℕ) → is_working (turn_at c y) ≡ false) → wants_as k (turn_at c x) ≡ true
        → ((y : ℕ) → y < size c → Before (begin_as k c) x y → wants_as k (turn_at c y) ≡ false)
        → (is_ordinary (begun_turn (turn_at c x)) ≡ true → (y : ℕ) → wants_priority (turn_at c y) ≡ false) → Begins c x (begun_turn (turn_at c x))
    by_turn k x f e g h = let b = turn_begins k (turn_at c x) e in record {
      within = busy_inside c x b.busy;
      same = b.same;
      same_turn = b.same_turn;
      begins = b.begun;
      was_idle = f;
      in_turn = λ j t y w ne. first_of j (same_as j k (begun_turn (turn_at c x)) (works_held j (begun_turn (turn_at c x)) t) b.kind) y w ne;
      urgent_first = λ t. h (works_held false (begun_turn (turn_at c x)) t);
    }
      where
        same_as : (j k : Bool) (t : Turn) → held_as j t ≡ true → held_as k t ≡ true → j ≡ k
        same_as true true t p q = refl
        same_as true false t p q = kinds_apart t p q
        same_as false true t p q = kinds_apart t q p
        same_as false false t p q = refl

        first_of : (j : Bool) → j ≡ k → (y : ℕ) → wants_as j (turn_at c y) ≡ true → y ≢ x → Before (begin_as j c) y x
        first_of j q = subst (λ (i : Bool). (y : ℕ) → wants_as i (turn_at c y) ≡ true → y ≢ x → Before (begin_as i c) y x) (sym q)
            (λ y w ne. compared y w ne (compare_before (begin_as k c) x y))
          where
            compared : (y : ℕ) → wants_as k (turn_at c y) ≡ true → y ≢ x → Compared (begin_as k c) x y → Before (begin_as k c) y x
            compared y w ne (same i) = absurd (ne (sym i))
            compared y w ne (first i) = i
            compared y w ne (later i) = true_not_false w (g y (busy_inside c y (turn_begins k (turn_at c y) w).busy) i)

    go : (b : Bool) (w p o : Option ℕ) → frozen ≡ b
        → Scanned (λ x. is_working (turn_at c x)) (size c) (begin_of (size c) 0) w
        → Scanned (λ x. wants_priority (turn_at c x)) (size c) (begin_as true c) p
        → Scanned (λ x. wants_turn (turn_at c x)) (size c) (begin_as false c) o
        → Started c frozen (cond (b || is_some w) c (begun_at c (or_else p o)))
    go true w p o e i j k = is_frozen e
    go false w p o e (finds x l t f) j k = is_busy x t
    go false w p o e (misses f) (finds x l t g) k =
        begins x (begun_turn (turn_at c x)) (by_turn true x (all is_working refl f) t g (λ i. kinds_apart (begun_turn (turn_at c x)) (turn_begins true (turn_at c x) t).kind i))
    go false w p o e (misses f) (misses g) (finds x l t h) =
        begins x (begun_turn (turn_at c x)) (by_turn false x (all is_working refl f) t h (λ i. all wants_priority refl g))
    go false w p o e (misses f) (misses g) (misses h) =
        is_quiet (λ x. quiet_idle (turn_at c x) (all is_working refl f x) (all wants_priority refl g x) (all wants_turn refl h x))

-- ---- the channel works for a unit exactly if the scan for it finds one

pub works_found : (c : Channel) (x : ℕ) → is_working (turn_at c x) ≡ true → is_some (working_in c) ≡ true
works_found c x e = go (working_in c) (working_scan c)
  where
    go : (w : Option ℕ) → Scanned (λ y. is_working (turn_at c y)) (size c) (begin_of (size c) 0) w → is_some w ≡ true
    go w (finds y l t f) = refl
    go w (misses f) = true_not_false e (everywhere c (λ (k : Unit). is_working k.turn) refl f x)

-- and a priority request waits exactly if the scan for them finds one
pub urgent_found : (c : Channel) (x : ℕ) → wants_priority (turn_at c x) ≡ true → is_some (priority_in c) ≡ true
urgent_found c x e = go (priority_in c) (priority_scan c)
  where
    go : (w : Option ℕ) → Scanned (λ y. wants_priority (turn_at c y)) (size c) (begin_as true c) w → is_some w ≡ true
    go w (finds y l t f) = refl
    go w (misses f) = true_not_false e (everywhere c (λ (k : Unit). wants_priority k.turn) refl f x)

-- after a start, a unit that holds a request sees the channel working or frozen
pub start_alive : (c : Channel) (frozen : Bool) (d : Channel) (u : ℕ) → Started c frozen d → is_idle (turn_at d u) ≡ false → (frozen || is_some (working_in d)) ≡ true
start_alive c frozen d u (is_frozen e) i = rw e
start_alive c frozen d u (is_busy x e) i = or_found frozen (works_found c x e)
  where
    or_found : (b : Bool) {w : Bool} → w ≡ true → (b || w) ≡ true
    or_found true h = refl
    or_found false h = h
start_alive c frozen d u (is_quiet f) i = true_not_false (f u) i
start_alive c frozen d u (begins x t b) i = or_found frozen (works_found (with_turn c x t) x here)
  where
    or_found : (b : Bool) {w : Bool} → w ≡ true → (b || w) ≡ true
    or_found true h = refl
    or_found false h = h

    here : is_working (turn_at (with_turn c x t) x) ≡ true
    here = at_set c x t b.within (λ y k. y ≡ x → is_working k.turn ≡ true) (λ e. b.begins) (λ y ne e. absurd (ne e)) x refl
