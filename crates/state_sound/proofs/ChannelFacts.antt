-- A channel's part of a sound state as facts, both ways; and what calls on a channel keep of it. Assumes nothing.
use mathlib.Core.Path.{◌≡◌, refl, sym, ap, ◌∙◌}
use mathlib.Core.Bool.{Bool, true, false, not, ◌||◌}
use mathlib.Core.List.{List}
use Prim.Native.Nat.{ℕ, ◌≤◌, ◌<◌}
use native.Mathlib.Omega.{arith}
use lib.Dec.{leb, ltb, eqb}
use lib.ListN.{get_or, get_or-map}
use borrow.Author.Tests.{leb-true, le-leb, ltb-true, lt-ltb, eqb-true, eq-eqb}
use Rattle.area.specs.Lists.{any_of, all_of, count_of}
use Rattle.area.proofs.Walks.{by_test, true_not_false, and_left, and_right, and_both, or_either, or_first, or_second, at_all, none_at}
use Rattle.area.proofs.Marks.{unless, unless_so}
use Rattle.area.proofs.Bools.{both, any_at, at_any}
use Rattle.channel.specs.declared.Position.{Position}
use Rattle.channel.specs.declared.Request.{Request}
use Rattle.channel.specs.declared.Turn.{Turn}
use Rattle.channel.specs.declared.Turn.TheVariants.{Idle, Waiting, Displaced, Working}
use Rattle.channel.specs.declared.Unit.{Unit}
use Rattle.channel.specs.declared.Channel.{Channel}
use Rattle.channel_outcomes.specs.Rules.{row_of}
use Rattle.channel.specs.Units.{size, at_start, idle_unit, unit_at, declared_at, turn_at, position_at, fresh_with, bits_from, fresh_of, is_idle, has_request, is_working, unit_works}
use Rattle.channel_turns.specs.Scans.{begin_of, working_in, Scanned, finds, misses}
use Rattle.channel_theorems.proofs.Theorems.Turning.{held, mark_as, working_scan}
use Rattle.channel_theorems.proofs.Theorems.Starts.{works_found}
use Rattle.channel_theorems.proofs.Theorems.Sound.{Counted, OneWorks, HoldOk, InRanges}
use Rattle.state.specs.Places.{no_channel}
use Rattle.state_sound.specs.Requests.{requested, is_none, is_waiting}
use Rattle.state_sound.specs.Soundness.{position_right, marks_right, unit_waits, works_right}
use Rattle.state_sound.specs.Judged.{is_counted, turn_right, unit_right}
use Rattle.state_sound.proofs.Everywhere.{by_place, all_places, place_inside, count_some, some_place, count_one_place, one_place_count}
use Rattle.std.specs.declared.option.Option.{Option}
use Rattle.std.specs.Option.{is_some}
use Rattle.channel.specs.declared.Op.{Op}

pub record ChannelFacts (m : ℕ) (frozen : Bool) (c : Channel) : Type 0 where
  -- the mark of either scan is a unit's number
  pub mark : (k : Bool) → mark_as k c < size c
  -- it works for at most one request
  pub one : OneWorks c
  -- a unit that has a request is declared, and the request's counts are within their limits
  pub ranges : InRanges c
  -- every unit's reel stands where it may
  pub stands : (u : ℕ) → position_right (unit_at c u) ≡ true
  -- units are declared in a pool with buffers
  pub pool : (u : ℕ) → declared_at c u ≡ true → 0 < m
  -- where the pack is not frozen and a unit has a request, it works for one
  pub alive : frozen ≡ false → (u : ℕ) → is_idle (turn_at c u) ≡ false → is_some (working_in c) ≡ true

-- ---- one unit

counted : (q : Request) → is_counted q ≡ true → Counted q
counted q h =
    let a = both {a = leb 1 q.attempts} h in
    let b = both {a = leb q.attempts (row_of q.op).attempts} a.1 in
    let n = both {a = leb q.incomplete (row_of q.op).incomplete} b.1 in
    record {
      from = leb-true 1 q.attempts a.0;
      limit = leb-true q.attempts (row_of q.op).attempts b.0;
      words = leb-true q.incomplete (row_of q.op).incomplete n.0;
      noises = leb-true q.noise (row_of q.op).noise n.1;
    }

is_counted_lem : (q : Request) → Counted q → is_counted q ≡ true
is_counted_lem q k =
    and_both (leb 1 q.attempts) _ (le-leb 1 q.attempts k.from)
    (and_both (leb q.attempts (row_of q.op).attempts) _ (le-leb q.attempts (row_of q.op).attempts k.limit)
    (and_both (leb q.incomplete (row_of q.op).incomplete) _ (le-leb q.incomplete (row_of q.op).incomplete k.words) (le-leb q.noise (row_of q.op).noise k.noises)))

hold_ok : (d : Bool) (t : Turn) → (d || is_none (requested t)) ≡ true → turn_right t ≡ true → HoldOk d (held t)
hold_ok d Idle h k = tt
hold_ok d (Waiting q) h k = (or_either d false h (λ e. e) (λ e. true_not_false e refl), counted q k)
hold_ok d (Displaced q) h k = (or_either d false h (λ e. e) (λ e. true_not_false e refl), counted q k)
hold_ok d (Working q) h k = (or_either d false h (λ e. e) (λ e. true_not_false e refl), counted q k)

ok_held : (d : Bool) (t : Turn) → HoldOk d (held t) → ((d || is_none (requested t)) ≡ true) × (turn_right t ≡ true)
ok_held d Idle h = (or_second d true refl, refl)
ok_held d (Waiting q) h = (or_first d false h.0, is_counted_lem q h.1)
ok_held d (Displaced q) h = (or_first d false h.0, is_counted_lem q h.1)
ok_held d (Working q) h = (or_first d false h.0, is_counted_lem q h.1)

pub none_idle : (t : Turn) → is_none (requested t) ≡ is_idle t
none_idle Idle = refl
none_idle (Waiting q) = refl
none_idle (Displaced q) = refl
none_idle (Working q) = refl

-- a unit has a request if something is requested of it
pub request_none : (c : Channel) (u : ℕ) → has_request c u ≡ not (is_none (requested (turn_at c u)))
unfolding has_request
request_none c u = ap not (sym (none_idle (turn_at c u)))

pub request_alike : (c d : Channel) (u : ℕ) → requested (turn_at c u) ≡ requested (turn_at d u) → has_request c u ≡ has_request d u
request_alike c d u e = request_none c u ∙ ap (λ (w : Option Op). not (is_none w)) e ∙ sym (request_none d u)

busy_turn : (t : Turn) → is_idle t ≡ false → is_working t ≡ false → is_waiting t ≡ true
busy_turn Idle i w = true_not_false refl i
busy_turn (Waiting q) i w = refl
busy_turn (Displaced q) i w = refl
busy_turn (Working q) i w = true_not_false refl w

waiting_busy : (t : Turn) → is_waiting t ≡ true → is_idle t ≡ false
waiting_busy Idle w = true_not_false w refl
waiting_busy (Waiting q) w = refl
waiting_busy (Displaced q) w = refl
waiting_busy (Working q) w = refl

-- ---- from the tests to the facts

module _ (m : ℕ) (frozen : Bool) (c : Channel) where
  abbrev d : Unit
  d = idle_unit false

  module _ (units : all_of (unit_right m) c.units ≡ true) where
    at_unit_lem : (u : ℕ) → unit_right m (unit_at c u) ≡ true
    unfolding unit_right position_right
    at_unit_lem = all_places c.units d (unit_right m) refl units

    ranges_of : InRanges c
    unfolding unit_right
    ranges_of u =
        let h = both {a = not (declared_at c u) || ltb 0 m} (at_unit_lem u) in
        let k = both {a = declared_at c u || is_none (requested (turn_at c u))} h.1 in
        hold_ok (declared_at c u) (turn_at c u) k.0 (and_left (turn_right (turn_at c u)) _ k.1)

    stands_of : (u : ℕ) → position_right (unit_at c u) ≡ true
    unfolding unit_right
    stands_of u =
        let h = both {a = not (declared_at c u) || ltb 0 m} (at_unit_lem u) in
        let k = both {a = declared_at c u || is_none (requested (turn_at c u))} h.1 in
        and_right (turn_right (turn_at c u)) _ k.1

    pool_of : (u : ℕ) → declared_at c u ≡ true → 0 < m
    unfolding unit_right
    pool_of u e = ltb-true 0 m (unless (declared_at c u) (ltb 0 m) (both {a = not (declared_at c u) || ltb 0 m} (at_unit_lem u)).0 e)

  inside : (u : ℕ) → is_working (turn_at c u) ≡ true → u < size c
  inside = place_inside c.units d unit_works refl

  one_of : count_of unit_works c.units ≤ 1 → OneWorks c
  one_of h x y p q =
      count_one_place unit_works d c.units h x y (inside x p) (inside y q) p q

  works_somewhere : 1 ≤ count_of unit_works c.units → is_some (working_in c) ≡ true
  works_somewhere h = by_test (λ t. is_some (working_in c) ≡ t → t ≡ true) (is_some (working_in c)) (λ e q. refl) (λ e q. absurd (some_place unit_works d c.units h (λ i l. fails i (is_working (turn_at c i)) refl e))) refl
    where
      fails : (i : ℕ) (t : Bool) → is_working (turn_at c i) ≡ t → is_some (working_in c) ≡ false → t ≡ false
      fails i true w e = true_not_false (works_found c i w) e
      fails i false w e = refl

  alive_of : works_right frozen c.units ≡ true → frozen ≡ false → (u : ℕ) → is_idle (turn_at c u) ≡ false → is_some (working_in c) ≡ true
  alive_of h f u i = go (is_working (turn_at c u)) refl
    where
      rest : (not (any_of unit_waits c.units) || eqb (count_of unit_works c.units) 1) ≡ true
      rest = or_either frozen _ (and_right (leb (count_of unit_works c.units) 1) _ h) (λ e. true_not_false e f) (λ e. e)

      waits : is_waiting (turn_at c u) ≡ true → any_of unit_waits c.units ≡ true
      waits w = at_any unit_waits d c.units u (place_inside c.units d unit_waits refl u w) w

      go : (t : Bool) → is_working (turn_at c u) ≡ t → is_some (working_in c) ≡ true
      go true w = works_found c u w
      go false w =
          let n : count_of unit_works c.units ≡ 1 = eqb-true (count_of unit_works c.units) 1 (unless (any_of unit_waits c.units) _ rest (waits (busy_turn (turn_at c u) i w))) in
          works_somewhere (omega arith)

  marks_of : marks_right c ≡ true → (k : Bool) → mark_as k c < size c
  marks_of a true = ltb-true c.urgent (size c) (and_right (ltb c.mark (size c)) _ a)
  marks_of a false = ltb-true c.mark (size c) (and_left (ltb c.mark (size c)) _ a)

  pub channel_facts : marks_right c ≡ true → all_of (unit_right m) c.units ≡ true → works_right frozen c.units ≡ true → ChannelFacts m frozen c
  channel_facts a b w = record {
    mark = marks_of a;
    one = one_of (leb-true (count_of unit_works c.units) 1 (and_left (leb (count_of unit_works c.units) 1) _ w));
    ranges = ranges_of b;
    stands = stands_of b;
    pool = pool_of b;
    alive = alive_of w;
  }

  -- ---- and back

  module _ (F : ChannelFacts m frozen c) where
    pub mark_right : marks_right c ≡ true
    mark_right = and_both (ltb c.mark (size c)) _ (lt-ltb c.mark (size c) (F.mark false)) (lt-ltb c.urgent (size c) (F.mark true))

    pub units_right : all_of (unit_right m) c.units ≡ true
    unfolding unit_right
    units_right =
        at_all (unit_right m) d c.units (λ u l.
        let k = ok_held (declared_at c u) (turn_at c u) (F.ranges u) in
        and_both (not (declared_at c u) || ltb 0 m) _ (unless_so (declared_at c u) _ (λ e. lt-ltb 0 m (F.pool u e)))
        (and_both (declared_at c u || is_none (requested (turn_at c u))) _ k.0 (and_both (turn_right (turn_at c u)) _ k.1 (F.stands u))))

    most_one : count_of unit_works c.units ≤ 1
    most_one = one_place_count unit_works d c.units (λ i j l k p q. F.one i j p q)

    found_count : is_some (working_in c) ≡ true → 1 ≤ count_of unit_works c.units
    found_count e = go (working_in c) (working_scan c) e
      where
        go : (w : Option ℕ) → Scanned (λ x. is_working (turn_at c x)) (size c) (begin_of (size c) 0) w → is_some w ≡ true → 1 ≤ count_of unit_works c.units
        go w (finds x l t f) q = count_some unit_works d c.units x l t
        go w (misses f) q = true_not_false q refl

    pub works_right_lem : works_right frozen c.units ≡ true
    works_right_lem =
        and_both (leb (count_of unit_works c.units) 1) _ (le-leb (count_of unit_works c.units) 1 most_one)
        (by_test (λ t. frozen ≡ t → (t || (not (any_of unit_waits c.units) || eqb (count_of unit_works c.units) 1)) ≡ true) frozen (λ f q. refl) (λ f q. thawed q) refl)
      where
        thawed : frozen ≡ false → (not (any_of unit_waits c.units) || eqb (count_of unit_works c.units) 1) ≡ true
        thawed f =
            unless_so (any_of unit_waits c.units) _ (λ e.
            let p = any_at unit_waits d c.units e in
            let n = found_count (F.alive f p.place (waiting_busy (turn_at c p.place) p.passes)) in
            let e : count_of unit_works c.units ≡ 1 = omega (arith, most_one) in
            eq-eqb (count_of unit_works c.units) 1 e)

-- ---- a channel without requests

-- an idle unit at its start
start_right : (d : Bool) → position_right (record { declared = d; turn = Idle; position = at_start }) ≡ true
unfolding position_right
start_right true = refl
start_right false = refl

pub idle_facts : (m : ℕ) (frozen : Bool) (c : Channel) → ((k : Bool) → mark_as k c < size c) → ((u : ℕ) → turn_at c u ≡ Idle)
    → ((u : ℕ) → position_at c u ≡ at_start) → ((u : ℕ) → declared_at c u ≡ true → 0 < m) → ChannelFacts m frozen c
idle_facts m frozen c mark quiet start pool = record {
  mark = mark;
  one = λ x y p q. true_not_false p (ap is_working (quiet x));
  ranges = λ u. rw (quiet u) tt;
  stands = λ u. idle u;
  pool = pool;
  alive = λ f u i. true_not_false (ap is_idle (quiet u)) i;
}
  where
    idle : (u : ℕ) → position_right (unit_at c u) ≡ true
    idle u =
        ap (λ (t : Turn). position_right (record { declared = declared_at c u; turn = t; position = position_at c u })) (quiet u)
        ∙ ap (λ (p : Position). position_right (record { declared = declared_at c u; turn = Idle; position = p })) (start u)
        ∙ start_right (declared_at c u)

pub fresh_idle : (bs : List Bool) (u : ℕ) → turn_at (fresh_with bs) u ≡ Idle
unfolding fresh_with
fresh_idle bs u = ap (λ (x : Unit). x.turn) (get_or-map idle_unit bs u false)

pub fresh_stands : (bs : List Bool) (u : ℕ) → position_at (fresh_with bs) u ≡ at_start
unfolding fresh_with
fresh_stands bs u = ap (λ (x : Unit). x.position) (get_or-map idle_unit bs u false)

pub fresh_declared : (bs : List Bool) (u : ℕ) → declared_at (fresh_with bs) u ≡ get_or bs u false
unfolding fresh_with
fresh_declared bs u = ap (λ (x : Unit). x.declared) (get_or-map idle_unit bs u false)

pub no_idle : (u : ℕ) → turn_at no_channel u ≡ Idle
unfolding fresh_of
no_idle u = fresh_idle _ u

pub no_stands : (u : ℕ) → position_at no_channel u ≡ at_start
unfolding fresh_of
no_stands u = fresh_stands _ u

pub no_declared : (u : ℕ) → declared_at no_channel u ≡ false
unfolding fresh_of bits_from any_of
no_declared u = fresh_declared _ u ∙ by_place (bits_from 0 0 10) false (λ b. b ≡ false) u (none_at (λ (b : Bool). b) false (bits_from 0 0 10) refl u) refl

no_mark : (k : Bool) → mark_as k no_channel < size no_channel
unfolding fresh_of fresh_with bits_from
no_mark true = omega arith
no_mark false = omega arith

pub no_facts : (m : ℕ) (frozen : Bool) → ChannelFacts m frozen no_channel
no_facts m frozen = idle_facts m frozen no_channel no_mark no_idle no_stands (λ u e. true_not_false e (no_declared u))
