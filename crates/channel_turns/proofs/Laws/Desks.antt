-- Laws of a desk: what one pass over a channel's units makes; and an ask, a report, a start and a thaw of a channel are small changes that the desk
-- and one unit tell. Over any number of units that a mask has bits for. Assumes nothing.
use mathlib.Core.Path.{◌≡◌, refl, sym, ap, ap₂, subst, ◌∙◌}
use mathlib.Core.Bool.{Bool, true, false, not, cond, ◌&&◌, ◌||◌}
use mathlib.Core.List.{List}
use Prim.Native.Nat.{ℕ, zero, suc, ◌+◌, ◌≤◌, ◌<◌}
use native.Mathlib.Omega.{arith}
use lib.Dec.{eqb, ltb}
use lib.ListN.{get_or, set, length-set}
use lib.Seq.{get_or-set_same, get_or-set_other, set-get_or}
use borrow.Author.Tests.{eqb-true, eqb-false, eq-eqb, ne_eqb, ltb-true, ltb-false}
use Rattle.area.specs.Lists.{first_along, along}
use Rattle.area.specs.Masks.{bit_at}
use Rattle.area.proofs.Walks.{by_test, true_not_false, or_right}
use Rattle.area.proofs.Firsts.{first_finds, first_misses}
use Rattle.area.proofs.Masks.{own_bit, mask_ext}
use Rattle.channel.specs.declared.Op.{Op}
use Rattle.channel.specs.declared.Request.{Request}
use Rattle.channel.specs.declared.Turn.{Turn}
use Rattle.channel.specs.declared.Turn.TheVariants.{Idle, Waiting, Displaced, Working}
use Rattle.channel.specs.declared.Position.{Position}
use Rattle.channel.specs.declared.Unit.{Unit}
use Rattle.channel.specs.declared.Channel.{Channel}
use Rattle.channel.specs.Units.{size, idle_unit, unit_at, declared_at, turn_at, position_at, with_unit, with_turn, with_marks, is_idle, accepts_at, work_of, operation_at}
use Rattle.channel.proofs.Laws.Units.{turn_beyond, with_beyond}
use Rattle.channel_outcomes.specs.declared.Ending.{Ending}
use Rattle.channel_outcomes.specs.declared.Verdict.{Verdict}
use Rattle.channel_outcomes.specs.declared.Verdict.TheVariants.{Refused, Repeats, Ends}
use Rattle.channel_outcomes.specs.Positions.{position_after, noted_by}
use Rattle.channel_turns.specs.declared.Desk.{Desk}
use Rattle.channel_turns.specs.declared.Move.{Move}
use Rattle.channel_turns.specs.declared.Asked.{Asked}
use Rattle.channel_turns.specs.Scans.{idle, ordinary, priority, working, waiting_as, standing_of, stands, next_unit, begin_of, scan_from, working_in, priority_in, ordinary_in, or_else, next_turn, unit_number}
use Rattle.channel_turns.specs.Starts.{begun_turn, begun_at, start_of, new_request, ask_of}
use Rattle.channel_turns.specs.Turns.{goes_on, incomplete_turn, repeat_of, is_ordinary, holds_priority, mark_moved, mark_after, urgent_after, end_of, book_of}
use Rattle.channel_turns.specs.Desks.{desk_bits, stand_mask, desk_of, scan_of, work_on, urged_on, next_on, starts_on, works_after, with_bit, seated_at, marked_at, moved_on, still_on, ask_move, goes_on_at, repeat_move, end_move, book_move, moved_to}
use Rattle.channel_turns.proofs.Laws.Scans.{next_up, begin_here, scan_below}
use Rattle.channel_turns.proofs.Laws.Masks.{Passed, passed_all, scan_bits}
use Rattle.std.specs.declared.option.Option.{Option}
use Rattle.std.specs.declared.option.Option.TheVariants.{Some, None}
use Rattle.std.specs.Option.{is_some}

-- ---- a unit that stands otherwise

pub size_moved : (c : Channel) (u : ℕ) (t : Turn) (p : Position) → size (with_unit c u t p) ≡ size c
unfolding with_unit
size_moved c u t p = length-set c.units u (record { declared = declared_at c u; turn = t; position = p })

marks_kept : (c : Channel) (u : ℕ) (t : Turn) (p : Position) → ((with_unit c u t p).mark ≡ c.mark) × ((with_unit c u t p).urgent ≡ c.urgent)
unfolding with_unit
marks_kept c u t p = (refl, refl)

-- as it stood
pub unit_kept : (c : Channel) (u : ℕ) → with_unit c u (turn_at c u) (position_at c u) ≡ c
unfolding with_unit
unit_kept c u = ap (λ (us : List Unit). record { units = us; mark = c.mark; urgent = c.urgent }) (set-get_or c.units u (idle_unit false))

-- a number that is no unit's stands in no mask
pub beyond_stands : (c : Channel) (want b : ℕ) → 0 < want → size c ≤ b → stands c want b ≡ false
beyond_stands c want b some past =
    ap (λ (t : Turn). eqb (standing_of t) want) (turn_beyond c b past) ∙ ne_eqb idle want (λ (e : idle ≡ want). omega arith)

-- the masks after a pass over all units
pub desk_passed : (c : Channel) (n w p o : ℕ) → size c ≤ n → Passed (stands c working) n w → Passed (stands c priority) n p → Passed (stands c ordinary) n o
    → record { mark = c.mark; urgent = c.urgent; working = w; priority = p; ordinary = o } ≡ desk_of c
unfolding desk_of
desk_passed c n w p o all a b d =
    rw (
      passed_all (stands c working) n w (λ k h. beyond_stands c working k (omega arith) (omega arith)) a,
      passed_all (stands c priority) n p (λ k h. beyond_stands c priority k (omega arith) (omega arith)) b,
      passed_all (stands c ordinary) n o (λ k h. beyond_stands c ordinary k (omega arith) (omega arith)) d,
    )

-- ---- scans by the desk

module _ (c : Channel) (some : 0 < size c) (few : size c ≤ desk_bits) where
  scan_desk : (want mark : ℕ) → scan_from c want mark ≡ scan_of (size c) (stand_mask c want) mark
  unfolding scan_from
  scan_desk want mark = scan_bits (stands c want) (size c) mark some few

  pub work_desk : working_in c ≡ work_on (size c) (desk_of c)
  unfolding working_in work_on desk_of
  work_desk = scan_desk working 0

  pub urged_desk : priority_in c ≡ urged_on (size c) (desk_of c)
  unfolding priority_in urged_on desk_of
  urged_desk = scan_desk priority c.urgent

  ordinary_desk : ordinary_in c ≡ scan_of (size c) (desk_of c).ordinary (desk_of c).mark
  unfolding ordinary_in desk_of
  ordinary_desk = scan_desk ordinary c.mark

  next_desk : next_turn c ≡ next_on (size c) (desk_of c)
  unfolding next_turn next_on
  next_desk = ap₂ or_else urged_desk ordinary_desk

  -- a start is a start by the desk
  pub start_desk : (frozen : Bool) → start_of c frozen ≡ begun_at c (starts_on (size c) (desk_of c) frozen)
  unfolding start_of starts_on
  start_desk frozen = rw (← work_desk, ← next_desk) (go (frozen || is_some (working_in c)))
    where
      go : (b : Bool) → cond b c (begun_at c (next_turn c)) ≡ begun_at c (cond b None (next_turn c))
      go true = refl
      go false = refl

-- ---- the desk after a unit has come to stand otherwise

stands_moved : (c : Channel) (u want b : ℕ) (t : Turn) (p : Position) → u < size c
    → stands (with_unit c u t p) want b ≡ cond (eqb u b) (eqb (standing_of t) want) (stands c want b)
unfolding with_unit
stands_moved c u want b t p among =
    by_test (λ e. stands (with_unit c u t p) want b ≡ cond e (eqb (standing_of t) want) (stands c want b)) (eqb u b)
    (λ e. ap sees (ap (λ (k : ℕ). get_or (set c.units u x) k (idle_unit false)) (sym (eqb-true u b e)) ∙ get_or-set_same c.units u x (idle_unit false) among))
    (λ e. ap sees (get_or-set_other c.units u b x (idle_unit false) (λ (q : b ≡ u). eqb-false u b e (sym q))))
  where
    x : Unit
    x = record { declared = declared_at c u; turn = t; position = p }

    sees : Unit → Bool
    sees y = eqb (standing_of y.turn) want

mask_moved : (c : Channel) (u want : ℕ) (t : Turn) (p : Position) → u < size c
    → stand_mask (with_unit c u t p) want ≡ with_bit (stand_mask c want) u (eqb (standing_of t) want)
unfolding with_bit
mask_moved c u want t p among =
    mask_ext (stands (with_unit c u t p) want) (λ b. cond (eqb u b) (eqb (standing_of t) want) (bit_at (stand_mask c want) b)) desk_bits 0
    (λ b l k. stands_moved c u want b t p among
    ∙ ap (cond (eqb u b) (eqb (standing_of t) want)) (sym (own_bit (stands c want) desk_bits b (omega arith))))

pub desk_moved : (c : Channel) (u : ℕ) (t : Turn) (p : Position) → desk_of (with_unit c u t p) ≡ seated_at (size c) (desk_of c) u (standing_of t)
unfolding desk_of seated_at
desk_moved c u t p = by_test (λ e. desk_of (with_unit c u t p) ≡ cond e there (desk_of c)) (ltb u (size c)) (λ e. moved (ltb-true u (size c) e)) (λ e. ap desk_of (with_beyond c u (ltb-false u (size c) e) t p))
  where
    there : Desk
    there =
        record {
          mark = c.mark;
          urgent = c.urgent;
          working = with_bit (stand_mask c working) u (eqb (standing_of t) working);
          priority = with_bit (stand_mask c priority) u (eqb (standing_of t) priority);
          ordinary = with_bit (stand_mask c ordinary) u (eqb (standing_of t) ordinary);
        }

    marks : ((with_unit c u t p).mark ≡ c.mark) × ((with_unit c u t p).urgent ≡ c.urgent)
    marks = marks_kept c u t p

    moved : u < size c → desk_of (with_unit c u t p) ≡ there
    moved among = rw (marks.0, marks.1, mask_moved c u working t p among, mask_moved c u priority t p among, mask_moved c u ordinary t p among)

pub desk_marked : (c : Channel) (m p : ℕ) → desk_of (with_marks c m p) ≡ marked_at (desk_of c) m p
unfolding desk_of
desk_marked c m p = refl

-- ---- which unit is worked for after a start

along_up : (n j u : ℕ) → u + j < n → along (next_unit n) j u ≡ u + j
unfolding along
along_up n zero u h = omega arith
along_up n (suc j) u h = ap (along (next_unit n) j) (next_up n u (omega arith)) ∙ along_up n j (u + 1) (omega arith) ∙ omega arith

-- a unit that waits is worked for once it has begun
begun_stands : (t : Turn) → (standing_of t ≡ idle → ⊥) → standing_of (begun_turn t) ≡ working
begun_stands Idle h = absurd (h refl)
begun_stands (Waiting q) h = refl
begun_stands (Displaced q) h = refl
begun_stands (Working q) h = refl

-- what waits is found by one of the scans
turn_waits : (c : Channel) (s : ℕ) → next_turn c ≡ Some s → (standing_of (turn_at c s) ≡ idle → ⊥)
unfolding next_turn priority_in ordinary_in scan_from
turn_waits c s e idles = go (priority_in c) refl
  where
    none : (want : ℕ) → 0 < want → stands c want s ≡ true → ⊥
    none want some t = let same : standing_of (turn_at c s) ≡ want = eqb-true (standing_of (turn_at c s)) want t in omega arith

    go : (x : Option ℕ) → priority_in c ≡ x → ⊥
    go (Some u) q =
        let at : Some u ≡ Some s = sym (ap (λ (y : Option ℕ). or_else y (ordinary_in c)) q) ∙ e in
        none priority (omega arith) (first_finds (next_unit (size c)) (stands c priority) (size c) (begin_of (size c) c.urgent) s (q ∙ at)).passes
    go None q =
        let at : ordinary_in c ≡ Some s = sym (ap (λ (y : Option ℕ). or_else y (ordinary_in c)) q) ∙ e in
        none ordinary (omega arith) (first_finds (next_unit (size c)) (stands c ordinary) (size c) (begin_of (size c) c.mark) s at).passes

turn_below : (c : Channel) (s : ℕ) → 0 < size c → next_turn c ≡ Some s → s < size c
unfolding next_turn priority_in ordinary_in
turn_below c s some e = go (priority_in c) refl
  where
    go : (x : Option ℕ) → priority_in c ≡ x → s < size c
    go (Some u) q = scan_below c priority c.urgent s some (q ∙ sym (ap (λ (y : Option ℕ). or_else y (ordinary_in c)) q) ∙ e)
    go None q = scan_below c ordinary c.mark s some (sym (ap (λ (y : Option ℕ). or_else y (ordinary_in c)) q) ∙ e)

-- the one that begins on an idle channel is the one that is worked for
begun_works : (c : Channel) (s : ℕ) → s < size c → working_in c ≡ None → (standing_of (turn_at c s) ≡ idle → ⊥)
    → working_in (with_turn c s (begun_turn (turn_at c s))) ≡ Some s
unfolding working_in scan_from
begun_works c s among none waits = rw (size_moved c s (begun_turn (turn_at c s)) (position_at c s)) (go (first_along next there n start) refl)
  where
    n : ℕ
    n = size c

    next : ℕ → ℕ
    next = next_unit n

    start : ℕ
    start = begin_of n 0

    there : ℕ → Bool
    there = stands (with_turn c s (begun_turn (turn_at c s))) working

    zero_start : start ≡ 0
    zero_start = begin_here n 0 (omega arith)

    here : there s ≡ true
    here =
        stands_moved c s working s (begun_turn (turn_at c s)) (position_at c s) among
        ∙ ap (λ (e : Bool). cond e (eqb (standing_of (begun_turn (turn_at c s))) working) (stands c working s)) (eq-eqb s s refl)
        ∙ eq-eqb (standing_of (begun_turn (turn_at c s))) working (begun_stands (turn_at c s) waits)

    alone : (p : ℕ) → stands c working p ≡ false → there p ≡ true → p ≡ s
    alone p q t =
        by_test (λ e. eqb s p ≡ e → p ≡ s) (eqb s p) (λ e k. sym (eqb-true s p k))
        (λ e k. true_not_false t (stands_moved c s working p (begun_turn (turn_at c s)) (position_at c s) among ∙ ap (λ (b : Bool). cond b (eqb (standing_of (begun_turn (turn_at c s))) working) (stands c working p)) k ∙ q)) refl

    go : (x : Option ℕ) → first_along next there n start ≡ x → first_along next there n start ≡ Some s
    go (Some p) q =
        let first = first_finds next there n start p q in
        let idles = first_misses next (stands c working) n start none first.steps first.among in
        q ∙ ap Some (alone p (ap (stands c working) (sym first.reached) ∙ idles) first.passes)
    go None q =
        let up : along next s start ≡ s = ap (along next s) zero_start ∙ along_up n s 0 (omega arith) ∙ omega arith in
        true_not_false here (ap there (sym up) ∙ first_misses next there n start q s among)

-- after a start the unit that starts is worked for, or the one that was
pub start_works : (c : Channel) (frozen : Bool) → 0 < size c → size c ≤ desk_bits → unit_number (working_in (start_of c frozen)) ≡ works_after (size c) (desk_of c) frozen
unfolding start_of works_after starts_on
start_works c frozen some few =
    rw (← work_desk c some few, ← next_desk c some few) (ap unit_number (go (frozen || is_some (working_in c)) refl (working_in c) refl (next_turn c) refl))
  where
    go : (b : Bool) → (frozen || is_some (working_in c)) ≡ b → (w : Option ℕ) → working_in c ≡ w → (x : Option ℕ) → next_turn c ≡ x
        → working_in (cond b c (begun_at c x)) ≡ or_else (cond b None x) w
    go true e w k x q = k
    go false e w k None q = k
    go false e w k (Some s) q = begun_works c s (turn_below c s some q) (idle_now (working_in c) refl) (turn_waits c s q)
      where
        idle_now : (w : Option ℕ) → working_in c ≡ w → working_in c ≡ None
        idle_now (Some u) r = true_not_false (ap is_some r) (or_right frozen (is_some (working_in c)) e)
        idle_now None r = r

-- ---- the small changes

module _ (c : Channel) (some : 0 < size c) (few : size c ≤ desk_bits) (u : ℕ) where
  -- the unit has come to stand otherwise, perhaps with other marks, and the channel starts
  module _ (t : Turn) (p : Position) (m k : ℕ) (frozen : Bool) where
    abbrev after : Channel
    after = with_marks (with_unit c u t p) m k

    abbrev desk : Desk
    desk = marked_at (seated_at (size c) (desk_of c) u (standing_of t)) m k

    desk_after_lem : desk_of after ≡ desk
    desk_after_lem = desk_marked (with_unit c u t p) m k ∙ ap (λ (d : Desk). marked_at d m k) (desk_moved c u t p)

    size_after : size after ≡ size c
    size_after = size_moved c u t p

    moves : start_of after frozen ≡ moved_to c u (moved_on (size c) t p desk frozen)
    unfolding moved_to moved_on
    moves =
        start_desk after (subst (λ (n : ℕ). 0 < n) (sym size_after) some) (subst (λ (n : ℕ). n ≤ desk_bits) (sym size_after) few) frozen
        ∙ ap₂ (λ (n : ℕ) (d : Desk). begun_at after (starts_on n d frozen)) size_after desk_after_lem

    works : unit_number (working_in (start_of after frozen)) ≡ (moved_on (size c) t p desk frozen).working
    unfolding moved_on
    works =
        start_works after frozen (subst (λ (n : ℕ). 0 < n) (sym size_after) some) (subst (λ (n : ℕ). n ≤ desk_bits) (sym size_after) few)
        ∙ ap₂ (λ (n : ℕ) (d : Desk). works_after n d frozen) size_after desk_after_lem

  -- the marks as they were
  module _ (t : Turn) (p : Position) (frozen : Bool) where
    seated_marks : marked_at (seated_at (size c) (desk_of c) u (standing_of t)) c.mark c.urgent ≡ seated_at (size c) (desk_of c) u (standing_of t)
    unfolding desk_of with_unit
    seated_marks = ap (λ (d : Desk). marked_at d c.mark c.urgent) (sym (desk_moved c u t p)) ∙ desk_moved c u t p

    plain : with_marks (with_unit c u t p) c.mark c.urgent ≡ with_unit c u t p
    unfolding with_unit
    plain = refl

    moves_plain : start_of (with_unit c u t p) frozen ≡ moved_to c u (moved_on (size c) t p (seated_at (size c) (desk_of c) u (standing_of t)) frozen)
    moves_plain =
        ap (λ (d : Channel). start_of d frozen) (sym plain) ∙ moves t p c.mark c.urgent frozen
        ∙ ap (λ (d : Desk). moved_to c u (moved_on (size c) t p d frozen)) seated_marks

    works_plain : unit_number (working_in (start_of (with_unit c u t p) frozen)) ≡ (moved_on (size c) t p (seated_at (size c) (desk_of c) u (standing_of t)) frozen).working
    works_plain =
        ap (λ (d : Channel). unit_number (working_in (start_of d frozen))) (sym plain) ∙ works t p c.mark c.urgent frozen
        ∙ ap (λ (d : Desk). (moved_on (size c) t p d frozen).working) seated_marks

  -- nothing changes
  pub still_moves : moved_to c u (still_on (size c) (unit_at c u) (desk_of c)) ≡ c
  unfolding moved_to still_on desk_of
  still_moves = ap (λ (d : Channel). with_marks d c.mark c.urgent) (unit_kept c u)

  pub still_works : unit_number (working_in c) ≡ (still_on (size c) (unit_at c u) (desk_of c)).working
  unfolding still_on
  still_works = ap unit_number (work_desk c some few)

  -- an ask
  module _ (op : Op) (urgent frozen : Bool) where
    ask_move_by : Bool → Move
    ask_move_by b =
        cond b (moved_on (size c) (Waiting (new_request op urgent)) (position_at c u) (seated_at (size c) (desk_of c) u (waiting_as urgent)) frozen) (still_on (size c) (unit_at c u) (desk_of c))

    asked_by : Bool → Asked
    asked_by b = cond b (record { accepted = true; channel = start_of (with_turn c u (Waiting (new_request op urgent))) frozen }) (record { accepted = false; channel = c })

    moves_by : (b : Bool) → ◌≡◌ {A = Asked} (asked_by b) (record { accepted = b; channel = moved_to c u (ask_move_by b) })
    unfolding asked_by ask_move_by
    moves_by true = ap (λ (d : Channel). record { accepted = true; channel = d }) (moves_plain (Waiting (new_request op urgent)) (position_at c u) frozen)
    moves_by false = ap (λ (d : Channel). record { accepted = false; channel = d }) (sym still_moves)

    works_by : (b : Bool) → unit_number (working_in (asked_by b).channel) ≡ (ask_move_by b).working
    unfolding asked_by ask_move_by
    works_by true = works_plain (Waiting (new_request op urgent)) (position_at c u) frozen
    works_by false = still_works

    pub ask_moves : ask_of c u op urgent frozen ≡ record { accepted = accepts_at c u; channel = moved_to c u (ask_move (size c) (unit_at c u) u (desk_of c) op urgent frozen) }
    unfolding ask_of accepts_at ask_move asked_by ask_move_by
    ask_moves = moves_by (declared_at c u && is_idle (turn_at c u))

    pub ask_works : unit_number (working_in (ask_of c u op urgent frozen).channel) ≡ (ask_move (size c) (unit_at c u) u (desk_of c) op urgent frozen).working
    unfolding ask_of accepts_at ask_move asked_by ask_move_by
    ask_works = works_by (declared_at c u && is_idle (turn_at c u))

  -- a report, by what it came to
  goes_desk : (urgent frozen : Bool) → goes_on c urgent frozen ≡ goes_on_at (size c) (desk_of c) urgent frozen
  unfolding goes_on
  goes_desk urgent frozen = ap (λ (x : Option ℕ). not frozen && (urgent || not (is_some x))) (urged_desk c some few)

  repeat_moves : (q : Request) (frozen : Bool) → repeat_of c u q frozen ≡ moved_to c u (repeat_move (size c) (unit_at c u) u (desk_of c) q frozen)
  unfolding repeat_of repeat_move
  repeat_moves q frozen = rw (goes_desk q.priority frozen) (moves_plain (incomplete_turn (goes_on_at (size c) (desk_of c) q.priority frozen) q) (noted_by (position_at c u) q) frozen)

  repeat_works : (q : Request) (frozen : Bool) → unit_number (working_in (repeat_of c u q frozen)) ≡ (repeat_move (size c) (unit_at c u) u (desk_of c) q frozen).working
  unfolding repeat_of repeat_move
  repeat_works q frozen = rw (goes_desk q.priority frozen) (works_plain (incomplete_turn (goes_on_at (size c) (desk_of c) q.priority frozen) q) (noted_by (position_at c u) q) frozen)

  end_moves : (e : Ending) (frozen : Bool) → end_of c u e frozen ≡ moved_to c u (end_move (size c) (unit_at c u) u (desk_of c) e frozen)
  unfolding end_of end_move operation_at mark_after urgent_after desk_of
  end_moves e frozen =
      moves Idle (position_after (work_of (turn_at c u)) e (position_at c u)) (mark_moved (is_ordinary (turn_at c u)) (size c) u c.mark) (mark_moved (holds_priority (turn_at c u)) (size c) u c.urgent) frozen

  end_works : (e : Ending) (frozen : Bool) → unit_number (working_in (end_of c u e frozen)) ≡ (end_move (size c) (unit_at c u) u (desk_of c) e frozen).working
  unfolding end_of end_move operation_at mark_after urgent_after desk_of
  end_works e frozen =
      works Idle (position_after (work_of (turn_at c u)) e (position_at c u)) (mark_moved (is_ordinary (turn_at c u)) (size c) u c.mark) (mark_moved (holds_priority (turn_at c u)) (size c) u c.urgent) frozen

  pub book_moves : (v : Verdict) (frozen : Bool) → book_of c u v frozen ≡ moved_to c u (book_move (size c) (unit_at c u) u (desk_of c) v frozen)
  unfolding book_of book_move
  book_moves (Refused k) frozen = sym still_moves
  book_moves (Repeats q) frozen = repeat_moves q frozen
  book_moves (Ends e) frozen = end_moves e frozen

  pub book_works : (v : Verdict) (frozen : Bool) → unit_number (working_in (book_of c u v frozen)) ≡ (book_move (size c) (unit_at c u) u (desk_of c) v frozen).working
  unfolding book_of book_move
  book_works (Refused k) frozen = still_works
  book_works (Repeats q) frozen = repeat_works q frozen
  book_works (Ends e) frozen = end_works e frozen

-- ---- one start by the desk

-- a start that is held back, and one that is not, by what works
module _ (n : ℕ) (d : Desk) (frozen : Bool) (w : Option ℕ) (known : w ≡ work_on n d) where
  pub starts_none : (frozen || is_some w) ≡ true → (None ≡ starts_on n d frozen) × (unit_number w ≡ works_after n d frozen)
  unfolding starts_on works_after
  starts_none h = rw (← known, h) (refl, refl)

  pub starts_next : (frozen || is_some w) ≡ false → (x : Option ℕ) → x ≡ next_on n d → (x ≡ starts_on n d frozen) × (unit_number x ≡ works_after n d frozen)
  unfolding starts_on works_after
  starts_next h x e = rw (← known, h, ← e) (refl, last w x (or_right frozen (is_some w) h))
    where
      last : (w x : Option ℕ) → is_some w ≡ false → unit_number x ≡ unit_number (or_else x w)
      last (Some k) x q = true_not_false refl q
      last None (Some k) q = refl
      last None None q = refl

-- an ask, by whether it is accepted
module _ (n : ℕ) (x : Unit) (u : ℕ) (d : Desk) (op : Op) (urgent frozen none : Bool) (known : none ≡ is_idle x.turn) where
  pub ask_taken_on : (x.declared && none) ≡ true
      → ask_move n x u d op urgent frozen ≡ moved_on n (Waiting (new_request op urgent)) x.position (seated_at n d u (waiting_as urgent)) frozen
  unfolding ask_move
  ask_taken_on h = rw (← known, h)

  pub ask_left_on : (x.declared && none) ≡ false → ask_move n x u d op urgent frozen ≡ still_on n x d
  unfolding ask_move
  ask_left_on h = rw (← known, h)

-- ---- the same of a channel that has n units

module _ (c : Channel) (n : ℕ) (long : size c ≡ n) (some : 0 < n) (few : n ≤ desk_bits) where
  more : 0 < size c
  more = subst (λ (k : ℕ). 0 < k) (sym long) some

  less : size c ≤ desk_bits
  less = subst (λ (k : ℕ). k ≤ desk_bits) (sym long) few

  pub n_starts : (frozen : Bool) → begun_at c (starts_on n (desk_of c) frozen) ≡ start_of c frozen
  n_starts frozen = sym (start_desk c more less frozen ∙ ap (λ (k : ℕ). begun_at c (starts_on k (desk_of c) frozen)) long)

  pub n_works : unit_number (work_on n (desk_of c)) ≡ unit_number (working_in c)
  n_works = sym (ap unit_number (work_desk c more less ∙ ap (λ (k : ℕ). work_on k (desk_of c)) long))

  pub n_asks : (u : ℕ) (op : Op) (urgent frozen : Bool)
      → record { accepted = accepts_at c u; channel = moved_to c u (ask_move n (unit_at c u) u (desk_of c) op urgent frozen) } ≡ ask_of c u op urgent frozen
  n_asks u op urgent frozen =
      sym (ask_moves c more less u op urgent frozen
      ∙ ap (λ (k : ℕ). record { accepted = accepts_at c u; channel = moved_to c u (ask_move k (unit_at c u) u (desk_of c) op urgent frozen) }) long)

  pub n_ask_works : (u : ℕ) (op : Op) (urgent frozen : Bool)
      → (ask_move n (unit_at c u) u (desk_of c) op urgent frozen).working ≡ unit_number (working_in (ask_of c u op urgent frozen).channel)
  n_ask_works u op urgent frozen =
      sym (ask_works c more less u op urgent frozen ∙ ap (λ (k : ℕ). (ask_move k (unit_at c u) u (desk_of c) op urgent frozen).working) long)

  pub n_books : (u : ℕ) (v : Verdict) (frozen : Bool) → moved_to c u (book_move n (unit_at c u) u (desk_of c) v frozen) ≡ book_of c u v frozen
  n_books u v frozen = sym (book_moves c more less u v frozen ∙ ap (λ (k : ℕ). moved_to c u (book_move k (unit_at c u) u (desk_of c) v frozen)) long)

  pub n_book_works : (u : ℕ) (v : Verdict) (frozen : Bool) → (book_move n (unit_at c u) u (desk_of c) v frozen).working ≡ unit_number (working_in (book_of c u v frozen))
  n_book_works u v frozen = sym (book_works c more less u v frozen ∙ ap (λ (k : ℕ). (book_move k (unit_at c u) u (desk_of c) v frozen).working) long)
