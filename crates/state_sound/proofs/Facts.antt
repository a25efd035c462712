-- A sound state as facts: what its soundness gives for every file and every unit, and what makes it sound. Assumes nothing.
use mathlib.Core.Path.{◌≡◌, refl, sym, ap, subst, ◌∙◌}
use mathlib.Core.Logic.{◌≢◌}
use mathlib.Core.Bool.{Bool, true, false, not, cond, ◌&&◌, ◌||◌}
use mathlib.Core.List.{List}
use Prim.Native.Nat.{ℕ, ◌≤◌}
use native.Mathlib.Decide.{ℕ_discrete}
use native.Mathlib.Omega.{arith}
use lib.Dec.{leb, ltb, eqb}
use lib.ListN.{get_or}
use borrow.Author.Tests.{le-leb, eqb-true, eq-eqb, not-true}
use Rattle.area.specs.Lists.{any_of, all_of, all_pairs, one_if}
use Rattle.area.specs.Numbered.{all_from}
use Rattle.area.proofs.Walks.{true_not_false, and_left, and_right, and_both, or_either, or_first, or_second, all_at, at_all}
use Rattle.area.proofs.Marks.{cond_true, cond_false, unless, unless_so}
use Rattle.area.proofs.Numbered.{from_at, at_from}
use Rattle.area.proofs.Bools.{each_way, both, any_at, at_any, Somewhere, at_pairs}
use Rattle.channel.specs.declared.Op.TheVariants.{Read, Write, Mark}
use Rattle.channel.specs.declared.Turn.{Turn}
use Rattle.channel.specs.declared.Turn.TheVariants.{Idle, Waiting, Displaced, Working}
use Rattle.channel.specs.declared.Unit.{Unit}
use Rattle.channel.specs.declared.Channel.{Channel}
use Rattle.channel.specs.Units.{idle_unit, unit_at, declared_at, turn_at}
use Rattle.file.specs.declared.File.{File}
use Rattle.file.specs.Sizes.{closed_file}
use Rattle.file_input.specs.Delivers.{has_full}
use Rattle.pool.specs.Free.{pool_sound}
use Rattle.pool.specs.Masks.{free_mask}
use Rattle.pool.specs.Serving.{serves}
use Rattle.state_sound.specs.Files.{in_range, has_buffers, taken_count, taken_right, full_right, part_right, place_right, rest_is_zero, open_sound, is_blank, file_sound, share_buffer, share_unit, apart, files_sound}
use Rattle.state_sound.proofs.FileFacts.{Sound, facts}
use Rattle.state_sound.proofs.FileFacts as file
use Rattle.state.specs.declared.State.{State}
use Rattle.state.specs.Places.{no_channel, file_at, channel_in, channel_at}
use Rattle.state_sound.specs.Requests.{requested, is_none, is_read, is_write, fits_output}
use Rattle.state_sound.specs.Soundness.{if_open, channel_of, request_of, file_in_range, turn_in_range, position_right, unit_in_range, marks_right, channel_in_range, numbers_in_range, buffers_apart, no_buffer_held_twice, has_its_own, units_apart, each_has_its_own, unit_fits, channel_fits, requests_fit, works_right, channels_work, taken_by_read, reads_alone_take, write_has_block, writes_have_blocks, full_blocks_right, part_buffers_right, places_right, turn_in_limit, channel_in_limit, attempts_in_limit, free_mask_right, routines_right, sound}
use Rattle.state_sound.specs.Judged.{file_ready, file_fits, turn_right, unit_right, unit_served, channel_right, judged_state}
use Rattle.routines.proofs.Laws.Facts.{RoutinesFacts, right_facts, facts_right}
use Rattle.routines_sound.specs.Beside.{declared_in, request_in, routines_beside}
use Rattle.state_sound.proofs.Everywhere.{by_place, all_places, from_places, place_inside, pair_places}
use Rattle.state_sound.proofs.Apart.{buffers_swap, units_swap, apart_swap, buffers_closed, units_closed, apart_closed}
use Rattle.state_sound.proofs.ChannelFacts.{ChannelFacts, channel_facts, mark_right, units_right, works_right_lem, no_idle, no_facts}
use Rattle.std.specs.declared.option.Option.{Option}
use Rattle.std.specs.declared.option.Option.TheVariants.{Some, None}
use Rattle.channel.specs.declared.Op.{Op}

-- an open file that is bound to unit u of channel c
pub record Served (fs : List File) (c u : ℕ) : Type 0 where
  pub place : ℕ
  pub bound : serves c u (get_or fs place closed_file) ≡ true

pub record SoundFacts (s : State) : Type 0 where
  pub pool : pool_sound s.m s.w ≡ true
  -- every open file is sound by itself, every other is blank
  pub files : (i : ℕ) → (file_at s i).opened ≡ true → Sound s.m s.w (file_at s i)
  pub blank : (i : ℕ) → (file_at s i).opened ≡ false → is_blank (file_at s i) ≡ true
  -- two files share neither a buffer nor a unit
  pub apart : (i j : ℕ) → i ≢ j → apart (file_at s i) (file_at s j) ≡ true
  -- every open file has a declared unit, and is ready for what is requested of it
  pub declared : (i : ℕ) → (file_at s i).opened ≡ true → declared_at (channel_of s.channels (file_at s i)) (file_at s i).unit ≡ true
  pub ready : (i : ℕ) → (file_at s i).opened ≡ true → file_ready (request_of s.channels (file_at s i)) (file_at s i) ≡ true
  pub channels : (c : ℕ) → ChannelFacts s.m s.frozen (channel_at s c)
  -- every unit with a request has an open file
  pub served : (c u : ℕ) → is_none (requested (turn_at (channel_at s c) u)) ≡ false → Served s.files c u
  -- the mask says which buffers are free
  pub free : s.free ≡ free_mask s.m s.files
  -- the routines are right beside the channels
  pub routines : RoutinesFacts (declared_in s.channels) (request_in s.channels) s.frozen s.routines

-- ---- an open file's clauses, one by one

record Clauses (m w : ℕ) (f : File) : Type 0 where
  range : in_range w f ≡ true
  buffers : has_buffers m f ≡ true
  full : full_right f ≡ true
  part : part_right f ≡ true
  place : place_right f ≡ true
  rest : rest_is_zero f ≡ true

clauses : (m w : ℕ) (f : File) → f.opened ≡ true → Sound m w f → Clauses m w f
unfolding file_sound open_sound
clauses m w f o S =
    let h₀ : open_sound m w f ≡ true = sym (cond_true (open_sound m w f) (is_blank f) o) ∙ file.sound m w f o S in
    let h₁ = both {a = in_range w f} h₀ in
    let h₂ = both {a = has_buffers m f} h₁.1 in
    let h₃ = both {a = taken_right f} h₂.1 in
    let h₄ = both {a = full_right f} h₃.1 in
    let h₅ = both {a = part_right f} h₄.1 in
    let h₆ = both {a = place_right f} h₅.1 in
    record { range = h₁.0; buffers = h₂.0; full = h₄.0; part = h₅.0; place = h₆.0; rest = h₆.1 }

from_clauses : (m w : ℕ) (f : File) → f.opened ≡ true → Clauses m w f → taken_right f ≡ true → Sound m w f
unfolding file_sound open_sound
from_clauses m w f o C t =
    facts m w f
    (cond_true (open_sound m w f) (is_blank f) o
    ∙ and_both (in_range w f) _ C.range
    (and_both (has_buffers m f) _ C.buffers
    (and_both (taken_right f) _ t (and_both (full_right f) _ C.full (and_both (part_right f) _ C.part (and_both (place_right f) _ C.place C.rest))))))
    o

-- a read's file is an input file
read_input : (x : Option Op) (output : Bool) → fits_output x output ≡ true → one_if (is_read x) ≤ one_if (not output)
read_input (Some Read) true h = true_not_false h refl
read_input (Some Read) false h = omega arith
read_input (Some Write) o h = omega arith
read_input (Some Mark) o h = omega arith
read_input None o h = omega arith

taken_right_lem : (x : Option Op) (f : File) → fits_output x f.output ≡ true → eqb (taken_count f) (one_if (is_read x)) ≡ true → taken_right f ≡ true
taken_right_lem x f h e =
    let n : taken_count f ≡ one_if (is_read x) = eqb-true (taken_count f) (one_if (is_read x)) e in
    le-leb (taken_count f) (one_if (not f.output)) (omega (arith, read_input x f.output h))

none_fits : (x : Option Op) (output : Bool) → is_none x ≡ true → fits_output x output ≡ true
none_fits (Some op) o h = true_not_false h refl
none_fits None o h = refl

-- ---- a unit's clauses

unit_both : (d : Bool) (t : Turn) → turn_in_range d t ≡ true → turn_in_limit t ≡ true → ((d || is_none (requested t)) && turn_right t) ≡ true
unit_both d Idle h k = and_both (d || true) true (or_second d true refl) refl
unit_both d (Waiting q) h k = and_both (d || false) _ (or_first d false (and_left d _ h)) (and_both (leb 1 q.attempts) _ (and_right d _ h) k)
unit_both d (Displaced q) h k = and_both (d || false) _ (or_first d false (and_left d _ h)) (and_both (leb 1 q.attempts) _ (and_right d _ h) k)
unit_both d (Working q) h k = and_both (d || false) _ (or_first d false (and_left d _ h)) (and_both (leb 1 q.attempts) _ (and_right d _ h) k)

unit_each : (d : Bool) (t : Turn) → (d || is_none (requested t)) ≡ true → turn_right t ≡ true → (turn_in_range d t ≡ true) × (turn_in_limit t ≡ true)
unit_each d Idle h k = (refl, refl)
unit_each d (Waiting q) h k = (and_both d _ (or_either d false h (λ e. e) (λ e. true_not_false e refl)) (and_left (leb 1 q.attempts) _ k), and_right (leb 1 q.attempts) _ k)
unit_each d (Displaced q) h k = (and_both d _ (or_either d false h (λ e. e) (λ e. true_not_false e refl)) (and_left (leb 1 q.attempts) _ k), and_right (leb 1 q.attempts) _ k)
unit_each d (Working q) h k = (and_both d _ (or_either d false h (λ e. e) (λ e. true_not_false e refl)) (and_left (leb 1 q.attempts) _ k), and_right (leb 1 q.attempts) _ k)

-- all of them, of one unit
abbrev unit_clauses : ℕ → Unit → Bool
unit_clauses m x = (not x.declared || ltb 0 m) && ((x.declared || is_none (requested x.turn)) && (turn_right x.turn && position_right x))

all_right : (m : ℕ) (us : List Unit) → all_of (unit_in_range m) us ≡ true → all_of (λ (x : Unit). turn_in_limit x.turn) us ≡ true → all_of (unit_right m) us ≡ true
unfolding unit_right
all_right m us a b = at_all (unit_right m) (idle_unit false) us (λ u l. one (get_or us u (idle_unit false)) (all_at (unit_in_range m) (idle_unit false) us a u l) (all_at (λ (x : Unit). turn_in_limit x.turn) (idle_unit false) us b u l))
  where
    one : (x : Unit) → unit_in_range m x ≡ true → turn_in_limit x.turn ≡ true → unit_clauses m x ≡ true
    one x p q =
        let a = both {a = not x.declared || ltb 0 m} p in
        let b = both {a = turn_in_range x.declared x.turn} a.1 in
        let k = both {a = x.declared || is_none (requested x.turn)} (unit_both x.declared x.turn b.0 q) in
        and_both (not x.declared || ltb 0 m) _ a.0
        (and_both (x.declared || is_none (requested x.turn)) _ k.0 (and_both (turn_right x.turn) _ k.1 b.1))

all_each : (m : ℕ) (us : List Unit) → all_of (unit_right m) us ≡ true → (all_of (unit_in_range m) us ≡ true) × (all_of (λ (x : Unit). turn_in_limit x.turn) us ≡ true)
unfolding unit_right
all_each m us h = (
  at_all (unit_in_range m) (idle_unit false) us (λ u l. first (get_or us u (idle_unit false)) (all_at (unit_right m) (idle_unit false) us h u l)),
  at_all (λ (x : Unit). turn_in_limit x.turn) (idle_unit false) us (λ u l. second (get_or us u (idle_unit false)) (all_at (unit_right m) (idle_unit false) us h u l)),
)
  where
    first : (x : Unit) → unit_clauses m x ≡ true → unit_in_range m x ≡ true
    first x p =
        let a = both {a = not x.declared || ltb 0 m} p in
        let q = both {a = x.declared || is_none (requested x.turn)} a.1 in
        let k = both {a = turn_right x.turn} q.1 in
        and_both (not x.declared || ltb 0 m) _ a.0
        (and_both (turn_in_range x.declared x.turn) _ (unit_each x.declared x.turn q.0 k.0).0 k.1)

    second : (x : Unit) → unit_clauses m x ≡ true → turn_in_limit x.turn ≡ true
    second x p =
        let q = both {a = x.declared || is_none (requested x.turn)} (and_right (not x.declared || ltb 0 m) _ p) in
        (unit_each x.declared x.turn q.0 (and_left (turn_right x.turn) _ q.1)).1

-- ---- from the walk of the code to the facts

closed_sound : (m w : ℕ) → file_sound m w closed_file ≡ true
unfolding file_sound is_blank
closed_sound m w = refl

beside_facts : (s : State) → routines_beside s.channels s.frozen s.routines ≡ true → RoutinesFacts (declared_in s.channels) (request_in s.channels) s.frozen s.routines
unfolding routines_beside
beside_facts s h = right_facts (declared_in s.channels) (request_in s.channels) s.frozen s.routines h

facts_beside : (s : State) → RoutinesFacts (declared_in s.channels) (request_in s.channels) s.frozen s.routines → routines_beside s.channels s.frozen s.routines ≡ true
unfolding routines_beside
facts_beside s h = facts_right (declared_in s.channels) (request_in s.channels) s.frozen s.routines h

module _ (s : State) where
  judged_facts : judged_state s ≡ true → SoundFacts s
  unfolding judged_state files_sound file_sound file_fits channel_right unit_served
  judged_facts h =
      let h₁ = both {a = pool_sound s.m s.w} h in
      let h₂ = both {a = files_sound s.m s.w s.files} h₁.1 in
      let h₃ = both {a = all_of (file_fits s.channels) s.files} h₂.1 in
      let h₄ = both {a = all_from (channel_right s.m s.frozen s.files) 0 s.channels} h₃.1 in
      let h₅ = both {a = eqb s.free (free_mask s.m s.files)} h₄.1 in
      let f = both {a = all_of (file_sound s.m s.w) s.files} h₂.0 in
      let each : (i : ℕ) → file_sound s.m s.w (file_at s i) ≡ true = all_places s.files closed_file (file_sound s.m s.w) (closed_sound s.m s.w) f.0 in
      let fit : (i : ℕ) → file_fits s.channels (file_at s i) ≡ true = all_places s.files closed_file (file_fits s.channels) refl h₃.0 in
      record {
        pool = h₁.0;
        files = λ i o. facts s.m s.w (file_at s i) (each i) o;
        blank = λ i o. sym (cond_false (open_sound s.m s.w (file_at s i)) (is_blank (file_at s i)) o) ∙ each i;
        apart = pair_places s.files closed_file apart apart_closed apart_swap f.1;
        declared = λ i o. and_left (declared_at (channel_of s.channels (file_at s i)) (file_at s i).unit) _ (unless (file_at s i).opened _ (fit i) o);
        ready = λ i o. and_right (declared_at (channel_of s.channels (file_at s i)) (file_at s i).unit) _ (unless (file_at s i).opened _ (fit i) o);
        channels = λ c. by_place s.channels no_channel (ChannelFacts s.m s.frozen) c (λ l. own c (channel_at s c) (from_at (channel_right s.m s.frozen s.files) no_channel s.channels h₄.0 c l)) (no_facts s.m s.frozen);
        served = λ c u. by_place s.channels no_channel (λ x. is_none (requested (turn_at x u)) ≡ false → Served s.files c u) c
            (λ l. unit c u (channel_at s c) (from_at (channel_right s.m s.frozen s.files) no_channel s.channels h₄.0 c l))
            (λ n. true_not_false (ap (λ (t : Turn). is_none (requested t)) (no_idle u)) n);
        free = eqb-true s.free (free_mask s.m s.files) h₅.0;
        routines = beside_facts s h₅.1;
      }
    where
      own : (c : ℕ) (x : Channel) → channel_right s.m s.frozen s.files c x ≡ true → ChannelFacts s.m s.frozen x
      own c x k =
          let k₁ = both {a = marks_right x} k in
          let k₂ = both {a = all_of (unit_right s.m) x.units} k₁.1 in
          channel_facts s.m s.frozen x k₁.0 k₂.0 (and_left (works_right s.frozen x.units) _ k₂.1)

      unit : (c u : ℕ) (x : Channel) → channel_right s.m s.frozen s.files c x ≡ true → is_none (requested (turn_at x u)) ≡ false → Served s.files c u
      unit c u x k n =
          let k₁ = both {a = marks_right x} k in
          let k₂ = both {a = all_of (unit_right s.m) x.units} k₁.1 in
          let all = and_right (works_right s.frozen x.units) _ k₂.1 in
          let here : (is_none (requested (turn_at x u)) || any_of (serves c u) s.files) ≡ true = from_places x.units (idle_unit false) (unit_served s.files c) (λ i. refl) all u in
          let p = any_at (serves c u) closed_file s.files (or_either (is_none (requested (turn_at x u))) _ here (λ e. true_not_false e n) (λ e. e)) in
          record { place = p.place; bound = p.passes }

  -- ---- and back

  module _ (F : SoundFacts s) where
    file_of_lem : (i : ℕ) → file_sound s.m s.w (file_at s i) ≡ true
    unfolding file_sound
    file_of_lem i = go (file_at s i).opened refl
      where
        go : (t : Bool) → (file_at s i).opened ≡ t → cond (file_at s i).opened (open_sound s.m s.w (file_at s i)) (is_blank (file_at s i)) ≡ true
        go true o = file.sound s.m s.w (file_at s i) o (F.files i o)
        go false o = cond_false (open_sound s.m s.w (file_at s i)) (is_blank (file_at s i)) o ∙ F.blank i o

    served_any : (c u : ℕ) → is_none (requested (turn_at (channel_at s c) u)) ≡ false → any_of (serves c u) s.files ≡ true
    served_any c u n =
        let p = F.served c u n in
        at_any (serves c u) closed_file s.files p.place (place_inside s.files closed_file (serves c u) refl p.place p.bound) p.bound

    pub facts_judged : judged_state s ≡ true
    unfolding judged_state files_sound file_fits channel_right unit_served
    facts_judged =
        and_both (pool_sound s.m s.w) _ F.pool
        (and_both (files_sound s.m s.w s.files) _
        (and_both (all_of (file_sound s.m s.w) s.files) _ (at_all (file_sound s.m s.w) closed_file s.files (λ i l. file_of_lem i))
        (at_pairs apart closed_file s.files (λ i j l k. F.apart i j (λ e. omega arith))))
        (and_both (all_of (file_fits s.channels) s.files) _
        (at_all (file_fits s.channels) closed_file s.files (λ i l.
        unless_so (file_at s i).opened _ (λ o. and_both (declared_at (channel_of s.channels (file_at s i)) (file_at s i).unit) _ (F.declared i o) (F.ready i o))))
        (and_both (all_from (channel_right s.m s.frozen s.files) 0 s.channels) _
        (at_from (channel_right s.m s.frozen s.files) no_channel s.channels (λ c l.
        and_both (marks_right (channel_at s c)) _ (mark_right s.m s.frozen (channel_at s c) (F.channels c))
        (and_both (all_of (unit_right s.m) (channel_at s c).units) _ (units_right s.m s.frozen (channel_at s c) (F.channels c))
        (and_both (works_right s.frozen (channel_at s c).units) _ (works_right_lem s.m s.frozen (channel_at s c) (F.channels c))
        (at_from (unit_served s.files c) (idle_unit false) (channel_at s c).units (λ u k. unit c u (is_none (requested (turn_at (channel_at s c) u))) refl))))))
        (and_both (eqb s.free (free_mask s.m s.files)) _ (eq-eqb s.free (free_mask s.m s.files) F.free)
        (facts_beside s F.routines)))))
      where
        unit : (c u : ℕ) (t : Bool) → is_none (requested (turn_at (channel_at s c) u)) ≡ t → (is_none (requested (turn_at (channel_at s c) u)) || any_of (serves c u) s.files) ≡ true
        unit c u true e = or_first (is_none (requested (turn_at (channel_at s c) u))) _ e
        unit c u false e = or_second (is_none (requested (turn_at (channel_at s c) u))) _ (served_any c u e)

  -- ---- from document 01's clauses to the facts

  module _ (h : sound s ≡ true) where
    record Parts : Type 0 where
      numbers : numbers_in_range s ≡ true
      buffers : no_buffer_held_twice s ≡ true
      own : each_has_its_own s ≡ true
      requests : requests_fit s ≡ true
      work : channels_work s ≡ true
      reads : reads_alone_take s ≡ true
      writes : writes_have_blocks s ≡ true
      full : full_blocks_right s ≡ true
      part : part_buffers_right s ≡ true
      places : places_right s ≡ true
      limits : attempts_in_limit s ≡ true
      mask : free_mask_right s ≡ true
      beside : routines_right s ≡ true

    parts : Parts
    unfolding sound
    parts =
        let h₁ = both {a = numbers_in_range s} h in
        let h₂ = both {a = no_buffer_held_twice s} h₁.1 in
        let h₃ = both {a = each_has_its_own s} h₂.1 in
        let h₄ = both {a = requests_fit s} h₃.1 in
        let h₅ = both {a = channels_work s} h₄.1 in
        let h₆ = both {a = reads_alone_take s} h₅.1 in
        let h₇ = both {a = writes_have_blocks s} h₆.1 in
        let h₈ = both {a = full_blocks_right s} h₇.1 in
        let h₉ = both {a = part_buffers_right s} h₈.1 in
        let h₁₀ = both {a = places_right s} h₉.1 in
        let h₁₁ = both {a = attempts_in_limit s} h₁₀.1 in
        let h₁₂ = both {a = free_mask_right s} h₁₁.1 in
        record {
          numbers = h₁.0;
          buffers = h₂.0;
          own = h₃.0;
          requests = h₄.0;
          work = h₅.0;
          reads = h₆.0;
          writes = h₇.0;
          full = h₈.0;
          part = h₉.0;
          places = h₁₀.0;
          limits = h₁₁.0;
          mask = h₁₂.0;
          beside = h₁₂.1;
        }

    ranges_at : (i : ℕ) → file_in_range s.w (file_at s i) ≡ true
    unfolding numbers_in_range is_blank
    ranges_at =
        all_places s.files closed_file (file_in_range s.w) refl
        (and_left (all_of (file_in_range s.w) s.files) _ (and_right (pool_sound s.m s.w) _ parts.numbers))

    own_at : (i : ℕ) → (file_at s i).opened ≡ true → (has_buffers s.m (file_at s i) && declared_at (channel_of s.channels (file_at s i)) (file_at s i).unit) ≡ true
    unfolding each_has_its_own
    own_at i =
        unless (file_at s i).opened _
        (all_places s.files closed_file (has_its_own s.m s.channels) refl (and_left (all_of (has_its_own s.m s.channels) s.files) _ parts.own) i)

    units_at : (i j : ℕ) → i ≢ j → units_apart (file_at s i) (file_at s j) ≡ true
    unfolding each_has_its_own
    units_at = pair_places s.files closed_file units_apart units_closed units_swap (and_right (all_of (has_its_own s.m s.channels) s.files) _ parts.own)

    buffers_at : (i j : ℕ) → i ≢ j → buffers_apart (file_at s i) (file_at s j) ≡ true
    unfolding no_buffer_held_twice
    buffers_at = pair_places s.files closed_file buffers_apart buffers_closed buffers_swap parts.buffers

    no_fits : (c : ℕ) → channel_fits s.files c no_channel ≡ true
    no_fits c =
        at_from (unit_fits s.files c) (idle_unit false) no_channel.units (λ u l.
        or_first (is_none (requested (turn_at no_channel u))) _ (ap (λ (t : Turn). is_none (requested t)) (no_idle u)))

    unit_at_lem : (c u : ℕ) → unit_fits s.files c u (unit_at (channel_at s c) u) ≡ true
    unfolding requests_fit
    unit_at_lem c u =
        from_places (channel_at s c).units (idle_unit false) (unit_fits s.files c) (λ i. refl)
        (from_places s.channels no_channel (channel_fits s.files) no_fits parts.requests c) u

    -- the open file that a request's unit serves, of the request's direction
    served_fits : (c u : ℕ) → is_none (requested (turn_at (channel_at s c) u)) ≡ false
        → Somewhere (λ (f : File). serves c u f && fits_output (requested (turn_at (channel_at s c) u)) f.output) s.files closed_file
    served_fits c u n =
        any_at (λ (f : File). serves c u f && fits_output (requested (turn_at (channel_at s c) u)) f.output) closed_file s.files
        (or_either (is_none (requested (turn_at (channel_at s c) u))) _ (unit_at_lem c u) (λ e. true_not_false e n) (λ e. e))

    way_at : (i : ℕ) → (file_at s i).opened ≡ true → fits_output (request_of s.channels (file_at s i)) (file_at s i).output ≡ true
    way_at i o = go (is_none (request_of s.channels (file_at s i))) refl
      where
        c : ℕ
        c = (file_at s i).channel

        u : ℕ
        u = (file_at s i).unit

        x : Option Op
        x = request_of s.channels (file_at s i)

        same : (j : ℕ) → serves c u (file_at s j) ≡ true → j ≡ i
        same j e = at (ℕ_discrete j i)
          where
            at : Dec (j ≡ i) → j ≡ i
            at (yes p) = p
            at (no ne) = true_not_false (and_both (file_at s i).opened _ o e) (not-true (share_unit (file_at s i) (file_at s j)) (units_at i j (λ p. ne (sym p))))

        go : (t : Bool) → is_none x ≡ t → fits_output x (file_at s i).output ≡ true
        go true n = none_fits x (file_at s i).output n
        go false n =
            let p = served_fits c u n in
            subst (λ (j : ℕ). fits_output x (file_at s j).output ≡ true) (same p.place (and_left (serves c u (file_at s p.place)) _ p.passes))
            (and_right (serves c u (file_at s p.place)) _ p.passes)

    taken_at : (i : ℕ) → (file_at s i).opened ≡ true → eqb (taken_count (file_at s i)) (one_if (is_read (request_of s.channels (file_at s i)))) ≡ true
    unfolding reads_alone_take
    taken_at i = unless (file_at s i).opened _ (all_places s.files closed_file (taken_by_read s.channels) refl parts.reads i)

    block_at : (i : ℕ) → (file_at s i).opened ≡ true → (not (is_write (request_of s.channels (file_at s i))) || has_full (file_at s i)) ≡ true
    unfolding writes_have_blocks
    block_at i = unless (file_at s i).opened _ (all_places s.files closed_file (write_has_block s.channels) refl parts.writes i)

    clauses_at : (i : ℕ) → (file_at s i).opened ≡ true → Clauses s.m s.w (file_at s i)
    unfolding full_blocks_right part_buffers_right places_right
    clauses_at i o =
        let r : (in_range s.w (file_at s i) && rest_is_zero (file_at s i)) ≡ true =
        sym (cond_true (in_range s.w (file_at s i) && rest_is_zero (file_at s i)) (is_blank (file_at s i)) o) ∙ ranges_at i in
        record {
          range = and_left (in_range s.w (file_at s i)) _ r;
          buffers = and_left (has_buffers s.m (file_at s i)) _ (own_at i o);
          full = unless (file_at s i).opened _ (all_places s.files closed_file (λ (f : File). if_open f (full_right f)) refl parts.full i) o;
          part = unless (file_at s i).opened _ (all_places s.files closed_file (λ (f : File). if_open f (part_right f)) refl parts.part i) o;
          place = unless (file_at s i).opened _ (all_places s.files closed_file (λ (f : File). if_open f (place_right f)) refl parts.places i) o;
          rest = and_right (in_range s.w (file_at s i)) _ r;
        }

    channel_at_lem : (c : ℕ) → ChannelFacts s.m s.frozen (channel_at s c)
    unfolding numbers_in_range attempts_in_limit channels_work
    channel_at_lem c =
        by_place s.channels no_channel (ChannelFacts s.m s.frozen) c
        (λ l.
        inside (channel_at s c)
        (all_at (channel_in_range s.m) no_channel s.channels (and_right (all_of (file_in_range s.w) s.files) _ (and_right (pool_sound s.m s.w) _ parts.numbers)) c l)
        (all_at channel_in_limit no_channel s.channels parts.limits c l)
        (all_at (λ (x : Channel). works_right s.frozen x.units) no_channel s.channels parts.work c l))
        (no_facts s.m s.frozen)
      where
        inside : (x : Channel) → channel_in_range s.m x ≡ true → channel_in_limit x ≡ true → works_right s.frozen x.units ≡ true → ChannelFacts s.m s.frozen x
        inside x a b w =
            channel_facts s.m s.frozen x (and_left (marks_right x) _ a)
            (all_right s.m x.units (and_right (marks_right x) _ a) b) w

    pub sound_facts : SoundFacts s
    unfolding apart file_ready numbers_in_range free_mask_right routines_right
    sound_facts = record {
      pool = and_left (pool_sound s.m s.w) _ parts.numbers;
      files = λ i o. from_clauses s.m s.w (file_at s i) o (clauses_at i o) (taken_right_lem (request_of s.channels (file_at s i)) (file_at s i) (way_at i o) (taken_at i o));
      blank = λ i o. sym (cond_false (in_range s.w (file_at s i) && rest_is_zero (file_at s i)) (is_blank (file_at s i)) o) ∙ ranges_at i;
      apart = λ i j ne. and_both (not (share_buffer (file_at s i) (file_at s j))) _ (buffers_at i j ne) (units_at i j ne);
      declared = λ i o. and_right (has_buffers s.m (file_at s i)) _ (own_at i o);
      ready = λ i o.
          and_both (fits_output (request_of s.channels (file_at s i)) (file_at s i).output) _ (way_at i o)
          (and_both (eqb (taken_count (file_at s i)) (one_if (is_read (request_of s.channels (file_at s i))))) _ (taken_at i o) (block_at i o));
      channels = channel_at_lem;
      served = λ c u n. let p = served_fits c u n in record { place = p.place; bound = and_left (serves c u (file_at s p.place)) _ p.passes };
      free = eqb-true s.free (free_mask s.m s.files) parts.mask;
      routines = beside_facts s parts.beside;
    }

  -- ---- and back

  module _ (F : SoundFacts s) where
    ready_way : (i : ℕ) → (file_at s i).opened ≡ true → fits_output (request_of s.channels (file_at s i)) (file_at s i).output ≡ true
    unfolding file_ready
    ready_way i o = and_left (fits_output (request_of s.channels (file_at s i)) (file_at s i).output) _ (F.ready i o)

    ready_rest : (i : ℕ) → (file_at s i).opened ≡ true
        → (eqb (taken_count (file_at s i)) (one_if (is_read (request_of s.channels (file_at s i)))) && (not (is_write (request_of s.channels (file_at s i))) || has_full (file_at s i))) ≡ true
    unfolding file_ready
    ready_rest i o = and_right (fits_output (request_of s.channels (file_at s i)) (file_at s i).output) _ (F.ready i o)

    parts_at : (i : ℕ) → (file_at s i).opened ≡ true → Clauses s.m s.w (file_at s i)
    parts_at i o = clauses s.m s.w (file_at s i) o (F.files i o)

    -- what is said of open files alone
    each_open : (test : File → Bool) → ((i : ℕ) → (file_at s i).opened ≡ true → test (file_at s i) ≡ true) → all_of (λ (f : File). if_open f (test f)) s.files ≡ true
    each_open test each = at_all (λ (f : File). if_open f (test f)) closed_file s.files (λ i l. unless_so (file_at s i).opened _ (each i))

    numbers_of : numbers_in_range s ≡ true
    unfolding numbers_in_range
    numbers_of =
        and_both (pool_sound s.m s.w) _ F.pool
        (and_both (all_of (file_in_range s.w) s.files) _ (at_all (file_in_range s.w) closed_file s.files (λ i l. one i (file_at s i).opened refl))
        (at_all (channel_in_range s.m) no_channel s.channels (λ c l.
        and_both (marks_right (channel_at s c)) _ (mark_right s.m s.frozen (channel_at s c) (F.channels c))
        (all_each s.m (channel_at s c).units (units_right s.m s.frozen (channel_at s c) (F.channels c))).0)))
      where
        one : (i : ℕ) (t : Bool) → (file_at s i).opened ≡ t → file_in_range s.w (file_at s i) ≡ true
        one i true o = cond_true _ (is_blank (file_at s i)) o ∙ and_both (in_range s.w (file_at s i)) _ (parts_at i o).range (parts_at i o).rest
        one i false o = cond_false (in_range s.w (file_at s i) && rest_is_zero (file_at s i)) (is_blank (file_at s i)) o ∙ F.blank i o

    requests_of : requests_fit s ≡ true
    unfolding requests_fit
    requests_of =
        at_from (channel_fits s.files) no_channel s.channels (λ c l.
        at_from (unit_fits s.files c) (idle_unit false) (channel_at s c).units (λ u k. unit c u (is_none (requested (turn_at (channel_at s c) u))) refl))
      where
        fit : (c u : ℕ) → Served s.files c u → any_of (λ (f : File). serves c u f && fits_output (requested (turn_at (channel_at s c) u)) f.output) s.files ≡ true
        fit c u p =
            let o = and_left (file_at s p.place).opened _ p.bound in
            let b = both {a = eqb (file_at s p.place).channel c} (and_right (file_at s p.place).opened _ p.bound) in
            let ec : (file_at s p.place).channel ≡ c = eqb-true (file_at s p.place).channel c b.0 in
            let eu : (file_at s p.place).unit ≡ u = eqb-true (file_at s p.place).unit u b.1 in
            let same : request_of s.channels (file_at s p.place) ≡ requested (turn_at (channel_at s c) u) =
            ap (λ (n : ℕ). requested (turn_at (channel_in s.channels n) (file_at s p.place).unit)) ec ∙ ap (λ (n : ℕ). requested (turn_at (channel_at s c) n)) eu in
            at_any (λ (f : File). serves c u f && fits_output (requested (turn_at (channel_at s c) u)) f.output) closed_file s.files p.place
            (place_inside s.files closed_file (serves c u) refl p.place p.bound)
            (and_both (serves c u (file_at s p.place)) _ p.bound
            (subst (λ (x : Option Op). fits_output x (file_at s p.place).output ≡ true) same (ready_way p.place o)))

        unit : (c u : ℕ) (t : Bool) → is_none (requested (turn_at (channel_at s c) u)) ≡ t → unit_fits s.files c u (unit_at (channel_at s c) u) ≡ true
        unit c u true e = or_first (is_none (requested (turn_at (channel_at s c) u))) _ e
        unit c u false e = or_second (is_none (requested (turn_at (channel_at s c) u))) _ (fit c u (F.served c u e))

    pub facts_sound : sound s ≡ true
    unfolding sound no_buffer_held_twice each_has_its_own channels_work reads_alone_take writes_have_blocks full_blocks_right part_buffers_right places_right attempts_in_limit free_mask_right routines_right apart
    facts_sound =
        and_both (numbers_in_range s) _ numbers_of
        (and_both (all_pairs buffers_apart s.files) _
        (at_pairs buffers_apart closed_file s.files (λ i j l k. and_left (not (share_buffer (file_at s i) (file_at s j))) _ (F.apart i j (λ e. omega arith))))
        (and_both (all_of (has_its_own s.m s.channels) s.files && all_pairs units_apart s.files) _
        (and_both (all_of (has_its_own s.m s.channels) s.files) _
        (each_open (λ (f : File). has_buffers s.m f && declared_at (channel_of s.channels f) f.unit) (λ i o. and_both (has_buffers s.m (file_at s i)) _ (parts_at i o).buffers (F.declared i o)))
        (at_pairs units_apart closed_file s.files (λ i j l k. and_right (not (share_buffer (file_at s i) (file_at s j))) _ (F.apart i j (λ e. omega arith)))))
        (and_both (requests_fit s) _ requests_of
        (and_both (all_of (λ (c : Channel). works_right s.frozen c.units) s.channels) _
        (at_all (λ (c : Channel). works_right s.frozen c.units) no_channel s.channels (λ c l. works_right_lem s.m s.frozen (channel_at s c) (F.channels c)))
        (and_both (all_of (taken_by_read s.channels) s.files) _
        (each_open (λ (f : File). eqb (taken_count f) (one_if (is_read (request_of s.channels f)))) (λ i o. and_left (eqb (taken_count (file_at s i)) (one_if (is_read (request_of s.channels (file_at s i))))) _ (ready_rest i o)))
        (and_both (all_of (write_has_block s.channels) s.files) _
        (each_open (λ (f : File). not (is_write (request_of s.channels f)) || has_full f) (λ i o. and_right (eqb (taken_count (file_at s i)) (one_if (is_read (request_of s.channels (file_at s i))))) _ (ready_rest i o)))
        (and_both (all_of (λ (f : File). if_open f (full_right f)) s.files) _ (each_open full_right (λ i o. (parts_at i o).full))
        (and_both (all_of (λ (f : File). if_open f (part_right f)) s.files) _ (each_open part_right (λ i o. (parts_at i o).part))
        (and_both (all_of (λ (f : File). if_open f (place_right f)) s.files) _ (each_open place_right (λ i o. (parts_at i o).place))
        (and_both (all_of channel_in_limit s.channels) _
        (at_all channel_in_limit no_channel s.channels (λ c l. (all_each s.m (channel_at s c).units (units_right s.m s.frozen (channel_at s c) (F.channels c))).1))
        (and_both (eqb s.free (free_mask s.m s.files)) _ (eq-eqb s.free (free_mask s.m s.files) F.free)
        (facts_beside s F.routines))))))))))))

-- what the code walks is document 01's paragraph
pub judged_sound : (s : State) → judged_state s ≡ sound s
judged_sound s = each_way (judged_state s) (sound s) (λ h. facts_sound s (judged_facts s h)) (λ h. facts_judged s (sound_facts s h))
