-- Replacements that keep a sound state sound: one file and its channel, a file alone, an open, a close. Assumes nothing.
use mathlib.Core.Path.{◌≡◌, refl, sym, ap, ap₂, subst, ◌∙◌}
use mathlib.Core.Logic.{◌≢◌}
use mathlib.Core.Bool.{Bool, true, false, not, ◌&&◌, ◌||◌}
use mathlib.Core.List.{List}
use Prim.Native.Nat.{ℕ, ◌<◌}
use native.Mathlib.Decide.{ℕ_discrete}
use lib.Dec.{eqb}
use lib.ListN.{length, get_or, set}
use lib.Seq.{get_or-set_same, get_or-set_other, set-get_or}
use borrow.Author.Tests.{eqb-true, eq-eqb, not-true}
use Rattle.area.proofs.Walks.{by_test, true_not_false, and_left, and_right, and_both, none_at}
use Rattle.area.proofs.Bools.{both, any_at}
use Rattle.channel.specs.declared.Channel.{Channel}
use Rattle.channel.specs.Units.{declared_at, turn_at}
use Rattle.file.specs.declared.File.{File}
use Rattle.file.specs.Sizes.{closed_file}
use Rattle.pool.specs.Free.{held_by, is_held, is_free}
use Rattle.pool.specs.Masks.{free_mask, free_after}
use Rattle.pool.proofs.FreeMasks.{after_same, held_mask, opened_mask, closed_mask}
use Rattle.pool.specs.Serving.{serves}
use Rattle.state_sound.specs.Files.{taken_count, is_blank, share_buffer, share_unit, apart}
use Rattle.state_sound.proofs.FileFacts.{Sound}
use Rattle.state_sound.proofs.Replaced.{Alike}
use Rattle.state_sound.proofs.Shares.{apart_holds, held_inside}
use Rattle.state.specs.declared.State.{State}
use Rattle.state.specs.Places.{no_channel, file_at, channel_in, channel_at}
use Rattle.state.specs.Stores.{with_file, with_channel, with_routines}
use Rattle.routines.specs.declared.Routines.{Routines}
use Rattle.routines.proofs.Laws.Facts.{RoutinesFacts}
use Rattle.routines_sound.specs.Beside.{declared_in, request_in}
use Rattle.state_sound.specs.Requests.{requested, is_none}
use Rattle.state_sound.specs.Soundness.{channel_of, request_of}
use Rattle.state_sound.specs.Judged.{file_ready}
use Rattle.state_sound.proofs.Everywhere.{by_place, place_inside}
use Rattle.state_sound.proofs.Apart.{apart_swap, apart_closed}
use Rattle.state_sound.proofs.ChannelFacts.{ChannelFacts, no_declared}
use Rattle.state_sound.proofs.Facts.{Served, SoundFacts}
use Rattle.std.specs.declared.option.Option.{Option}
use Rattle.std.specs.declared.option.Option.TheVariants.{Some, None}
use Rattle.channel.specs.declared.Op.{Op}

-- what holds of the new element, and of the others as they were, holds of each
pub at_place : {A : Type 0} (xs : List A) (i : ℕ) (a d : A) → i < length xs → (P : ℕ → A → Type 0) → P i a → ((j : ℕ) → j ≢ i → P j (get_or xs j d))
    → (j : ℕ) → P j (get_or (set xs i a) j d)
at_place xs i a d l P here others j = go (ℕ_discrete j i)
  where
    go : Dec (j ≡ i) → P j (get_or (set xs i a) j d)
    go (yes e) = rw (e, get_or-set_same xs i a d l) here
    go (no ne) = rw (get_or-set_other xs i j a d ne) (others j ne)

-- an open file serves its own unit and no other
served_unit : (c u : ℕ) (f : File) → serves c u f ≡ true → (f.opened ≡ true) × (f.channel ≡ c) × (f.unit ≡ u)
served_unit c u f h =
    let k = both {a = eqb f.channel c} (and_right f.opened _ h) in
    (and_left f.opened _ h, eqb-true f.channel c k.0, eqb-true f.unit u k.1)

serves_unit : (c u : ℕ) (f : File) → f.opened ≡ true → f.channel ≡ c → f.unit ≡ u → serves c u f ≡ true
serves_unit c u f o p q = and_both f.opened _ o (and_both (eqb f.channel c) _ (eq-eqb f.channel c p) (eq-eqb f.unit u q))

-- two open files that are apart have not the same unit
units_differ : (f g : File) → apart f g ≡ true → f.opened ≡ true → g.opened ≡ true → g.channel ≡ f.channel → g.unit ≡ f.unit → ⊥
unfolding apart
units_differ f g a o p c u =
    true_not_false (and_both f.opened _ o (serves_unit f.channel f.unit g p c u)) (not-true (share_unit f g) (and_right (not (share_buffer f g)) _ a))

-- ---- file i is open as f afterwards, channel c, which is its channel, is x, and the routines are r

pub record Replaced (s : State) (c i : ℕ) (x : Channel) (f : File) : Type 0 where
  pub place : i < length s.files
  pub line : c < length s.channels
  pub opened : f.opened ≡ true
  pub channel : f.channel ≡ c
  -- the file was on the same unit, if it was open
  pub was : (file_at s i).opened ≡ true → ((file_at s i).channel ≡ c) × ((file_at s i).unit ≡ f.unit)
  -- it is sound by itself, apart from the others, and ready for what is requested of its unit, which is declared
  pub sound : Sound s.m s.w f
  pub apart : (j : ℕ) → j ≢ i → apart f (file_at s j) ≡ true
  -- and holds the buffers that it held, if it was open
  pub held : (file_at s i).opened ≡ true → (b : ℕ) → held_by b f ≡ held_by b (file_at s i)
  pub declared : declared_at x f.unit ≡ true
  pub ready : file_ready (requested (turn_at x f.unit)) f ≡ true
  -- the channel is sound, and what is requested of its other units is as it was
  pub facts : ChannelFacts s.m s.frozen x
  pub others : (u : ℕ) → u ≢ f.unit → (requested (turn_at x u) ≡ requested (turn_at (channel_at s c) u)) × (declared_at x u ≡ declared_at (channel_at s c) u)

module _ (s : State) (c i : ℕ) (x : Channel) (f : File) (F : SoundFacts s) (R : Replaced s c i x f) where
  abbrev cs : List Channel
  cs = set s.channels c x

  abbrev fs : List File
  fs = set s.files i f

  here_channel : (n : ℕ) → n ≡ c → channel_in cs n ≡ x
  here_channel n e = ap (channel_in cs) e ∙ get_or-set_same s.channels c x no_channel R.line

  -- a unit that is not the file's own
  other_unit : (n u : ℕ) → (n ≡ c → u ≢ f.unit)
      → (requested (turn_at (channel_in cs n) u) ≡ requested (turn_at (channel_at s n) u)) × (declared_at (channel_in cs n) u ≡ declared_at (channel_at s n) u)
  other_unit n u differ = go (ℕ_discrete n c)
    where
      go : Dec (n ≡ c) → (requested (turn_at (channel_in cs n) u) ≡ requested (turn_at (channel_at s n) u)) × (declared_at (channel_in cs n) u ≡ declared_at (channel_at s n) u)
      go (yes e) =
          let o = R.others u (differ e) in (
            ap (λ (y : Channel). requested (turn_at y u)) (here_channel n e) ∙ o.0 ∙ ap (λ (k : ℕ). requested (turn_at (channel_at s k) u)) (sym e),
            ap (λ (y : Channel). declared_at y u) (here_channel n e) ∙ o.1 ∙ ap (λ (k : ℕ). declared_at (channel_at s k) u) (sym e),
          )
      go (no ne) = (
        ap (λ (y : Channel). requested (turn_at y u)) (get_or-set_other s.channels c n x no_channel ne),
        ap (λ (y : Channel). declared_at y u) (get_or-set_other s.channels c n x no_channel ne),
      )

  other_file : (j : ℕ) → j ≢ i → (file_at s j).opened ≡ true → (file_at s j).channel ≡ c → (file_at s j).unit ≢ f.unit
  other_file j ne o e u = units_differ f (file_at s j) (R.apart j ne) R.opened o (e ∙ sym R.channel) u

  apart_now : (j k : ℕ) → j ≢ k → apart (get_or fs j closed_file) (get_or fs k closed_file) ≡ true
  apart_now =
      at_place s.files i f closed_file R.place (λ j g. (k : ℕ) → j ≢ k → apart g (get_or fs k closed_file) ≡ true)
      (at_place s.files i f closed_file R.place (λ k g. i ≢ k → apart f g ≡ true) (λ ne. absurd (ne refl)) (λ k ne q. R.apart k ne))
      (λ j ne. at_place s.files i f closed_file R.place (λ k g. j ≢ k → apart (file_at s j) g ≡ true) (λ q. apart_swap f (file_at s j) (R.apart j ne)) (λ k p q. F.apart j k q))

  -- a file that served another unit than this file's serves it still
  keeps_serving : (n u : ℕ) → (n ≡ c → u ≢ f.unit) → Served s.files n u → Served fs n u
  keeps_serving n u differ p = record { place = p.place; bound = ap (serves n u) (get_or-set_other s.files i p.place f closed_file away) ∙ p.bound }
    where
      away : p.place ≢ i
      away e =
          let k = served_unit n u (file_at s i) (ap (λ (j : ℕ). serves n u (file_at s j)) (sym e) ∙ p.bound) in
          let w = R.was k.0 in
          differ (sym k.1 ∙ w.0) (sym k.2 ∙ w.1)

  served_now : (n u : ℕ) → is_none (requested (turn_at (channel_in cs n) u)) ≡ false → Served fs n u
  served_now n u h = go (ℕ_discrete n c) (ℕ_discrete u f.unit)
    where
      old : (n ≡ c → u ≢ f.unit) → Served fs n u
      old differ = keeps_serving n u differ (F.served n u (ap is_none (sym (other_unit n u differ).0) ∙ h))

      go : Dec (n ≡ c) → Dec (u ≡ f.unit) → Served fs n u
      go (yes e) (yes q) = record { place = i; bound = ap (serves n u) (get_or-set_same s.files i f closed_file R.place) ∙ serves_unit n u f R.opened (R.channel ∙ sym e) (sym q) }
      go (yes e) (no q) = old (λ p. q)
      go (no e) k = old (λ p. absurd (e p))

  -- a file that was open holds what it held, and one that was not takes its buffers
  mask_now : free_after s.free (file_at s i) f ≡ free_mask s.m fs
  mask_now = go (file_at s i).opened refl
    where
      go : (t : Bool) → (file_at s i).opened ≡ t → free_after s.free (file_at s i) f ≡ free_mask s.m fs
      go true o = sym (after_same s.free (file_at s i) f (o ∙ sym R.opened)) ∙ F.free ∙ sym (held_mask s.m s.files i f (R.held o))
      go false o = ap (λ (k : ℕ). free_after k (file_at s i) f) F.free ∙ opened_mask s.m s.files i f R.place o R.opened

  pub replaced_facts : (r : Routines) → RoutinesFacts (declared_in cs) (request_in cs) s.frozen r → SoundFacts (with_routines (with_file (with_channel s c x) i f) r)
  unfolding with_file with_channel with_routines
  replaced_facts r right = record {
    pool = F.pool;
    files = at_place s.files i f closed_file R.place (λ j g. g.opened ≡ true → Sound s.m s.w g) (λ o. R.sound) (λ j ne. F.files j);
    blank = at_place s.files i f closed_file R.place (λ j g. g.opened ≡ false → is_blank g ≡ true) (λ o. true_not_false R.opened o) (λ j ne. F.blank j);
    apart = apart_now;
    declared = at_place s.files i f closed_file R.place (λ j g. g.opened ≡ true → declared_at (channel_in cs g.channel) g.unit ≡ true)
        (λ o. ap (λ (y : Channel). declared_at y f.unit) (here_channel f.channel R.channel) ∙ R.declared)
        (λ j ne o. (other_unit (file_at s j).channel (file_at s j).unit (other_file j ne o)).1 ∙ F.declared j o);
    ready = at_place s.files i f closed_file R.place (λ j g. g.opened ≡ true → file_ready (requested (turn_at (channel_in cs g.channel) g.unit)) g ≡ true)
        (λ o. ap (λ (y : Channel). file_ready (requested (turn_at y f.unit)) f) (here_channel f.channel R.channel) ∙ R.ready)
        (λ j ne o. ap (λ (r : Option Op). file_ready r (file_at s j)) (other_unit (file_at s j).channel (file_at s j).unit (other_file j ne o)).0 ∙ F.ready j o);
    channels = at_place s.channels c x no_channel R.line (λ n y. ChannelFacts s.m s.frozen y) R.facts (λ n ne. F.channels n);
    served = served_now;
    free = ap₂ (free_after s.free) refl (get_or-set_same s.files i f closed_file R.place) ∙ mask_now;
    routines = right;
  }

-- ---- the same buffers and the same unit

pub record SameHoldings (f g : File) : Type 0 where
  pub opened : f.opened ≡ g.opened
  pub channel : f.channel ≡ g.channel
  pub unit : f.unit ≡ g.unit
  pub double : f.double ≡ g.double
  pub low : f.low.number ≡ g.low.number
  pub high : f.high.number ≡ g.high.number

-- a file that is alike but for what its buffers hold
pub holdings : (f g : File) → Alike f g → SameHoldings g f
holdings f g A = record { opened = A.opened; channel = A.channel; unit = A.unit; double = A.double; low = A.low; high = A.high }

abbrev apart_by : Bool → ℕ → ℕ → Bool → ℕ → ℕ → File → Bool
apart_by o c u d low high h = not (o && (held_by low h || (d && held_by high h))) && not (o && serves c u h)

same_apart : (f g h : File) → SameHoldings f g → apart f h ≡ apart g h
unfolding apart
same_apart f g h S = over f.opened g.opened f.channel g.channel f.unit g.unit f.double g.double f.low.number g.low.number f.high.number g.high.number S.opened S.channel S.unit S.double S.low S.high
  where
    over : (o o' : Bool) (c c' u u' : ℕ) (d d' : Bool) (l l' k k' : ℕ) → o ≡ o' → c ≡ c' → u ≡ u' → d ≡ d' → l ≡ l' → k ≡ k' → apart_by o c u d l k h ≡ apart_by o' c' u' d' l' k' h
    over o o' c c' u u' d d' l l' k k' p q r t v w = rw (p, q, r, t, v, w)

same_held : (f g : File) (b : ℕ) → SameHoldings f g → held_by b f ≡ held_by b g
same_held f g b S = over f.opened g.opened f.double g.double f.low.number g.low.number f.high.number g.high.number S.opened S.double S.low S.high
  where
    over : (o o' d d' : Bool) (l l' k k' : ℕ) → o ≡ o' → d ≡ d' → l ≡ l' → k ≡ k' → (o && (eqb l b || (d && eqb k b))) ≡ (o' && (eqb l' b || (d' && eqb k' b)))
    over o o' d d' l l' k k' p q r t = rw (p, q, r, t)

-- "a declared unit": the channel of a sound state's open file is one of its channels
pub line_of : (s : State) → SoundFacts s → (i : ℕ) → (file_at s i).opened ≡ true → (file_at s i).channel < length s.channels
line_of s F i o = place_inside s.channels no_channel (λ (y : Channel). declared_at y (file_at s i).unit) (no_declared (file_at s i).unit) (file_at s i).channel (F.declared i o)

pub place_of : (s : State) (i : ℕ) → (file_at s i).opened ≡ true → i < length s.files
place_of s i o = place_inside s.files closed_file (λ (f : File). f.opened) refl i o

-- an open file, its channel and the routines: what ask and report do
module _ (s : State) (i : ℕ) (x : Channel) (f : File) (F : SoundFacts s) (o : (file_at s i).opened ≡ true) (S : SameHoldings f (file_at s i)) where
  pub both_kept : Sound s.m s.w f → file_ready (requested (turn_at x (file_at s i).unit)) f ≡ true → ChannelFacts s.m s.frozen x
      → declared_at x (file_at s i).unit ≡ true
      → ((u : ℕ) → u ≢ (file_at s i).unit → (requested (turn_at x u) ≡ requested (turn_at (channel_at s (file_at s i).channel) u)) × (declared_at x u ≡ declared_at (channel_at s (file_at s i).channel) u))
      → (r : Routines) → RoutinesFacts (declared_in (set s.channels (file_at s i).channel x)) (request_in (set s.channels (file_at s i).channel x)) s.frozen r
      → SoundFacts (with_routines (with_file (with_channel s (file_at s i).channel x) i f) r)
  both_kept sound ready facts known others r right =
      replaced_facts s (file_at s i).channel i x f F
      (record {
        place = place_of s i o;
        line = line_of s F i o;
        opened = S.opened ∙ o;
        channel = S.channel;
        was = λ p. (refl, sym S.unit);
        sound = sound;
        apart = λ j ne. same_apart f (file_at s i) (file_at s j) S ∙ F.apart i j (λ e. ne (sym e));
        held = λ p b. same_held f (file_at s i) b S;
        declared = ap (declared_at x) S.unit ∙ known;
        ready = ap (λ (u : ℕ). file_ready (requested (turn_at x u)) f) S.unit ∙ ready;
        facts = facts;
        others = λ u ne. others u (λ e. ne (e ∙ sym S.unit));
      }) r right

same_channel : (s : State) (c : ℕ) → with_channel s c (channel_at s c) ≡ s
unfolding with_channel
same_channel s c = ap (λ (ks : List Channel). record { m = s.m; w = s.w; frozen = s.frozen; channels = ks; files = s.files; free = s.free; routines = s.routines }) (set-get_or s.channels c no_channel)

-- the channels as they are, and the routines
same_routines : (s : State) (c : ℕ) → SoundFacts s
    → RoutinesFacts (declared_in (set s.channels c (channel_at s c))) (request_in (set s.channels c (channel_at s c))) s.frozen s.routines
same_routines s c F = subst (λ (cs : List Channel). RoutinesFacts (declared_in cs) (request_in cs) s.frozen s.routines) (sym (set-get_or s.channels c no_channel)) F.routines

own_routines : (s : State) (i : ℕ) (f : File) → with_routines (with_file s i f) s.routines ≡ with_file s i f
unfolding with_routines with_file
own_routines s i f = refl

-- an open file alone
pub file_kept_lem : (s : State) (i : ℕ) (f : File) → SoundFacts s → (file_at s i).opened ≡ true → SameHoldings f (file_at s i) → Sound s.m s.w f
    → file_ready (request_of s.channels (file_at s i)) f ≡ true → SoundFacts (with_file s i f)
file_kept_lem s i f F o S sound ready =
    subst SoundFacts (own_routines s i f)
    (subst (λ (t : State). SoundFacts (with_routines (with_file t i f) s.routines)) (same_channel s (file_at s i).channel)
    (both_kept s i (channel_at s (file_at s i).channel) f F o S sound ready (F.channels (file_at s i).channel) (F.declared i o) (λ u ne. (refl, refl)) s.routines (same_routines s (file_at s i).channel F)))

-- ---- open

-- f's buffers are free, and no file serves its unit
pub record Unbound (s : State) (f : File) : Type 0 where
  pub low : is_free s.files f.low.number ≡ true
  pub high : f.double ≡ true → is_free s.files f.high.number ≡ true
  pub unit : (j : ℕ) → serves f.channel f.unit (file_at s j) ≡ false

free_at : (s : State) (b : ℕ) → is_free s.files b ≡ true → (j : ℕ) → held_by b (file_at s j) ≡ false
free_at s b h j =
    by_place s.files closed_file (λ g. held_by b g ≡ false) j (none_at (held_by b) closed_file s.files (not-true (is_held s.files b) h) j) refl

apart_free : (s : State) (f : File) → Unbound s f → (j : ℕ) → apart f (file_at s j) ≡ true
unfolding apart
apart_free s f U j = over f.opened (held_by f.low.number (file_at s j)) f.double (held_by f.high.number (file_at s j)) (serves f.channel f.unit (file_at s j)) (free_at s f.low.number U.low j) (λ d. free_at s f.high.number (U.high d) j) (U.unit j)
  where
    over : (o a d b t : Bool) → a ≡ false → (d ≡ true → b ≡ false) → t ≡ false → (not (o && (a || (d && b))) && not (o && t)) ≡ true
    over false a d b t p q r = refl
    over true a true b t p q r = rw (p, q refl, r)
    over true a false b t p q r = rw (p, r)

-- a file slot that is not open becomes an open file, empty, on a declared unit
pub open_kept : (s : State) (i : ℕ) (f : File) → SoundFacts s → i < length s.files → (file_at s i).opened ≡ false → f.opened ≡ true → Sound s.m s.w f
    → taken_count f ≡ 0 → declared_at (channel_of s.channels f) f.unit ≡ true → Unbound s f → SoundFacts (with_file s i f)
unfolding file_ready
open_kept s i f F place shut o sound none known U =
    subst SoundFacts (own_routines s i f)
    (subst (λ (t : State). SoundFacts (with_routines (with_file t i f) s.routines)) (same_channel s f.channel)
    (replaced_facts s f.channel i (channel_of s.channels f) f F
    (record {
      place = place;
      line = place_inside s.channels no_channel (λ (y : Channel). declared_at y f.unit) (no_declared f.unit) f.channel known;
      opened = o;
      channel = refl;
      was = λ p. true_not_false p shut;
      sound = sound;
      apart = λ j ne. apart_free s f U j;
      held = λ p. true_not_false p shut;
      declared = known;
      ready = idle (request_of s.channels f) (is_none (request_of s.channels f)) refl quiet;
      facts = F.channels f.channel;
      others = λ u ne. (refl, refl);
    }) s.routines (same_routines s f.channel F)))
  where
    quiet : is_none (request_of s.channels f) ≡ false → ⊥
    quiet n = let p = F.served f.channel f.unit n in true_not_false p.bound (U.unit p.place)

    idle : (r : Option Op) (t : Bool) → is_none r ≡ t → (is_none r ≡ false → ⊥) → file_ready r f ≡ true
    idle r false n q = absurd (q n)
    idle (Some op) true n q = absurd (q refl)
    idle None true n q = and_both (eqb (taken_count f) 0) _ (eq-eqb (taken_count f) 0 none) refl

-- ---- close

-- an open file whose unit has no request becomes a closed one
pub close_kept : (s : State) (i : ℕ) → SoundFacts s → (file_at s i).opened ≡ true → is_none (request_of s.channels (file_at s i)) ≡ true → SoundFacts (with_file s i closed_file)
unfolding with_file is_blank
close_kept s i F o quiet = record {
  pool = F.pool;
  files = at_place s.files i closed_file closed_file place (λ j g. g.opened ≡ true → Sound s.m s.w g) (λ p. true_not_false p refl) (λ j ne. F.files j);
  blank = at_place s.files i closed_file closed_file place (λ j g. g.opened ≡ false → is_blank g ≡ true) (λ p. refl) (λ j ne. F.blank j);
  apart = at_place s.files i closed_file closed_file place (λ j g. (k : ℕ) → j ≢ k → apart g (get_or fs k closed_file) ≡ true)
      (λ k ne. apart_swap (get_or fs k closed_file) closed_file (apart_closed (get_or fs k closed_file)))
      (λ j ne. at_place s.files i closed_file closed_file place (λ k g. j ≢ k → apart (file_at s j) g ≡ true) (λ q. apart_closed (file_at s j)) (λ k p q. F.apart j k q));
  declared = at_place s.files i closed_file closed_file place (λ j g. g.opened ≡ true → declared_at (channel_of s.channels g) g.unit ≡ true) (λ p. true_not_false p refl) (λ j ne. F.declared j);
  ready = at_place s.files i closed_file closed_file place (λ j g. g.opened ≡ true → file_ready (request_of s.channels g) g ≡ true) (λ p. true_not_false p refl) (λ j ne. F.ready j);
  channels = F.channels;
  served = λ c u n. still c u n (F.served c u n);
  free = ap₂ (λ (k : ℕ) (g : File). free_after k (file_at s i) g) F.free (get_or-set_same s.files i closed_file closed_file place)
      ∙ closed_mask s.m s.files i place o inside alone;
  routines = F.routines;
}
  where
    place : i < length s.files
    place = place_of s i o

    fs : List File
    fs = set s.files i closed_file

    -- its buffers are among the m, and no other file holds them
    inside : (b : ℕ) → held_by b (file_at s i) ≡ true → b < s.m
    inside b h = held_inside s.m s.w (file_at s i) b (F.files i o) h

    alone : (b : ℕ) → held_by b (file_at s i) ≡ true → is_held fs b ≡ false
    alone b h =
        by_test (λ t. is_held fs b ≡ t → t ≡ false) (is_held fs b)
        (λ t q. let p = any_at (held_by b) closed_file fs q in
        true_not_false p.passes (at_place s.files i closed_file closed_file place (λ j g. held_by b g ≡ false) refl
        (λ j ne. apart_holds b (file_at s i) (file_at s j) (F.apart i j (λ e. ne (sym e))) h) p.place))
        (λ t q. refl) refl

    still : (c u : ℕ) → is_none (requested (turn_at (channel_at s c) u)) ≡ false → Served s.files c u → Served (set s.files i closed_file) c u
    still c u n p = record { place = p.place; bound = ap (serves c u) (get_or-set_other s.files i p.place closed_file closed_file away) ∙ p.bound }
      where
        away : p.place ≢ i
        away e =
            let k = served_unit c u (file_at s i) (ap (λ (j : ℕ). serves c u (file_at s j)) (sym e) ∙ p.bound) in
            true_not_false quiet
            (ap (λ (a : ℕ). is_none (requested (turn_at (channel_at s a) (file_at s i).unit))) k.1 ∙ ap (λ (b : ℕ). is_none (requested (turn_at (channel_at s c) b))) k.2 ∙ n)
