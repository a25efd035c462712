-- Calls that concern all channels, and a return: the state before the first fresh start, a fresh start, freeze and thaw. Assumes nothing.
use mathlib.Core.Path.{◌≡◌, refl, sym, ap, subst, ◌∙◌}
use mathlib.Core.Bool.{Bool, true, false}
use mathlib.Core.List.{List, map}
use Prim.Native.Nat.{ℕ, ◌<◌}
use native.Mathlib.Decide.{dec_lt}
use native.Mathlib.Omega.{arith}
use lib.ListN.{length, get_or, replicate, length-map, length-replicate, get_or-replicate, get_or-map, get_or-eq_default}
use Rattle.area.proofs.Walks.{true_not_false}
use Rattle.channel.specs.declared.Turn.{Turn}
use Rattle.channel.specs.declared.Turn.TheVariants.{Idle}
use Rattle.channel.specs.declared.Channel.{Channel}
use Rattle.channel.specs.Units.{size, at_start, declared_at, turn_at, position_at, fresh_with, bits_from, fresh_of}
use Rattle.channel_turns.specs.Starts.{thaw_of}
use Rattle.channel_theorems.proofs.Theorems.Turning.{mark_as}
use Rattle.file.specs.declared.File.{File}
use Rattle.file.specs.Sizes.{closed_file}
use Rattle.pool.specs.Free.{file_count, pool_sound}
use Rattle.pool.specs.Masks.{free_mask, all_free}
use Rattle.pool.proofs.FreeMasks.{all_free_lem, none_free}
use Rattle.state_sound.specs.Files.{is_blank}
use Rattle.state.specs.declared.State.{State}
use Rattle.state.specs.Places.{channel_count, no_channel, before_start, file_at, channel_in, channel_at}
use Rattle.state.specs.Stores.{with_routines}
use Rattle.routines.specs.declared.Routines.{Routines}
use Rattle.routines.specs.Posts.{no_routines}
use Rattle.routines.specs.Schedule.{none_runs}
use Rattle.routines.specs.Changes.{looked_in, gave_back_in}
use Rattle.routines.proofs.Laws.Facts.{RoutinesFacts, ready_alike, routines_frozen, routines_looked, routines_back, routines_none}
use Rattle.routines_sound.specs.Beside.{declared_in, request_in}
use Rattle.state_sound.specs.Requests.{requested, is_none}
use Rattle.state_sound.specs.Soundness.{sound}
use Rattle.state_sound.specs.Judged.{file_ready}
use Rattle.state.proofs.Lookups.{any_default}
use Rattle.state_sound.proofs.Everywhere.{by_place}
use Rattle.state_sound.proofs.Apart.{apart_closed}
use Rattle.state_sound.proofs.ChannelFacts.{ChannelFacts, request_alike, idle_facts, fresh_idle, fresh_stands, no_idle, no_facts}
use Rattle.state_sound.proofs.ChannelCalls.{freeze_facts, thaw_facts, thaw_alike}
use Rattle.state_sound.proofs.Facts.{SoundFacts, facts_sound}
use Rattle.std.specs.declared.option.Option.{Option}
use Rattle.channel.specs.declared.Op.{Op}

-- ---- no file open, and nothing requested

pub blank_facts : (s : State) → pool_sound s.m s.w ≡ true → ((i : ℕ) → file_at s i ≡ closed_file) → ((c : ℕ) → ChannelFacts s.m s.frozen (channel_at s c))
    → ((c u : ℕ) → turn_at (channel_at s c) u ≡ Idle) → s.free ≡ free_mask s.m s.files
    → RoutinesFacts (declared_in s.channels) (request_in s.channels) s.frozen s.routines → SoundFacts s
unfolding is_blank
blank_facts s pool shut channels quiet mask none = record {
  pool = pool;
  files = λ i o. true_not_false o (ap (λ (f : File). f.opened) (shut i));
  blank = λ i o. rw (shut i);
  apart = λ i j ne. rw (shut j) (apart_closed (file_at s i));
  declared = λ i o. true_not_false o (ap (λ (f : File). f.opened) (shut i));
  ready = λ i o. true_not_false o (ap (λ (f : File). f.opened) (shut i));
  channels = channels;
  served = λ c u n. true_not_false (ap (λ (t : Turn). is_none (requested t)) (quiet c u)) n;
  free = mask;
  routines = none;
}

closed_files : (n i : ℕ) → get_or (replicate n closed_file) i closed_file ≡ closed_file
closed_files n i = by_place (replicate n closed_file) closed_file (λ f. f ≡ closed_file) i (λ l. get_or-replicate n i closed_file closed_file (omega (arith, length-replicate n closed_file))) refl

no_channels : (n c : ℕ) → channel_in (replicate n no_channel) c ≡ no_channel
no_channels n c = by_place (replicate n no_channel) no_channel (λ x. x ≡ no_channel) c (λ l. get_or-replicate n c no_channel no_channel (omega (arith, length-replicate n no_channel))) refl

-- "that state is sound too"
pub before_start_sound : sound before_start ≡ true
unfolding before_start
before_start_sound =
    facts_sound before_start
    (blank_facts before_start refl (closed_files file_count)
    (λ c. subst (ChannelFacts 0 false) (sym (no_channels channel_count c)) (no_facts 0 false))
    (λ c u. ap (λ (x : Channel). turn_at x u) (no_channels channel_count c) ∙ no_idle u)
    (none_free file_count)
    (routines_none _ _ false))

-- ---- a fresh start: any pool, any declared units

-- "A fresh start closes everything, drops all requests, thaws and resets the scans."
abbrev pub fresh_state : ℕ → ℕ → List ℕ → ℕ → State
fresh_state m w masks n = record { m = m; w = w; frozen = false; channels = map fresh_of masks; files = replicate n closed_file; free = all_free m; routines = no_routines }

fresh_mark : (mask : ℕ) (k : Bool) → mark_as k (fresh_of mask) < size (fresh_of mask)
unfolding fresh_of fresh_with bits_from
fresh_mark mask true = omega arith
fresh_mark mask false = omega arith

fresh_quiet : (mask u : ℕ) → turn_at (fresh_of mask) u ≡ Idle
unfolding fresh_of
fresh_quiet mask u = fresh_idle _ u

fresh_start_lem : (mask u : ℕ) → position_at (fresh_of mask) u ≡ at_start
unfolding fresh_of
fresh_start_lem mask u = fresh_stands _ u

pub fresh_sound : (m w : ℕ) (masks : List ℕ) (n : ℕ) → pool_sound m w ≡ true → 0 < m → sound (fresh_state m w masks n) ≡ true
fresh_sound m w masks n pool some =
    facts_sound (fresh_state m w masks n)
    (blank_facts (fresh_state m w masks n) pool (closed_files n)
    (λ c. subst (ChannelFacts m false) (sym (get_or-map fresh_of masks c 0)) (idle_facts m false (fresh_of (get_or masks c 0)) (fresh_mark (get_or masks c 0)) (fresh_quiet (get_or masks c 0)) (fresh_start_lem (get_or masks c 0)) (λ u e. some)))
    (λ c u. ap (λ (x : Channel). turn_at x u) (get_or-map fresh_of masks c 0) ∙ fresh_quiet (get_or masks c 0) u)
    (all_free_lem m n)
    (routines_none _ _ false))

-- ---- freeze and thaw

abbrev pub frozen_state : State → State
frozen_state s = record { m = s.m; w = s.w; frozen = true; channels = s.channels; files = s.files; free = s.free; routines = s.routines }

pub freeze_kept : (s : State) → SoundFacts s → SoundFacts (frozen_state s)
freeze_kept s F = record {
  pool = F.pool;
  files = F.files;
  blank = F.blank;
  apart = F.apart;
  declared = F.declared;
  ready = F.ready;
  channels = λ c. freeze_facts s.m s.frozen (channel_at s c) (F.channels c);
  served = F.served;
  free = F.free;
  routines = routines_frozen _ _ s.frozen s.routines F.routines;
}

abbrev pub thawed_state : State → State
thawed_state s = record { m = s.m; w = s.w; frozen = false; channels = map thaw_of s.channels; files = s.files; free = s.free; routines = looked_in s.routines false }

module _ (s : State) where
  -- a channel of the thawed state: thawed, or none
  thawed_at : (P : Channel → Channel → Type 0) → ((c : Channel) → P c (thaw_of c)) → P no_channel no_channel → (c : ℕ) → P (channel_at s c) (channel_in (map thaw_of s.channels) c)
  thawed_at P each end c = go (dec_lt c (length s.channels))
    where
      go : Dec (c < length s.channels) → P (channel_at s c) (channel_in (map thaw_of s.channels) c)
      go (yes l) =
          subst (P (channel_at s c))
          (sym (any_default (map thaw_of s.channels) c no_channel (thaw_of no_channel) (omega (arith, length-map s.channels thaw_of)) ∙ get_or-map thaw_of s.channels c no_channel))
          (each (channel_at s c))
      go (no l) =
          rw (get_or-eq_default s.channels no_channel {n = c} (omega (arith, l)), get_or-eq_default (map thaw_of s.channels) no_channel {n = c} (omega (arith, l, length-map s.channels thaw_of))) end

  alike : (c u : ℕ)
      → (requested (turn_at (channel_in (map thaw_of s.channels) c) u) ≡ requested (turn_at (channel_at s c) u)) × (declared_at (channel_in (map thaw_of s.channels) c) u ≡ declared_at (channel_at s c) u)
  alike c u = thawed_at (λ x y. (requested (turn_at y u) ≡ requested (turn_at x u)) × (declared_at y u ≡ declared_at x u)) (λ x. thaw_alike x u) (refl, refl) c

  pub thaw_kept : SoundFacts s → SoundFacts (thawed_state s)
  thaw_kept F = record {
    pool = F.pool;
    files = F.files;
    blank = F.blank;
    apart = F.apart;
    declared = λ i o. (alike (file_at s i).channel (file_at s i).unit).1 ∙ F.declared i o;
    ready = λ i o. ap (λ (r : Option Op). file_ready r (file_at s i)) (alike (file_at s i).channel (file_at s i).unit).0 ∙ F.ready i o;
    channels = λ c. thawed_at (λ x y. ChannelFacts s.m s.frozen x → ChannelFacts s.m false y) (λ x. thaw_facts s.m s.frozen x) (λ f. no_facts s.m false) c (F.channels c);
    served = λ c u n. F.served c u (ap is_none (sym (alike c u).0) ∙ n);
    free = F.free;
    routines = routines_looked _ _ s.routines (ready_alike (declared_in s.channels) (request_in s.channels) _ _ (λ c u. (alike c u).1) s.routines (λ c u. request_alike _ (channel_at s c) u (alike c u).0) F.routines.ready) false;
  }

-- ---- other routines alone

pub routines_kept : (s : State) (r : Routines) → SoundFacts s → RoutinesFacts (declared_in s.channels) (request_in s.channels) s.frozen r → SoundFacts (with_routines s r)
unfolding with_routines
routines_kept s r F right = record {
  pool = F.pool;
  files = F.files;
  blank = F.blank;
  apart = F.apart;
  declared = F.declared;
  ready = F.ready;
  channels = F.channels;
  served = F.served;
  free = F.free;
  routines = right;
}

-- a return of the routine that runs
pub back_kept : (s : State) → SoundFacts s → none_runs s.routines.programs ≡ false → SoundFacts (with_routines s (gave_back_in s.routines s.frozen).routines)
back_kept s F n = routines_kept s _ F (routines_back _ _ s.routines F.routines.ready s.frozen n)
