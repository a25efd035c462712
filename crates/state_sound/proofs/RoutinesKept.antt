-- The routines of a sound state beside a channel that an ask or a report has changed. Assumes nothing.
use mathlib.Core.Path.{◌≡◌, ap, ◌∙◌}
use mathlib.Core.Bool.{true, false, not}
use mathlib.Core.List.{List}
use Prim.Native.Nat.{ℕ, ◌<◌}
use native.Mathlib.Decide.{ℕ_discrete}
use lib.ListN.{length, set}
use lib.Seq.{get_or-set_same, get_or-set_other}
use Rattle.channel.specs.declared.Channel.{Channel}
use Rattle.channel.specs.Units.{declared_at, turn_at, has_request}
use Rattle.state.specs.declared.State.{State}
use Rattle.state.specs.Places.{no_channel, channel_in, channel_at}
use Rattle.routines.specs.declared.Due.{Due}
use Rattle.routines.specs.Posts.{waits_in}
use Rattle.routines.specs.Right.{due_right}
use Rattle.routines.specs.Changes.{asked_in, answered_in}
use Rattle.routines.proofs.Laws.Facts.{RoutinesFacts, routines_alike, routines_asked, routines_answered}
use Rattle.routines_sound.specs.Beside.{declared_in, request_in}
use Rattle.state_sound.specs.Requests.{requested, is_none}
use Rattle.state_sound.proofs.ChannelFacts.{request_none, request_alike}
use Rattle.state_sound.proofs.ChannelCalls.{Moved}
use Rattle.state_sound.proofs.Facts.{SoundFacts}
use Rattle.std.specs.declared.option.Option.{Option}
use Rattle.channel.specs.declared.Op.{Op}

-- channel c becomes x, of whose unit u w is requested afterwards; all else is as it was
module _ (s : State) (c u : ℕ) (x : Channel) (w : Option Op) (F : SoundFacts s) (line : c < length s.channels) (M : Moved s.m s.frozen (channel_at s c) x u w) where
  abbrev cs : List Channel
  cs = set s.channels c x

  here : channel_in cs c ≡ x
  here = get_or-set_same s.channels c x no_channel line

  away : (k : ℕ) → (k ≡ c → ⊥) → channel_in cs k ≡ channel_at s k
  away k ne = get_or-set_other s.channels c k x no_channel ne

  known : (k v : ℕ) → declared_in cs k v ≡ declared_in s.channels k v
  known k v = go (ℕ_discrete k c) (ℕ_discrete v u)
    where
      go : Dec (k ≡ c) → Dec (v ≡ u) → declared_in cs k v ≡ declared_in s.channels k v
      go (yes e) (yes f) = rw (e, f, here) M.known
      go (yes e) (no f) = rw (e, here) (M.others v f).1
      go (no e) f = ap (λ (y : Channel). declared_at y v) (away k e)

  others : (k v : ℕ) → (k ≡ c → v ≡ u → ⊥) → request_in cs k v ≡ request_in s.channels k v
  others k v ne = go (ℕ_discrete k c) (ℕ_discrete v u)
    where
      go : Dec (k ≡ c) → Dec (v ≡ u) → request_in cs k v ≡ request_in s.channels k v
      go (yes e) (yes f) = absurd (ne e f)
      go (yes e) (no f) = rw (e, here) (request_alike x (channel_at s c) v (M.others v f).0)
      go (no e) f = ap (λ (y : Channel). has_request y v) (away k e)

  own : request_in cs c u ≡ not (is_none w)
  own = ap (λ (y : Channel). has_request y u) here ∙ request_none x u ∙ ap (λ (r : Option Op). not (is_none r)) M.here

  -- an ask: what it names is right, and no routine waits at the unit
  pub asked_beside : (d : Due) → is_none w ≡ false → waits_in s.routines c u ≡ false → due_right d ≡ true
      → RoutinesFacts (declared_in cs) (request_in cs) s.frozen (asked_in s.routines c u d)
  asked_beside d some free right =
      routines_asked (declared_in s.channels) (request_in s.channels) (declared_in cs) (request_in cs) s.frozen s.routines c u known others F.routines d (own ∙ ap not some) free right

  -- a report that answers the request of a declared unit
  pub answered_beside : is_none w ≡ true → declared_at (channel_at s c) u ≡ true → RoutinesFacts (declared_in cs) (request_in cs) s.frozen (answered_in s.routines s.frozen c u)
  answered_beside none there =
      routines_answered (declared_in s.channels) (request_in s.channels) (declared_in cs) (request_in cs) s.frozen s.routines c u known others F.routines (own ∙ ap not none) there

  -- a report after which the operation is repeated: the same is requested as before
  pub repeated_beside : w ≡ requested (turn_at (channel_at s c) u) → RoutinesFacts (declared_in cs) (request_in cs) s.frozen s.routines
  repeated_beside same =
      routines_alike (declared_in s.channels) (request_in s.channels) (declared_in cs) (request_in cs) known s.routines s.frozen (λ k v. each k v (ℕ_discrete k c) (ℕ_discrete v u)) F.routines
    where
      each : (k v : ℕ) → Dec (k ≡ c) → Dec (v ≡ u) → request_in cs k v ≡ request_in s.channels k v
      each k v (yes e) (yes f) = rw (e, f, here) (request_alike x (channel_at s c) u (M.here ∙ same))
      each k v (yes e) (no f) = others k v (λ p q. f q)
      each k v (no e) f = others k v (λ p q. e p)
