use mathlib.Core.Path.{◌≡◌}
use Prim.Native.Nat.{◌-◌, ◌≤◌}
use lib.ListN.{length}
use Rattle.session.specs.Rooms.{most_words}
use Rattle.session.specs.Player.{player_with, play_part}
use Rattle.session_reply.proofs.Stores.{Counts}
use Rattle.session.proofs.play.play_part.Given as goal

abbrev pub invariant-loop-place : goal.invariant-loop-place
invariant-loop-place l = (play_part l.unsound l.bytes (player_with l.t l.area l.more l.room l.words l.place l.out l.end) ≡ play_part l.unsound l.bytes (player_with l.initial.t l.initial.area l.initial.more l.initial.room l.initial.words l.initial.place l.initial.out l.initial.end)) × (l.end ≤ length l.out)
    × Counts l.t × (most_words ≤ length l.words) × (length l.area ≡ length l.initial.area) × (length l.room ≡ length l.initial.room) × (length l.words ≡ length l.initial.words) × (length l.out ≡ length l.initial.out)

abbrev pub decreases-loop-place : goal.decreases-loop-place
decreases-loop-place l = length l.bytes - l.place
