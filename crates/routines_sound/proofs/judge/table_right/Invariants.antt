use mathlib.Core.Path.{◌≡◌}
use Prim.Native.Nat.{ℕ}
use lib.ListN.{length, drop}
use Rattle.area.specs.Numbered.{all_from}
use Rattle.channel.specs.Units.{channel_count}
use Rattle.routines.specs.declared.Posts.{Posts}
use Rattle.routines.specs.Right.{posts_right}
use Rattle.routines_sound.specs.Beside.{declared_in, request_in}
use Rattle.routines_sound.proofs.judge.table_right.Given as goal

abbrev pub invariant-loop-i : goal.invariant-loop-i
invariant-loop-i l = (length l.posts ≡ channel_count) × (all_from (λ (c : ℕ) (p : Posts). posts_right (declared_in l.channels c) (request_in l.channels c) p) 0 l.posts ≡ all_from (λ (c : ℕ) (p : Posts). posts_right (declared_in l.channels c) (request_in l.channels c) p) l.i (drop l.i l.posts))
