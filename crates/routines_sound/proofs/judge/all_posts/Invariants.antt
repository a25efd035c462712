use mathlib.Core.Path.{◌≡◌}
use Prim.Native.Nat.{ℕ}
use lib.ListN.{length, drop}
use Rattle.area.specs.Numbered.{all_from}
use Rattle.channel.specs.Units.{unit_count, declared_at, has_request}
use Rattle.routines.specs.declared.Post.{Post}
use Rattle.routines.specs.Right.{post_right}
use Rattle.routines_sound.proofs.judge.all_posts.Given as goal

abbrev pub invariant-loop-u : goal.invariant-loop-u
invariant-loop-u l = (length l.units ≡ unit_count) × (all_from (λ (v : ℕ) (x : Post). post_right (declared_at l.c v) (has_request l.c v) x) 0 l.units ≡ all_from (λ (v : ℕ) (x : Post). post_right (declared_at l.c v) (has_request l.c v) x) l.u (drop l.u l.units))
