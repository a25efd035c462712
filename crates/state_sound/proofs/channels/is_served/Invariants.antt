use mathlib.Core.Path.{◌≡◌}
use lib.ListN.{drop}
use Rattle.area.specs.Lists.{any_of}
use Rattle.pool.specs.Serving.{serves}
use Rattle.state_sound.proofs.channels.is_served.Given as goal

abbrev pub invariant-loop-f : goal.invariant-loop-f
invariant-loop-f l = any_of (serves l.number l.unit) l.f-items ≡ any_of (serves l.number l.unit) (drop l.f-index l.f-items)
