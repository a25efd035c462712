-- Two calls in turn, from the answer of each. Assumes nothing.
use Prim.Native.Nat.{ℕ}
use mathlib.Core.Path.{◌≡◌, ap, ◌∙◌}
use mathlib.Core.List.{List}
use Rattle.state.specs.declared.State.{State}
use Rattle.state.specs.Places.{before_start}
use Rattle.pack.specs.Calls.{Call, Answer, answer_of}
use Rattle.reel.specs.declared.Options.{Options}
use Rattle.reel.specs.Steps.{in_turn, starts, opens, begun_by}

pub in_turn_is : (s : State) (area : List ℕ) (x y : Call) (a b : Answer) → a ≡ answer_of s area x → b ≡ answer_of a.state a.area y → b ≡ in_turn s area x y
unfolding in_turn
in_turn_is s area x y a b p q = q ∙ ap (λ (e : Answer). answer_of e.state e.area y) p

-- from the state before the first fresh start
pub begun_is : (s : State) (area : List ℕ) (o : Options) (a : Answer) → s ≡ before_start → a ≡ in_turn s area starts (opens o) → a ≡ begun_by area o
unfolding begun_by
begun_is s area o a p q = q ∙ ap (λ (t : State). in_turn t area starts (opens o)) p
