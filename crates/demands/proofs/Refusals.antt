-- Demand 1 from the tables of the thirteen calls. Assumes nothing.
use mathlib.Core.Path.{sym, ◌∙◌}
use mathlib.Core.List.{List}
use Prim.Native.Nat.{ℕ}
use Rattle.state.specs.declared.State.{State}
use Rattle.pack.specs.Calls.{Call}
use Rattle.pack.proofs.Refused.{call_exactly, call_carries, call_alone_lem}
use Rattle.demands.specs.Demands.{Refuses}

pub refuses : (s : State) (area : List ℕ) (call : Call) → Refuses s area call
refuses s area call =
    let x = call_exactly s area call in
    record {
      carries = call_carries s area call;
      given = λ n l e. x.1.given n l (sym x.0 ∙ e);
      gives = λ n g. x.0 ∙ x.1.gives n g;
      accepted = λ e. x.1.none (sym x.0 ∙ e);
      accepts = λ n. x.0 ∙ x.1.nothing n;
      unchanged = call_alone_lem s area call;
    }
