-- `call_request::asks::ask_moved` meets its contract: refused, or taken by the contracts of its parts. Assumes nothing.
use Rattle.call_request.proofs.AskFound.{ask_rests, ask_moves}
use Rattle.call_request.proofs.asks.ask_moved.Goals as goal

pub returns-then-refusal-ne0 : goal.returns-then-refusal-ne0
returns-then-refusal-ne0 c = rw c.rest.ensures (ask_rests _ _ _ _ _ _ _ _ _ _ _ c.is_idle-busy.ensures c.ask_refusal-refusal.ensures c.if-refusal-ne0.true)

pub returns : goal.returns
returns c = rw (c.ask_move.ensures, c.op_of.ensures) (ask_moves _ _ _ _ _ _ _ _ _ _ _ c.is_idle-busy.ensures c.ask_refusal-refusal.ensures c.if-refusal-ne0.false)
