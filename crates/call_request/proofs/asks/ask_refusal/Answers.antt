-- `call_request::asks::ask_refusal` meets its contract, from the contracts of its callees, a row at a time. Assumes nothing.
use Rattle.area.specs.Refusals.{lowest}
use Rattle.call_request.proofs.asks.ask_refusal.Goals as goal

pub returns : goal.returns
unfolding lowest
returns c = simp (c.row-7.ensures, c.row-6.ensures, c.row-5.ensures, c.row-4.ensures, c.row-3.ensures, c.row-2.ensures, c.row.ensures, c.has_empty-empty.ensures, c.has_full-full.ensures, c.has_unsent-unsent.ensures, c.naming_wrong-off.ensures)
