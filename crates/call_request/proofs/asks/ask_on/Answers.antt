-- `call_request::asks::ask_on` meets its contract: what the ask makes of the unit, put on the channel. Assumes nothing.
use mathlib.Core.Path.{◌≡◌}
use Rattle.call_request.specs.Moves.{ask_moved}
use Rattle.channel.specs.Units.{unit_at}
use Rattle.channel_turns.specs.Desks.{desk_of}
use Rattle.call_request.proofs.Moved.{from_refused, from_taken}
use Rattle.call_request.proofs.asks.ask_on.Goals as goal

pub returns-then-a-ne0 : goal.returns-then-a-ne0
returns-then-a-ne0 c = let long = c.well_formed.1.1.0.1.1.0.1.0.1 in let is : c.ask_moved-a.result ≡ ask_moved c.args.wrong c.args.f (unit_at c.args.c c.args.f.unit) (desk_of c.args.c) c.args.op c.args.priority c.args.naming c.args.waits c.args.frozen = rw (← c.unit_of-x.ensures, ← c.desk_of-d.ensures) c.ask_moved-a.ensures in from_refused c.args.wrong c.args.f c.args.c long c.args.op c.args.priority c.args.naming c.args.waits c.args.frozen c.ask_moved-a.result is c.if-a-ne0.true

pub returns : goal.returns
returns c = let long = c.well_formed.1.1.0.1.1.0.1.0.1 in let is : c.ask_moved-a.result ≡ ask_moved c.args.wrong c.args.f (unit_at c.args.c c.args.f.unit) (desk_of c.args.c) c.args.op c.args.priority c.args.naming c.args.waits c.args.frozen = rw (← c.unit_of-x.ensures, ← c.desk_of-d.ensures) c.ask_moved-a.ensures in rw (c.moved_to.ensures, c.asked_file.ensures) (from_taken c.args.wrong c.args.f c.args.c long c.args.op c.args.priority c.args.naming c.args.waits c.args.frozen c.ask_moved-a.result is c.if-a-ne0.false)
