-- `planner_text::lines::read_events` meets its contract. What stands in the room, with what the lines that are left say, is the whole. Assumes nothing.
use mathlib.Core.Path.{◌≡◌, refl, ap, ◌∙◌}
use Prim.Native.Nat.{ℕ, ◌<◌}
use native.Mathlib.Omega.{arith}
use lib.ListN.{length, take, length-set}
use Rattle.planner_text.specs.Texts.{event_of}
use Rattle.planner_text.proofs.Steps.{put_start_lem, put_line, put_full, put_end}
use borrow.Author.Rules.{rules}
use Rattle.planner_text.proofs.lines.read_events.Goals as goal

pub loop-n-init : goal.loop-n-init
loop-n-init c = let at-args = c.args in (
  refl,
  search rules,
  put_start_lem event_of at-args.text.now at-args.events.now at-args.events.now at-args.at 0 (length at-args.events.now),
)

pub returns-then-text-i : goal.returns-then-text-i
returns-then-text-i c = let at-loop = c.loop-n in record {
  events_after = put_end event_of c.args.text.now at-loop.events _ at-loop.i at-loop.n _ c.if-text-i.true at-loop.invariant.2;
  upper_bound = (omega arith, at-loop.invariant.0);
}

pub loop-n-preserved : goal.loop-n-preserved
loop-n-preserved c = let at-loop = c.loop-n in
    let said = c.event_of in
    let room : at-loop.n < length at-loop.events = omega (arith, at-loop.invariant.0) in (
      length-set at-loop.events at-loop.n said.result ∙ at-loop.invariant.0,
      c.after_line-i.ensures.2,
      put_line event_of c.args.text.now at-loop.events _ at-loop.i at-loop.n c.after_line-i.result _ said.result
          c.if-text-i.false room at-loop.invariant.0
          (said.ensures ∙ ap event_of c.first.ensures) c.after_line-i.ensures.0 at-loop.invariant.2,
    )

pub returns : goal.returns
returns c = let at-loop = c.loop-n in
    let all : length at-loop.events ≡ at-loop.n = omega arith in record {
      events_after = ap (λ (k : ℕ). take k at-loop.events) all ∙ put_full event_of c.args.text.now at-loop.events _ at-loop.i at-loop.n _ at-loop.invariant.0 (omega arith) at-loop.invariant.2;
      upper_bound = (omega arith, at-loop.invariant.0);
    }
