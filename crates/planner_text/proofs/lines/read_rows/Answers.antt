-- `planner_text::lines::read_rows` meets its contract. What stands in the room, with what the lines that are left say, is the whole. Assumes nothing.
use mathlib.Core.Path.{◌≡◌, refl, ap, ◌∙◌}
use Prim.Native.Nat.{ℕ, ◌<◌}
use native.Mathlib.Omega.{arith}
use lib.ListN.{length, take, length-set}
use Rattle.planner_text.specs.Texts.{row_of}
use Rattle.planner_text.proofs.Steps.{put_start_lem, put_line, put_full, put_end}
use borrow.Author.Rules.{rules}
use Rattle.planner_text.proofs.lines.read_rows.Goals as goal

pub loop-n-init : goal.loop-n-init
loop-n-init c = let at-args = c.args in (
  refl,
  search rules,
  put_start_lem row_of at-args.text.now at-args.rows.now at-args.rows.now at-args.at 0 (length at-args.rows.now),
)

pub returns-then-text-i : goal.returns-then-text-i
returns-then-text-i c = let at-loop = c.loop-n in record {
  rows_after = put_end row_of c.args.text.now at-loop.rows _ at-loop.i at-loop.n _ c.if-text-i.true at-loop.invariant.2;
  upper_bound = (omega arith, at-loop.invariant.0);
}

pub loop-n-preserved : goal.loop-n-preserved
loop-n-preserved c = let at-loop = c.loop-n in
    let said = c.row_of in
    let room : at-loop.n < length at-loop.rows = omega (arith, at-loop.invariant.0) in (
      length-set at-loop.rows at-loop.n said.result ∙ at-loop.invariant.0,
      c.after_line-i.ensures.2,
      put_line row_of c.args.text.now at-loop.rows _ at-loop.i at-loop.n c.after_line-i.result _ said.result
          c.if-text-i.false room at-loop.invariant.0
          (said.ensures ∙ ap row_of c.first.ensures) c.after_line-i.ensures.0 at-loop.invariant.2,
    )

pub returns : goal.returns
returns c = let at-loop = c.loop-n in
    let all : length at-loop.rows ≡ at-loop.n = omega arith in record {
      rows_after = ap (λ (k : ℕ). take k at-loop.rows) all ∙ put_full row_of c.args.text.now at-loop.rows _ at-loop.i at-loop.n _ at-loop.invariant.0 (omega arith) at-loop.invariant.2;
      upper_bound = (omega arith, at-loop.invariant.0);
    }
