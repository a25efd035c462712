-- `session_frame::frames::all_digits` meets its contract. What was found so far and what is left of the line give the answer of the whole. Assumes nothing.
use mathlib.Core.Path.{refl, sym, ap, ◌∙◌}
use mathlib.Core.Bool.{Bool, ◌&&◌}
use Prim.Native.Nat.{◌+◌}
use lib.ListN.{drop}
use Rattle.area.specs.Lists.{all_of}
use Rattle.session_frame.specs.Digits.{is_digit}
use Rattle.session_frame.proofs.Laws.Alls.{so_far, so_all}
use Rattle.session_frame.proofs.frames.all_digits.Goals as goal

pub loop-c-init : goal.loop-c-init
loop-c-init c = refl

pub loop-c-preserved : goal.loop-c-preserved
loop-c-preserved c = so_far is_digit c.args.line.now c.loop-c.c-index _ c.loop-c.all c.loop-c-test.true c.loop-c.invariant ∙ ap (λ (b : Bool). (c.loop-c.all && b) && all_of is_digit (drop (c.loop-c.c-index + 1) c.args.line.now)) (sym c.is_digit-all.ensures)

pub returns : goal.returns
returns c = so_all is_digit c.args.line.now c.loop-c.c-index _ c.loop-c.all c.loop-c-test.false c.loop-c.invariant
