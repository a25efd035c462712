-- `session_line::grow::copy_in` meets its contract: the part is replaced where the bytes fit. Assumes nothing.
use mathlib.Core.Path.{◌≡◌, sym, ap, ◌∙◌}
use mathlib.Core.List.{List, ◌++◌}
use Prim.Native.Nat.{ℕ, ◌+◌, ◌-◌, ◌≤◌}
use native.Mathlib.Omega.{arith}
use lib.ListN.{length, take, drop}
use lib.Seq.{drop-drop}
use Rattle.area.specs.Parts.{paste, pasted_in}
use Rattle.area.proofs.Copies.{copy_misfit}
use Rattle.area.proofs.Pastes.{paste_fitting}
use Rattle.session_line.proofs.grow.copy_in.Goals as goal

put_back : (at : ℕ) (zs ys xs : List ℕ) → at + length ys ≤ length xs → zs ≡ ys → take at xs ++ (zs ++ drop (at + length ys - at) (drop at xs)) ≡ pasted_in at ys xs
unfolding paste
put_back at zs ys xs h e =
    let k : at + length ys - at ≡ length ys = omega arith in
    ap (λ (l : List ℕ). take at xs ++ (l ++ drop (at + length ys - at) (drop at xs))) e
    ∙ ap (λ (l : List ℕ). take at xs ++ (ys ++ l)) (ap (λ (n : ℕ). drop n (drop at xs)) k ∙ drop-drop (length ys) at xs)
    ∙ sym (paste_fitting at ys xs h)

pub returns-then-area-at : goal.returns-then-area-at
returns-then-area-at c = let both = (let a = c.args in
    copy_misfit a.at a.bytes.now a.area.now (omega arith)) in record { value = both.0; area_after = both.1 }

pub returns-then-area-at-2 : goal.returns-then-area-at-2
returns-then-area-at-2 c = let both = (let a = c.args in
    copy_misfit a.at a.bytes.now a.area.now (omega arith)) in record { value = both.0; area_after = both.1 }

pub returns-clause-area_after : goal.returns-clause-area_after
returns-clause-area_after c = put_back c.args.at c.copy_from_slice.new.self c.args.bytes.now c.args.area.now (omega arith) c.copy_from_slice.ensures.after
