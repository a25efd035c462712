-- `sheet::calls::compared` meets its contract, from those of its callees. Assumes nothing.
use mathlib.Core.Path.{◌≡◌, refl, ap, ◌∙◌}
use mathlib.Core.Bool.{Bool, ◌&&◌}
use mathlib.Core.List.{List, [], ◌∷◌}
use Prim.Native.Nat.{ℕ}
use lib.Dec.{eqb}
use Rattle.std.specs.Str.{bytes_eq}
use Rattle.sheet.specs.Sheet.{same_bytes}
use Rattle.sheet.proofs.Steps.{compared_is}
use Rattle.sheet.proofs.calls.compared.Goals as goal

same_is : (a b : List ℕ) → bytes_eq a b ≡ same_bytes a b
unfolding same_bytes
same_is [] [] = refl
same_is [] (y ∷ ys) = refl
same_is (x ∷ xs) [] = refl
same_is (x ∷ xs) (y ∷ ys) = ap (λ (t : Bool). eqb x y && t) (same_is xs ys)

pub returns : goal.returns
returns c = compared_is c.args.d c.args.out.now c.args.recorded.now _ c.front.ensures _ (c.eq-alike.ensures ∙ same_is _ _) _ c.pick-differs.ensures _ c.no_line.ensures
