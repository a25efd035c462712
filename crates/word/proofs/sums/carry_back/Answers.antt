-- `word::sums::carry_back` meets its contract, at every width below 64. Assumes nothing.
use Rattle.std.proofs.Common.{ℕ, ◌^◌, ◌<◌, sym, subst, arith}
use Rattle.word.specs.Sums.{carry_back}
use Rattle.word.proofs.Laws.Carry.{carry_lt, narrow, one_shl_pos, machine_carry}
use Rattle.word.proofs.sums.carry_back.Goals as goal

pub overflow_add-s : goal.overflow_add-s
overflow_add-s c = let k = c.args.k in
    omega (arith, narrow k c.args.a c.requires.0 c.requires.1, narrow k c.args.b c.requires.0 c.requires.2)

pub overflow_sub-result : goal.overflow_sub-result
overflow_sub-result c = one_shl_pos c.args.k c.requires.0

pub overflow_add-result : goal.overflow_add-result
overflow_add-result c = let k = c.args.k in
    let a = c.args.a in
    let b = c.args.b in
    let e = machine_carry k a b c.requires.0 in
    omega (arith, e, narrow k (carry_back k a b) c.requires.0 (carry_lt k a b c.requires.1 c.requires.2))

pub returns : goal.returns
returns c = let k = c.args.k in
    let a = c.args.a in
    let b = c.args.b in
    let e = machine_carry k a b c.requires.0 in
    (e, subst (λ (n : ℕ). n < 2 ^ k) (sym e) (carry_lt k a b c.requires.1 c.requires.2))
