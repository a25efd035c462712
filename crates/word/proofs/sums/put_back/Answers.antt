-- `word::sums::put_back` meets its contract. Assumes nothing.
use Rattle.std.proofs.Common.{ℕ, ◌-◌, ◌^◌, ◌<◌, sym, ap, subst, arith}
use Rattle.word.specs.Totals.{reduced}
use Rattle.word.proofs.Laws.Carry.{machine_reduced, reduced_lt}
use Rattle.word.proofs.sums.put_back.Goals as goal

pub returns-then-t-eq0 : goal.returns-then-t-eq0
unfolding reduced
returns-then-t-eq0 c = (sym (ap (reduced (2 ^ 36 - 1)) c.if-t-eq0.true), omega arith)

pub returns : goal.returns
returns c = let t = c.args.t in
    let e = machine_reduced (2 ^ 36 - 1) t c.if-t-eq0.false in
    (e, subst (λ (n : ℕ). n < 2 ^ 36) (sym e) (reduced_lt 35 t))
