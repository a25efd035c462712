-- `tape::records::fault_of` meets its contract, row by row of the table, from the highest. Assumes nothing.
use mathlib.Core.Path.{sym, ap}
use native.Mathlib.Omega.{arith}
use Rattle.tape.proofs.Laws.Numbers.{given, fault_short, fault_over, fault_six, fault_cut, fault_differ, fault_none}
use Rattle.tape.proofs.records.fault_of.Goals as goal

pub returns-then-left-lt4 : goal.returns-then-left-lt4
returns-then-left-lt4 c = let a = c.args in
    ap given (sym (fault_short a.left a.n a.differ c.if-left-lt4.true))

pub returns-then-n-gt-MOST : goal.returns-then-n-gt-MOST
returns-then-n-gt-MOST c = let a = c.args in
    ap given (sym (fault_over a.left a.n a.differ c.if-left-lt4.false c.if-n-gt-MOST.true))

pub returns-then-n-ne0 : goal.returns-then-n-ne0
returns-then-n-ne0 c = let a = c.args in
    ap given (sym (fault_six a.left a.n a.differ c.if-left-lt4.false c.if-n-gt-MOST.false c.if-n-ne0.true))

pub returns-then-left-record_size : goal.returns-then-left-record_size
returns-then-left-record_size c = let a = c.args in
    ap given (sym (fault_cut a.left a.n a.differ c.if-left-lt4.false c.if-n-gt-MOST.false c.if-n-ne0.false (omega (arith, c.record_size.ensures, c.if-left-record_size.true))))

pub returns-then-differ : goal.returns-then-differ
returns-then-differ c = let a = c.args in
    ap given (sym (fault_differ a.left a.n a.differ c.if-n-gt-MOST.false c.if-n-ne0.false (omega (arith, c.record_size.ensures, c.if-left-record_size.false)) c.if-differ.true))

pub returns : goal.returns
returns c = let a = c.args in
    ap given (sym (fault_none a.left a.n a.differ c.if-n-gt-MOST.false c.if-n-ne0.false (omega (arith, c.record_size.ensures, c.if-left-record_size.false)) c.if-differ.false))
