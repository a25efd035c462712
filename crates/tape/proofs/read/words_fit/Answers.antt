-- `tape::read::words_fit` meets its contract, by whether bytes and words have room, counted in words. Assumes nothing.
use mathlib.Core.Path.{sym, ap, ◌∙◌}
use mathlib.Core.Bool.{Bool, ◌&&◌}
use Prim.Native.Nat.{◌-◌}
use borrow.Author.Tests.{le-leb, lt-leb}
use lib.Dec.{leb}
use Rattle.tape.proofs.Laws.Words.{unfit_bytes, unfit_room, fit_both}
use Rattle.tape.proofs.read.words_fit.Goals as goal
use Rattle.tape.proofs.read.words_fit.Goals.{then-bytes-place-via-then-bytes-place, then-bytes-place-via-else-bytes-place+then-room-at}

pub returns-then-bytes-place : goal.returns-then-bytes-place
returns-then-bytes-place c = let a = c.args in
    elim c.then-bytes-place.branch [
      | then-bytes-place-via-then-bytes-place w ↦ unfit_bytes a.bytes a.place a.n a.room a.at w.if-bytes-place.true
      | then-bytes-place-via-else-bytes-place+then-room-at w ↦ unfit_room a.bytes a.place a.n a.room a.at w.if-room-at.true
    ]

pub returns-then-n-bytes : goal.returns-then-n-bytes
returns-then-n-bytes c = let a = c.args in
    ap (λ (t : Bool). t && leb a.n (a.room - a.at)) (sym (le-leb _ _ c.if-n-bytes.true)) ∙ fit_both a.bytes a.place a.n a.room a.at c.if-bytes-place.false c.if-room-at.false

pub returns-else-n-bytes : goal.returns-else-n-bytes
returns-else-n-bytes c = let a = c.args in
    lt-leb _ _ c.if-n-bytes.false ∙ ap (λ (t : Bool). t && leb a.n (a.room - a.at)) (sym (lt-leb _ _ c.if-n-bytes.false)) ∙ fit_both a.bytes a.place a.n a.room a.at c.if-bytes-place.false c.if-room-at.false
