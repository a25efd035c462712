-- `session_frame::frames::ask` meets its contract, by whether its size is that of one that names a routine. Assumes nothing.
use mathlib.Core.Path.{sym, ap, ◌∙◌}
use Rattle.routines.specs.declared.Naming.{Naming}
use Rattle.session_frame.specs.Digits.{bytes_of}
use Rattle.session_frame.specs.declared.Frame.{Frame}
use Rattle.session_frame.specs.Frames.{sized, plain_ask, ask_with}
use Rattle.session_frame.proofs.Laws.Sizes.{ask_named, ask_plain}
use Rattle.session_frame.proofs.frames.ask.Goals as goal

pub returns-then-n-eq-NAMING_ASK : goal.returns-then-n-eq-NAMING_ASK
returns-then-n-eq-NAMING_ASK c = let a = c.args in
    c.ask_with.ensures ∙ ap (λ (q : Naming). ask_with q (bytes_of a.line.now)) c.naming_in.ensures
    ∙ sym (ask_named a.n (bytes_of a.line.now) c.if-n-eq-NAMING_ASK.true)

pub returns : goal.returns
returns c = let a = c.args in
    c.if_sized.ensures
    ∙ ap (λ (f : Frame). sized a.n plain_ask f)
    (c.ask_with-2.ensures ∙ ap (λ (q : Naming). ask_with q (bytes_of a.line.now)) c.no_naming.ensures)
    ∙ sym (ask_plain a.n (bytes_of a.line.now) c.if-n-eq-NAMING_ASK.false)
