-- `session_frame::frames::report` meets its contract, by whether its bytes show a length and, if so, its outcome. Assumes nothing.
use mathlib.Core.Path.{sym, ap, ◌∙◌}
use Rattle.session_frame.specs.Digits.{bytes_of}
use Rattle.session_frame.specs.Frames.{length_head, report_with}
use Rattle.session_frame.proofs.Laws.Sizes.{report_plain, report_other, report_measured}
use Rattle.session_frame.proofs.frames.report.Goals as goal

pub returns-then-not-shows_length : goal.returns-then-not-shows_length
returns-then-not-shows_length c = let a = c.args in
    c.report_with.ensures ∙ sym (report_plain a.n (bytes_of a.line.now) (sym c.shows_length.ensures ∙ c.if-not-shows_length.true))

pub returns-then-outcome-ne-REDUNDANCY : goal.returns-then-outcome-ne-REDUNDANCY
returns-then-outcome-ne-REDUNDANCY c = let a = c.args in
    sym (report_other a.n (bytes_of a.line.now) (sym c.shows_length.ensures ∙ c.if-not-shows_length.false) (λ e. c.if-outcome-ne-REDUNDANCY.true (c.byte_at-outcome.ensures ∙ e)))

pub returns : goal.returns
returns c = let a = c.args in
    c.report_with-2.ensures ∙ ap (λ k. report_with length_head k a.n (bytes_of a.line.now)) (c.from.ensures ∙ c.size_at.ensures)
    ∙ sym (report_measured a.n (bytes_of a.line.now) (sym c.shows_length.ensures ∙ c.if-not-shows_length.false) (sym c.byte_at-outcome.ensures ∙ c.if-outcome-ne-REDUNDANCY.false))
