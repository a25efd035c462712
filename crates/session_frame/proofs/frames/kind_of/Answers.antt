-- `session_frame::frames::kind_of` meets its contract: each arm is the case of the definition that its first byte names. Assumes nothing.
use borrow.Author.Rules.{rules}
use mathlib.Core.Path.{sym, ap, ◌∙◌}
use Prim.Native.Nat.{ℕ}
use Rattle.session_frame.specs.Digits.{bytes_of}
use Rattle.session_frame.specs.declared.Frame.TheVariants.{Close, Get, Seal, Skip}
use Rattle.session_frame.specs.Frames.{sized, kind_by}
use Rattle.session_frame.proofs.Laws.Sizes.{kind_is, kind_none}
use Rattle.session_frame.proofs.frames.kind_of.Goals as goal

pub returns-in-0 : goal.returns-in-0
unfolding kind_by
returns-in-0 c = let a = c.args in
    c.fresh.ensures ∙ sym (kind_is 0 a.n (bytes_of a.line.now) (sym c.byte_at.ensures ∙ c.in-0.is))

pub returns-in-1 : goal.returns-in-1
unfolding kind_by
returns-in-1 c = let a = c.args in
    c.opening.ensures ∙ sym (kind_is 1 a.n (bytes_of a.line.now) (sym c.byte_at.ensures ∙ c.in-1.is))

pub returns-in-2 : goal.returns-in-2
unfolding kind_by
returns-in-2 c = let a = c.args in
    c.if_sized.ensures ∙ ap (λ (x : ℕ). sized a.n 2 (Close x)) c.byte_at-file.ensures ∙ sym (kind_is 2 a.n (bytes_of a.line.now) (sym c.byte_at.ensures ∙ c.in-2.is))

pub returns-in-3 : goal.returns-in-3
unfolding kind_by
returns-in-3 c = let a = c.args in
    c.ask.ensures ∙ sym (kind_is 3 a.n (bytes_of a.line.now) (sym c.byte_at.ensures ∙ c.in-3.is))

pub returns-in-4 : goal.returns-in-4
unfolding kind_by
returns-in-4 c = let a = c.args in
    c.report.ensures ∙ sym (kind_is 4 a.n (bytes_of a.line.now) (sym c.byte_at.ensures ∙ c.in-4.is))

pub returns-in-5 : goal.returns-in-5
unfolding kind_by
returns-in-5 c = let a = c.args in
    c.if_sized-in-5.ensures ∙ ap (λ (x : ℕ). sized a.n 2 (Get x)) c.byte_at-file.ensures ∙ sym (kind_is 5 a.n (bytes_of a.line.now) (sym c.byte_at.ensures ∙ c.in-5.is))

pub returns-in-6 : goal.returns-in-6
unfolding kind_by
returns-in-6 c = let a = c.args in
    c.put.ensures ∙ sym (kind_is 6 a.n (bytes_of a.line.now) (sym c.byte_at.ensures ∙ c.in-6.is))

pub returns-in-7 : goal.returns-in-7
unfolding kind_by
returns-in-7 c = let a = c.args in
    c.if_sized-in-7.ensures ∙ ap (λ (x : ℕ). sized a.n 2 (Seal x)) c.byte_at-file.ensures ∙ sym (kind_is 7 a.n (bytes_of a.line.now) (sym c.byte_at.ensures ∙ c.in-7.is))

pub returns-in-8 : goal.returns-in-8
unfolding kind_by
returns-in-8 c = let a = c.args in
    c.if_sized-in-8.ensures ∙ ap (λ (x : ℕ). sized a.n 2 (Skip x)) c.byte_at-file.ensures ∙ sym (kind_is 8 a.n (bytes_of a.line.now) (sym c.byte_at.ensures ∙ c.in-8.is))

pub returns-in-9 : goal.returns-in-9
unfolding kind_by
returns-in-9 c = let a = c.args in
    c.if_sized-in-9.ensures ∙ sym (kind_is 9 a.n (bytes_of a.line.now) (sym c.byte_at.ensures ∙ c.in-9.is))

pub returns-in-10 : goal.returns-in-10
unfolding kind_by
returns-in-10 c = let a = c.args in
    c.if_sized-in-10.ensures ∙ sym (kind_is 10 a.n (bytes_of a.line.now) (sym c.byte_at.ensures ∙ c.in-10.is))

pub returns-in-11 : goal.returns-in-11
unfolding kind_by
returns-in-11 c = let a = c.args in
    c.if_sized-in-11.ensures ∙ sym (kind_is 11 a.n (bytes_of a.line.now) (sym c.byte_at.ensures ∙ c.in-11.is))

pub returns-in-12 : goal.returns-in-12
unfolding kind_by
returns-in-12 c = let a = c.args in
    c.if_sized-in-12.ensures ∙ sym (kind_is 12 a.n (bytes_of a.line.now) (sym c.byte_at.ensures ∙ c.in-12.is))

pub returns-in_default : goal.returns-in_default
returns-in_default c = let a = c.args in
    let byte_at = c.byte_at in
    sym (kind_is byte_at.result a.n (bytes_of a.line.now) (sym byte_at.ensures) ∙ kind_none _ _ _ (search rules) (search rules) (search rules) (search rules) (search rules) (search rules) (search rules) (search rules) (search rules) (search rules) (search rules) (search rules) (search rules))
