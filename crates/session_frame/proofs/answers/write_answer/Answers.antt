-- `session_frame::answers::write_answer` meets its contract: the lead, the words and the line feed are the definition's line (`Wrote`). Assumes nothing.
use borrow.Author.Tests.{leb-true}
use mathlib.Core.Path.{sym, ap, ◌∙◌}
use Prim.Native.Nat.{ℕ, ◌≤◌, ◌+◌, ◌*◌}
use native.Mathlib.Omega.{arith}
use lib.ListN.{length, length-set}
use Rattle.session_frame.specs.Leads.{lead_bytes}
use Rattle.session_frame.proofs.Laws.Texts.{leads, text_unwritten, text_written}
use Rattle.session_frame.proofs.answers.write_answer.Goals as goal

pub line_fits-requires : goal.line_fits-requires
line_fits-requires c = (leads c.args.a c.lead_of-lead.result c.lead_of-lead.ensures).most

pub returns-then-not-line_fits : goal.returns-then-not-line_fits
returns-then-not-line_fits c = let both = (let a = c.args in
    let lead-of = c.lead_of-lead in
    text_unwritten a.a lead-of.result a.words.now _ (leads a.a lead-of.result lead-of.ensures) c.shown-part.ensures a.out.now _ c.line_fits.ensures c.if-not-line_fits.true) in record { value = both.0; out_after = both.1 }

pub slice_bounds-write_lead-end : goal.slice_bounds-write_lead-end
unfolding lead_bytes
slice_bounds-write_lead-end c = sym (leads c.args.a c.lead_of-lead.result c.lead_of-lead.ensures).counts

pub write_lead-mid-requires : goal.write_lead-mid-requires
unfolding lead_bytes
write_lead-mid-requires c = let a = c.args in
    let lead-of = c.lead_of-lead in
    let is = leads a.a lead-of.result lead-of.ensures in
    omega (arith, is.counts, leb-true (2 * lead-of.result.count + 10 * length c.shown-part.result.now + 1) (length a.out.now) (sym c.line_fits.ensures ∙ c.if-not-line_fits.false))

pub bounds-out-end : goal.bounds-out-end
unfolding lead_bytes
bounds-out-end c = let is = leads c.args.a c.lead_of-lead.result c.lead_of-lead.ensures in
    let room : 2 * c.lead_of-lead.result.count + 10 * length c.shown-part.result.now + 1 ≤ length c.args.out.now = leb-true _ _ (sym c.line_fits.ensures ∙ c.if-not-line_fits.false) in
    let wrote = text_written c.args.a c.lead_of-lead.result c.args.words.now c.shown-part.result.now is c.shown-part.ensures c.args.out.now c.line_fits.result c.line_fits.ensures c.if-not-line_fits.false room _ _ _ _ (c.write_lead-mid.ensures.0 ∙ ap (λ (k : ℕ). 2 * k) is.counts) c.write_lead-mid.ensures.1 c.put_words-end.ensures.value c.put_words-end.ensures.out_after in
    wrote.inside

pub overflow_add-result : goal.overflow_add-result
unfolding lead_bytes
overflow_add-result c = let is = leads c.args.a c.lead_of-lead.result c.lead_of-lead.ensures in
    let room : 2 * c.lead_of-lead.result.count + 10 * length c.shown-part.result.now + 1 ≤ length c.args.out.now = leb-true _ _ (sym c.line_fits.ensures ∙ c.if-not-line_fits.false) in
    let wrote = text_written c.args.a c.lead_of-lead.result c.args.words.now c.shown-part.result.now is c.shown-part.ensures c.args.out.now c.line_fits.result c.line_fits.ensures c.if-not-line_fits.false room _ _ _ _ (c.write_lead-mid.ensures.0 ∙ ap (λ (k : ℕ). 2 * k) is.counts) c.write_lead-mid.ensures.1 c.put_words-end.ensures.value c.put_words-end.ensures.out_after in
    omega (arith, wrote.inside, wrote.kept)

pub shape_of-out : goal.shape_of-out
unfolding lead_bytes
shape_of-out c = let is = leads c.args.a c.lead_of-lead.result c.lead_of-lead.ensures in
    let room : 2 * c.lead_of-lead.result.count + 10 * length c.shown-part.result.now + 1 ≤ length c.args.out.now = leb-true _ _ (sym c.line_fits.ensures ∙ c.if-not-line_fits.false) in
    let wrote = text_written c.args.a c.lead_of-lead.result c.args.words.now c.shown-part.result.now is c.shown-part.ensures c.args.out.now c.line_fits.result c.line_fits.ensures c.if-not-line_fits.false room _ _ _ _ (c.write_lead-mid.ensures.0 ∙ ap (λ (k : ℕ). 2 * k) is.counts) c.write_lead-mid.ensures.1 c.put_words-end.ensures.value c.put_words-end.ensures.out_after in
    length-set c.put_words-end.new.out _ _ ∙ wrote.kept

pub returns : goal.returns
unfolding lead_bytes
returns c = let is = leads c.args.a c.lead_of-lead.result c.lead_of-lead.ensures in
    let room : 2 * c.lead_of-lead.result.count + 10 * length c.shown-part.result.now + 1 ≤ length c.args.out.now = leb-true _ _ (sym c.line_fits.ensures ∙ c.if-not-line_fits.false) in
    let wrote = text_written c.args.a c.lead_of-lead.result c.args.words.now c.shown-part.result.now is c.shown-part.ensures c.args.out.now c.line_fits.result c.line_fits.ensures c.if-not-line_fits.false room _ _ _ _ (c.write_lead-mid.ensures.0 ∙ ap (λ (k : ℕ). 2 * k) is.counts) c.write_lead-mid.ensures.1 c.put_words-end.ensures.value c.put_words-end.ensures.out_after in
    record { value = wrote.answer; out_after = wrote.text }
