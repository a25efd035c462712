use mathlib.Core.Path.{refl}
use native.Mathlib.Omega.{arith}
use Rattle.image_sound.proofs.BufferLaws.{there_bad, there_bare, there_part, there_sent, there_read}
use Rattle.image_sound.proofs.slots.slot_judged.Goals as goal

pub returns-then-kind-gt-FULL : goal.returns-then-kind-gt-FULL
returns-then-kind-gt-FULL c = let a = c.args in there_bad a.b.now a.at c.requires (λ i. (c.shared_slice_known-1.given i).fits) a.sequence a.check a.output a.size a.rlen _ _ refl c.two_at-words.ensures c.if-kind-gt-FULL.true

pub returns-then-output : goal.returns-then-output
returns-then-output c = let a = c.args in there_sent a.b.now a.at c.requires (λ i. (c.shared_slice_known-1.given i).fits) a.sequence a.check a.output a.size a.rlen _ _ refl c.two_at-words.ensures _ _ c.if-kind-eq-FULL.true c.if-output.true c.has_only_words-only.ensures c.kind_if.ensures

pub returns-then-kind-eq-FULL : goal.returns-then-kind-eq-FULL
returns-then-kind-eq-FULL c = let a = c.args in there_read a.b.now a.at c.requires (λ i. (c.shared_slice_known-1.given i).fits) a.sequence a.check a.output a.size a.rlen _ _ refl c.two_at-words.ensures _ _ c.if-kind-eq-FULL.true c.if-output.false c.full_reads-reads.ensures c.kind_if-then-kind-eq-FULL.ensures

pub returns-then-kind-eq-PART : goal.returns-then-kind-eq-PART
returns-then-kind-eq-PART c = let a = c.args in there_part a.b.now a.at c.requires (λ i. (c.shared_slice_known-1.given i).fits) a.sequence a.check a.output a.size a.rlen _ _ refl c.two_at-words.ensures _ _ c.if-kind-eq-PART.true c.has_only_words-only-2.ensures c.kind_if-then-kind-eq-PART.ensures

pub returns : goal.returns
returns c = let a = c.args in there_bare a.b.now a.at c.requires (λ i. (c.shared_slice_known-1.given i).fits) a.sequence a.check a.output a.size a.rlen _ _ refl c.two_at-words.ensures _ _ (λ h. omega (arith, h, c.if-kind-gt-FULL.false)) c.if-kind-eq-FULL.false c.if-kind-eq-PART.false c.has_only_words-only-2.ensures c.kind_if-2.ensures
