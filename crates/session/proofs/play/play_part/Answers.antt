-- `session::play::play_part` meets its contract: a turn of the loop, by the group of the line's frame, goes on as its definition (`Onwards`). Assumes nothing.
use borrow.Author.Rules.{rules}
use lib.Seq.{length-take-le}
use Rattle.session.proofs.Written.{front_fits}
use mathlib.Core.Path.{◌≡◌, refl, sym, ap, ◌∙◌}
use Prim.Native.Nat.{ℕ, ◌-◌}
use native.Mathlib.Omega.{arith}
use Rattle.session_reply.specs.Places.{group_number}
use Rattle.session.specs.Player.{player_with}
use Rattle.session.proofs.Turning.{IsPlayer, used_up_lem, full_up}
use Rattle.session.proofs.Onwards.{step_on, onward_open, onward_still, onward_posted, onward_whole, onward_refused, onward_routine, onward_binding, onward_record}
use Rattle.session.proofs.play.play_part.Goals as goal

-- a number that is a is no other
other : {g a b : ℕ} → g ≡ a → (a ≡ b → ⊥) → g ≡ b → ⊥
other e ne z = ne (sym e ∙ z)

pub loop-place-init : goal.loop-place-init
loop-place-init c = (refl, omega arith, record { files = search rules; channels = search rules }, c.requires, refl, refl, refl, refl)

pub returns-then-out-end-lt-ANSWER : goal.returns-then-out-end-lt-ANSWER
unfolding IsPlayer
returns-then-out-end-lt-ANSWER c = let both = full_up c.args.unsound c.args.bytes.now _ (player_with c.loop-place.t c.loop-place.area c.loop-place.more c.loop-place.room c.loop-place.words c.loop-place.place c.loop-place.out c.loop-place.end) c.loop-place.invariant.0 c.if-out-end-lt-ANSWER.true in record { value = both.0; area_after = both.1.0; room_after = both.1.1.0; words_after = both.1.1.1.0; out_after = both.1.1.1.1 }

pub loop-place-smaller-then-not-step : goal.loop-place-smaller-then-not-step
loop-place-smaller-then-not-step c = step_on c.loop-place.more c.args.bytes.now c.loop-place.place c.loop-place.room c.next_line-step.result c.next_line-step.ensures.value c.loop-place-test.true

pub loop-place-preserved-then-not-step : goal.loop-place-preserved-then-not-step
loop-place-preserved-then-not-step c = let O = onward_open c.args.unsound c.args.bytes.now _ c.loop-place.t c.loop-place.area c.loop-place.more c.loop-place.room c.loop-place.words c.loop-place.place c.loop-place.out c.loop-place.end c.loop-place.invariant.0 c.loop-place.invariant.2 c.loop-place-test.true c.if-out-end-lt-ANSWER.false c.next_line-step.result _ c.next_line-step.ensures.value c.next_line-step.ensures.room_after c.loop-place.invariant.1 c.loop-place.invariant.3 c.if-not-step.true in (O.same, O.within, O.counts, O.roomy, search rules, search rules, search rules, search rules)

pub slice_bounds-request_on-end-in-Request : goal.slice_bounds-request_on-end-in-Request
slice_bounds-request_on-end-in-Request c = sym (length-take-le _ _ (front_fits _ c.loop-place.words _ _ _ c.frame_in-q.ensures.count_value c.frame_in-q.ensures.words_after).0)

pub answer_at-end-requires : goal.answer_at-end-requires
answer_at-end-requires c = c.loop-place.invariant.1

pub loop-place-smaller-else-not-is_still : goal.loop-place-smaller-else-not-is_still
loop-place-smaller-else-not-is_still c = step_on c.loop-place.more c.args.bytes.now c.loop-place.place c.loop-place.room c.next_line-step.result c.next_line-step.ensures.value c.loop-place-test.true

pub loop-place-preserved-else-not-is_still : goal.loop-place-preserved-else-not-is_still
loop-place-preserved-else-not-is_still c = let O = onward_still c.args.unsound c.args.bytes.now _ c.loop-place.t c.loop-place.area c.loop-place.more c.loop-place.room c.loop-place.words c.loop-place.place c.loop-place.out c.loop-place.end c.loop-place.invariant.0 c.loop-place.invariant.2 c.loop-place-test.true c.if-out-end-lt-ANSWER.false c.next_line-step.result _ c.next_line-step.ensures.value c.next_line-step.ensures.room_after c.loop-place.invariant.1 c.loop-place.invariant.3 c.if-not-step.false _ _ _ c.frame_in-q.ensures.frame_value.0 c.frame_in-q.ensures.count_value c.frame_in-q.ensures.words_after _ c.no_line-more.ensures _ c.group_of.ensures (ap group_number c.in-Request.is) _ _ _ _ c.file_number-i.ensures c.index_in-k.ensures.0 refl _ _ _ c.channel_place-l.ensures.0 refl _ c.post_for-stood.ensures _ _ _ c.request_on-x.ensures.value c.request_on-x.ensures.area_after c.free_after-free.ensures _ _ (c.answer_at-end.ensures.value, c.answer_at-end.ensures.out_after) _ c.is_still.ensures c.if-not-is_still.false in (O.same, O.within, O.counts, O.roomy, search rules, search rules, search rules, search rules)

pub loop-place-smaller-then-not-is_still : goal.loop-place-smaller-then-not-is_still
loop-place-smaller-then-not-is_still c = step_on c.loop-place.more c.args.bytes.now c.loop-place.place c.loop-place.room c.next_line-step.result c.next_line-step.ensures.value c.loop-place-test.true

pub loop-place-preserved-then-not-is_still : goal.loop-place-preserved-then-not-is_still
loop-place-preserved-then-not-is_still c = let O = onward_posted c.args.unsound c.args.bytes.now _ c.loop-place.t c.loop-place.area c.loop-place.more c.loop-place.room c.loop-place.words c.loop-place.place c.loop-place.out c.loop-place.end c.loop-place.invariant.0 c.loop-place.invariant.2 c.loop-place-test.true c.if-out-end-lt-ANSWER.false c.next_line-step.result _ c.next_line-step.ensures.value c.next_line-step.ensures.room_after c.loop-place.invariant.1 c.loop-place.invariant.3 c.if-not-step.false _ _ _ c.frame_in-q.ensures.frame_value.0 c.frame_in-q.ensures.count_value c.frame_in-q.ensures.words_after _ c.no_line-more.ensures _ c.group_of.ensures (ap group_number c.in-Request.is) _ _ _ _ c.file_number-i.ensures c.index_in-k.ensures.0 refl _ _ _ c.channel_place-l.ensures.0 refl _ c.post_for-stood.ensures _ _ _ c.request_on-x.ensures.value c.request_on-x.ensures.area_after c.free_after-free.ensures _ _ (c.answer_at-end.ensures.value, c.answer_at-end.ensures.out_after) _ c.posted-t.ensures in (O.same, O.within, O.counts, O.roomy, search rules, search rules, search rules, search rules)

pub answer_at-end-requires-in-Whole : goal.answer_at-end-requires-in-Whole
answer_at-end-requires-in-Whole c = c.loop-place.invariant.1

pub loop-place-smaller-then-no-eq0 : goal.loop-place-smaller-then-no-eq0
loop-place-smaller-then-no-eq0 c = step_on c.loop-place.more c.args.bytes.now c.loop-place.place c.loop-place.room c.next_line-step.result c.next_line-step.ensures.value c.loop-place-test.true

pub loop-place-preserved-then-no-eq0 : goal.loop-place-preserved-then-no-eq0
loop-place-preserved-then-no-eq0 c = let O = onward_whole c.args.unsound c.args.bytes.now _ c.loop-place.t c.loop-place.area c.loop-place.more c.loop-place.room c.loop-place.words c.loop-place.place c.loop-place.out c.loop-place.end c.loop-place.invariant.0 c.loop-place.invariant.2 c.loop-place-test.true c.if-out-end-lt-ANSWER.false c.next_line-step.result _ c.next_line-step.ensures.value c.next_line-step.ensures.room_after c.loop-place.invariant.1 c.loop-place.invariant.3 c.if-not-step.false _ _ _ c.frame_in-q.ensures.frame_value.0 c.frame_in-q.ensures.count_value c.frame_in-q.ensures.words_after _ c.no_line-more.ensures _ c.group_of.ensures (other (ap group_number c.in-Whole.is) (λ z. omega (arith, z))) (ap group_number c.in-Whole.is) _ c.whole_refusal-no.ensures _ c.answer_or-a.ensures _ _ (c.answer_at-end-in-Whole.ensures.value, c.answer_at-end-in-Whole.ensures.out_after) c.if-no-eq0.true _ c.whole_state-t.ensures in (O.same, O.within, O.counts, O.roomy, c.loop-place.invariant.4, search rules, search rules, search rules)

pub loop-place-smaller-else-no-eq0 : goal.loop-place-smaller-else-no-eq0
loop-place-smaller-else-no-eq0 c = step_on c.loop-place.more c.args.bytes.now c.loop-place.place c.loop-place.room c.next_line-step.result c.next_line-step.ensures.value c.loop-place-test.true

pub loop-place-preserved-else-no-eq0 : goal.loop-place-preserved-else-no-eq0
loop-place-preserved-else-no-eq0 c = let O = onward_refused c.args.unsound c.args.bytes.now _ c.loop-place.t c.loop-place.area c.loop-place.more c.loop-place.room c.loop-place.words c.loop-place.place c.loop-place.out c.loop-place.end c.loop-place.invariant.0 c.loop-place.invariant.2 c.loop-place-test.true c.if-out-end-lt-ANSWER.false c.next_line-step.result _ c.next_line-step.ensures.value c.next_line-step.ensures.room_after c.loop-place.invariant.1 c.loop-place.invariant.3 c.if-not-step.false _ _ _ c.frame_in-q.ensures.frame_value.0 c.frame_in-q.ensures.count_value c.frame_in-q.ensures.words_after _ c.no_line-more.ensures _ c.group_of.ensures (other (ap group_number c.in-Whole.is) (λ z. omega (arith, z))) (ap group_number c.in-Whole.is) _ c.whole_refusal-no.ensures _ c.answer_or-a.ensures _ _ (c.answer_at-end-in-Whole.ensures.value, c.answer_at-end-in-Whole.ensures.out_after) c.if-no-eq0.false in (O.same, O.within, O.counts, O.roomy, c.loop-place.invariant.4, search rules, search rules, search rules)

pub answer_at-end-requires-in-Routine : goal.answer_at-end-requires-in-Routine
answer_at-end-requires-in-Routine c = c.loop-place.invariant.1

pub loop-place-smaller-in-Routine : goal.loop-place-smaller-in-Routine
loop-place-smaller-in-Routine c = step_on c.loop-place.more c.args.bytes.now c.loop-place.place c.loop-place.room c.next_line-step.result c.next_line-step.ensures.value c.loop-place-test.true

pub loop-place-preserved-in-Routine : goal.loop-place-preserved-in-Routine
loop-place-preserved-in-Routine c = let O = onward_routine c.args.unsound c.args.bytes.now _ c.loop-place.t c.loop-place.area c.loop-place.more c.loop-place.room c.loop-place.words c.loop-place.place c.loop-place.out c.loop-place.end c.loop-place.invariant.0 c.loop-place.invariant.2 c.loop-place-test.true c.if-out-end-lt-ANSWER.false c.next_line-step.result _ c.next_line-step.ensures.value c.next_line-step.ensures.room_after c.loop-place.invariant.1 c.loop-place.invariant.3 c.if-not-step.false _ _ _ c.frame_in-q.ensures.frame_value.0 c.frame_in-q.ensures.count_value c.frame_in-q.ensures.words_after _ c.no_line-more.ensures _ c.group_of.ensures (other (ap group_number c.in-Routine.is) (λ z. omega (arith, z))) (other (ap group_number c.in-Routine.is) (λ z. omega (arith, z))) (ap group_number c.in-Routine.is) _ c.routine_on-x.ensures _ _ (c.answer_at-end-in-Routine.ensures.value, c.answer_at-end-in-Routine.ensures.out_after) in (O.same, O.within, O.counts, O.roomy, c.loop-place.invariant.4, search rules, search rules, search rules)

pub answer_at-end-requires-in-Binding : goal.answer_at-end-requires-in-Binding
answer_at-end-requires-in-Binding c = c.loop-place.invariant.1

pub loop-place-smaller-in-Binding : goal.loop-place-smaller-in-Binding
loop-place-smaller-in-Binding c = step_on c.loop-place.more c.args.bytes.now c.loop-place.place c.loop-place.room c.next_line-step.result c.next_line-step.ensures.value c.loop-place-test.true

pub loop-place-preserved-in-Binding : goal.loop-place-preserved-in-Binding
loop-place-preserved-in-Binding c = let O = onward_binding c.args.unsound c.args.bytes.now _ c.loop-place.t c.loop-place.area c.loop-place.more c.loop-place.room c.loop-place.words c.loop-place.place c.loop-place.out c.loop-place.end c.loop-place.invariant.0 c.loop-place.invariant.2 c.loop-place-test.true c.if-out-end-lt-ANSWER.false c.next_line-step.result _ c.next_line-step.ensures.value c.next_line-step.ensures.room_after c.loop-place.invariant.1 c.loop-place.invariant.3 c.if-not-step.false _ _ _ c.frame_in-q.ensures.frame_value.0 c.frame_in-q.ensures.count_value c.frame_in-q.ensures.words_after _ c.no_line-more.ensures _ c.group_of.ensures (other (ap group_number c.in-Binding.is) (λ z. omega (arith, z))) (other (ap group_number c.in-Binding.is) (λ z. omega (arith, z))) (other (ap group_number c.in-Binding.is) (λ z. omega (arith, z))) _ _ _ _ c.named_file-i.ensures c.index_in-k-in-Binding.ensures.0 refl (ap group_number c.in-Binding.is) _ _ _ c.channel_place-l-in-Binding.ensures.0 refl _ _ c.binding_on-x.ensures c.free_after-free-in-Binding.ensures _ _ (c.answer_at-end-in-Binding.ensures.value, c.answer_at-end-in-Binding.ensures.out_after) in (O.same, O.within, O.counts, O.roomy, c.loop-place.invariant.4, search rules, search rules, search rules)

pub slice_bounds-record_on-end-in-Record : goal.slice_bounds-record_on-end-in-Record
slice_bounds-record_on-end-in-Record c = sym (length-take-le _ _ (front_fits _ c.loop-place.words _ _ _ c.frame_in-q.ensures.count_value c.frame_in-q.ensures.words_after).0)

pub answer_at-end-requires-in-Record : goal.answer_at-end-requires-in-Record
answer_at-end-requires-in-Record c = c.loop-place.invariant.1

pub loop-place-smaller : goal.loop-place-smaller
loop-place-smaller c = step_on c.loop-place.more c.args.bytes.now c.loop-place.place c.loop-place.room c.next_line-step.result c.next_line-step.ensures.value c.loop-place-test.true

pub loop-place-preserved : goal.loop-place-preserved
loop-place-preserved c = let O = onward_record c.args.unsound c.args.bytes.now _ c.loop-place.t c.loop-place.area c.loop-place.more c.loop-place.room c.loop-place.words c.loop-place.place c.loop-place.out c.loop-place.end c.loop-place.invariant.0 c.loop-place.invariant.2 c.loop-place-test.true c.if-out-end-lt-ANSWER.false c.next_line-step.result _ c.next_line-step.ensures.value c.next_line-step.ensures.room_after c.loop-place.invariant.1 c.loop-place.invariant.3 c.if-not-step.false _ _ _ c.frame_in-q.ensures.frame_value.0 c.frame_in-q.ensures.count_value c.frame_in-q.ensures.words_after _ c.no_line-more.ensures _ c.group_of.ensures (other (ap group_number c.in-Record.is) (λ z. omega (arith, z))) (other (ap group_number c.in-Record.is) (λ z. omega (arith, z))) (other (ap group_number c.in-Record.is) (λ z. omega (arith, z))) _ _ _ _ c.named_file-i-in-Record.ensures c.index_in-k-in-Record.ensures.0 refl (other (ap group_number c.in-Record.is) (λ z. omega (arith, z))) _ _ _ c.record_on-x.ensures.value c.record_on-x.ensures.area_after c.free_after-free-in-Record.ensures _ _ (c.answer_at-end-in-Record.ensures.value, c.answer_at-end-in-Record.ensures.out_after) in (O.same, O.within, O.counts, O.roomy, search rules, search rules, search rules, search rules)

pub returns : goal.returns
unfolding IsPlayer
returns c = let both = used_up_lem c.args.unsound c.args.bytes.now _ (player_with c.loop-place.t c.loop-place.area c.loop-place.more c.loop-place.room c.loop-place.words c.loop-place.place c.loop-place.out c.loop-place.end) c.loop-place.invariant.0 c.loop-place-test.false in record { value = both.0; area_after = both.1.0; room_after = both.1.1.0; words_after = both.1.1.1.0; out_after = both.1.1.1.1 }
