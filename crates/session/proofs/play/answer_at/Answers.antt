-- src/play.rt:106:9
use native.Mathlib.Omega.{arith}
use mathlib.Core.Path.{ap}
use Rattle.session_frame.specs.Answers.{answer_text}
use Rattle.session.proofs.Written.{place_short, place_at, text_at}
use Rattle.session.proofs.play.answer_at.Goals as goal

pub overflow_add-result : goal.overflow_add-result
overflow_add-result c = let h = place_short c.args.out.now _ _ c.args.a c.args.end _ c.requires (ap (answer_text c.args.a) c.part-shown.ensures) c.write_answer-n.ensures.value in omega (arith, h)

pub returns : goal.returns
returns c = record { value = (place_at c.args.out.now _ _ c.args.a c.args.end _ c.requires (ap (answer_text c.args.a) c.part-shown.ensures) c.write_answer-n.ensures.value, place_short c.args.out.now _ _ c.args.a c.args.end _ c.requires (ap (answer_text c.args.a) c.part-shown.ensures) c.write_answer-n.ensures.value); out_after = text_at c.args.out.now _ _ c.args.a c.args.end _ c.requires (ap (answer_text c.args.a) c.part-shown.ensures) c.write_answer-n.ensures.value _ c.write_answer-n.ensures.out_after }
