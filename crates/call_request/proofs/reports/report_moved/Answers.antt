-- `call_request::reports::report_moved` meets its contract: what it has looked at gives the rows; then it is refused, or booked by the contracts of its parts. Assumes nothing.
use mathlib.Core.Path.{◌≡◌, sym, ap, ◌∙◌}
use mathlib.Core.Bool.{Bool}
use Rattle.std.specs.Option.{is_some}
use Rattle.area.specs.Lists.{all_of}
use Rattle.area.specs.Parts.{is_word}
use Rattle.call_request.specs.Report.{delivery_check}
use Rattle.call_request.proofs.Found.{Seen, number_found, move_refused, move_booked, move_area, rows_fit, is_then_some, then_some_is}
use Rattle.call_request.proofs.reports.report_moved.Goals as goal

pub unwrap-found-requires : goal.unwrap-found-requires
unwrap-found-requires c = sym c.is_some.ensures ∙ rows_fit c.args.wrong c.args.unit c.args.outcome c.args.length c.worked_for-x.result c.judge_turn-v.result c.effect_of-e.result c.is_some.result c.part_are_words-clean.result c.block_fits-room.result _ (sym c.report_refusal-no.ensures ∙ c.if-no-ne0.false)

pub returns-then-no-ne0 : goal.returns-then-no-ne0
returns-then-no-ne0 c =
    let given : c.is_some.result ≡ all_of is_word c.args.words.now = c.is_some.ensures ∙ ap is_some c.look-looked.ensures ∙ is_then_some _ _ in
    let S : Seen c.args.f c.args.y.turn c.args.outcome c.args.length c.args.w c.args.area.now c.args.words.now _ _ _ _ _ _ _ _ = record {
      work = c.worked_for-x.ensures;
      verdict = c.judge_turn-v.ensures;
      effect = c.effect_of-e.ensures;
      given = given;
      from = c.shown_start-start.ensures.0;
      many = c.shown_count-count.ensures.0;
      handed = c.part_are_words-clean.ensures;
      space = c.block_fits-room.ensures;
    } in
    let k = move_refused c.args.wrong c.args.frozen c.args.y c.args.d c.args.unit S _ (c.report_refusal-no.ensures ∙ number_found c.args.wrong c.args.frozen c.args.y c.args.d c.args.unit S) c.if-no-ne0.true in
    record { value = c.refused.ensures ∙ k.0; area_after = k.1 }

pub returns : goal.returns
returns c =
    let given : c.is_some.result ≡ all_of is_word c.args.words.now = c.is_some.ensures ∙ ap is_some c.look-looked.ensures ∙ is_then_some _ _ in
    let S : Seen c.args.f c.args.y.turn c.args.outcome c.args.length c.args.w c.args.area.now c.args.words.now _ _ _ _ _ _ _ _ = record {
      work = c.worked_for-x.ensures;
      verdict = c.judge_turn-v.ensures;
      effect = c.effect_of-e.ensures;
      given = given;
      from = c.shown_start-start.ensures.0;
      many = c.shown_count-count.ensures.0;
      handed = c.part_are_words-clean.ensures;
      space = c.block_fits-room.ensures;
    } in
    let number = c.report_refusal-no.ensures ∙ number_found c.args.wrong c.args.frozen c.args.y c.args.d c.args.unit S in
    let check = then_some_is (all_of is_word c.args.words.now) (delivery_check c.effect_of-e.result c.args.f c.args.words.now) _ (sym c.unwrap-found.ensures ∙ c.look-looked.ensures) in
    record {
      value = move_booked c.args.wrong c.args.frozen c.args.y c.args.d c.args.unit S _ number c.if-no-ne0.false _ _ _ _ check c.delivery_of.ensures c.result_number.ensures c.book_move.ensures;
      area_after = c.put_words.ensures ∙ move_area c.args.wrong c.args.frozen c.args.y c.args.d c.args.unit S _ number c.if-no-ne0.false;
    }
