-- Whatever calls a caller makes, what the desk shows and what is still to come are together the same: in the end the desk shows the sheet.
-- Assumes nothing.
use mathlib.Core.Path.{◌≡◌, refl, sym, ap, ap₂, ◌∙◌, subst}
use mathlib.Core.Bool.{Bool, true, false, not, cond, ◌&&◌, ◌||◌}
use mathlib.Core.List.{List, [], ◌∷◌, ◌++◌}
use Prim.Native.Nat.{ℕ, ◌+◌, ◌≤◌, ◌<◌}
use native.Mathlib.Omega.{arith}
use borrow.Author.Tests.{eqb-true, ltb-true}
use lib.Dec.{eqb, ltb}
use lib.ListN.{length, take, drop, length-drop, drop_of_length-le}
use lib.Seq.{drop-drop}
use Rattle.area.proofs.Pastes.{length_paste}
use Rattle.area.proofs.Marks.{cond_true, cond_false}
use Rattle.area.proofs.Walks.{by_test, true_not_false, and_left, and_right, or_left, or_right}
use Rattle.session_frame.specs.Frames.{longest, frame_of}
use Rattle.session_line.specs.declared.Line.{Line}
use Rattle.session_line.specs.declared.Step.{Step as LineStep}
use Rattle.session_line.specs.Lines.{feed, onto, lines_of, feed_at, last_line}
use Rattle.session_line.specs.Machine.{has_begun, Holds, step_of, room_of}
use Rattle.session_line.proofs.Laws.Feeds.{lines_ended}
use Rattle.session_line.proofs.Laws.Holding.{holds_none, begun_none, begun_some}
use Rattle.session_line.proofs.Laws.Steps.{step_length, step_holds, step_ended, step_stopped}
use Rattle.state.specs.Places.{before_start}
use Rattle.session_reply.specs.Replies.{Reply, given_words, answer_to, text_of}
use Rattle.session_reply.proofs.Stores.{Counts}
use Rattle.session_reply.proofs.Kept.{answer_counts}
use Rattle.session.specs.Rooms.{most_words, most_text}
use Rattle.sheet.specs.declared.Listed.{Listed}
use Rattle.sheet.specs.declared.Desk.{Desk}
use Rattle.sheet.specs.declared.Taken.{Taken}
use Rattle.sheet.specs.Events.{event_of}
use Rattle.sheet.specs.Rows.{next, none_listed, listed_after, listed_through, rows_of}
use Rattle.sheet.specs.Sheet.{line_in, answers_of, events_of, first_differs, Sheet, sheet_from, sheet_of}
use Rattle.sheet.specs.Desks.{held_text, followed_desk, with_session, with_recorded, with_done, compared_desk, missing_desk, extra_desk, asks_no_line, asks_no_answer, Sat, sat_with, played_sat, stepped_sat, session_part, over_sat, session_end, taken_with, answers_step, answers_part, answers_room, answers_end}
use Rattle.sheet.specs.Runs.{Table, table_after, table_with, after_session, after_answers, Step, takes_line, ends_session, takes_answer, ends_answers, Run, stop, then, start_table, is_finished, shown_by}
use Rattle.sheet.proofs.Following.{requests_listed}
use Rattle.sheet.proofs.Played.{lines_from, from_ended, from_open, from_none, held_same, paste_most, fit, out_line, line_some, line_most, played_to, played_to_lem, differs_by, next_some, differs_played, differs_compared, differs_missing, differs_extra, differs_end}

-- ---- what is left: the first difference and the requests of the lines to come, `recorded` being the recorded lines to come

record Left : Type 0 where
  differs : ℕ
  listed : Listed

unfoldable left_by : Desk → List ℕ → List ℕ → List (List ℕ) → List (List ℕ) → Left
left_by d area out lines recorded =
    record {
      differs = differs_by d.differs d.waits d.frames (take d.length out) (answers_of d.state area lines) recorded;
      listed = listed_through (next d.frames) d.listed (events_of d.state area lines);
    }

abbrev lines_on : Desk → List ℕ → List ℕ → List (List ℕ)
lines_on d l xs = cond d.over [] (lines_from l xs)

abbrev recorded_on : Desk → List ℕ → List ℕ → List (List ℕ)
recorded_on d r ys = cond d.done [] (lines_from r ys)

abbrev left_of : Table → List ℕ → List ℕ → Left
left_of t l r = left_by t.desk t.area t.out (lines_on t.desk l t.session) (recorded_on t.desk r t.answers)

-- ---- a table on which l has come of a line of the session, and r of a recorded one

record Waits (d : Desk) (out : List ℕ) : Type 0 where
  same : d.differs ≡ 0
  counted : 0 < d.frames
  some : 0 < length (take d.length out)
  most : length (take d.length out) ≤ longest

record Fine (t : Table) (l r : List ℕ) : Type 0 where
  counts : Counts t.desk.state
  session : Holds t.desk.session t.room l
  recorded : Holds t.desk.recorded t.other r
  room : length t.room ≡ longest
  other : length t.other ≡ longest
  words : most_words ≤ length t.words
  out : most_text ≤ length t.out
  none : t.desk.waits ≡ false → r ≡ []
  waits : t.desk.waits ≡ true → Waits t.desk t.out

record Kept (t : Table) (l r : List ℕ) (u : Table) : Type 0 where
  line : List ℕ
  mine : List ℕ
  fine : Fine u line mine
  same : left_of u line mine ≡ left_of t l r

-- ---- a line of the session

module _ (t : Table) (l r : List ℕ) (F : Fine t l r) (idle : t.desk.waits ≡ false) (going : t.desk.over ≡ false) (at : ℕ) (line : Line)
    (room k : List ℕ) (size : length room ≡ longest) (H : Holds line room k) (xs : List ℕ)
    (coming : lines_from l t.session ≡ k ∷ lines_from [] xs) where
  abbrev reply : Reply
  reply = answer_to t.desk.state t.area k

  abbrev sat : Sat
  sat = played_to t.desk t.area room t.words t.out at line k size H F.counts F.words F.out

  waits_then : (eqb t.desk.differs 0 && not t.desk.done) ≡ true → Waits sat.desk sat.out
  unfolding followed_desk
  waits_then h =
      let q = and_left (eqb t.desk.differs 0) _ h in
      let going_on : (eqb t.desk.differs 0 && t.desk.done) ≡ false = on (eqb t.desk.differs 0) t.desk.done h in
      let a = out_line t.desk t.area room t.words t.out at line k size H F.counts F.words F.out in
      record {
        same = cond_false _ _ going_on ∙ eqb-true t.desk.differs 0 q;
        counted = next_some t.desk.frames;
        some = subst (λ (zs : List ℕ). 0 < length zs) (sym a) (line_some t.desk t.area room t.words t.out at line k size H F.counts F.words F.out);
        most = subst (λ (zs : List ℕ). length zs ≤ longest) (sym a) (line_most t.desk t.area room t.words t.out at line k size H F.counts F.words F.out);
      }
    where
      on : (a b : Bool) → (a && not b) ≡ true → (a && b) ≡ false
      on true true e = true_not_false e refl
      on true false e = refl
      on false b e = refl

  played_fine : Fine (table_after sat t.other xs t.answers) [] r
  unfolding followed_desk
  played_fine =
      record {
        counts = answer_counts t.desk.state t.area k F.counts;
        session = holds_none room;
        recorded = F.recorded;
        room = size;
        other = F.other;
        words = omega (arith, F.words, paste_most (given_words (frame_of (held_text line room)) (held_text line room)) t.words);
        out = omega (arith, F.out, length_paste 0 (text_of reply) t.out (fit t.desk t.area room t.words t.out at line k size H F.counts F.words F.out));
        none = λ _. F.none idle;
        waits = λ h. waits_then h;
      }

  played_after : (lines : List (List ℕ)) → left_by sat.desk sat.area sat.out lines (recorded_on t.desk r t.answers)
      ≡ left_by t.desk t.area t.out (k ∷ lines) (recorded_on t.desk r t.answers)
  unfolding left_by followed_desk answers_of events_of listed_through
  played_after lines =
      let a = out_line t.desk t.area room t.words t.out at line k size H F.counts F.words F.out in
      let event = event_of t.desk.state (frame_of k) (text_of reply) in
      ap (λ (n : ℕ). record {
        differs = n;
        listed = listed_through (next (next t.desk.frames)) (listed_after (event_of t.desk.state (frame_of k) (text_of reply)) (next t.desk.frames) t.desk.listed) (events_of reply.state reply.area lines);
      })
      (differs_played t.desk.differs t.desk.frames t.desk.done (take t.desk.length t.out) (line_in (text_of reply)) _ a
      (answers_of reply.state reply.area lines) (lines_from r t.answers)
      ∙ ap (λ (b : Bool). differs_by t.desk.differs b t.desk.frames (take t.desk.length t.out) (line_in (text_of reply) ∷ answers_of reply.state reply.area lines) (recorded_on t.desk r t.answers)) (sym idle))

  played_same : (lines : List (List ℕ)) → lines ≡ lines_from [] xs
      → left_by sat.desk sat.area sat.out lines (recorded_on t.desk r t.answers) ≡ left_of t l r
  played_same lines e =
      played_after lines
      ∙ ap (λ (ls : List (List ℕ)). left_by t.desk t.area t.out ls (recorded_on t.desk r t.answers))
      (sym (cond_false _ _ going ∙ coming ∙ ap (λ (ls : List (List ℕ)). k ∷ ls) (sym e)))

  played_kept : Kept t l r (table_after sat t.other xs t.answers)
  unfolding followed_desk
  played_kept =
      record {
        line = [];
        mine = r;
        fine = played_fine;
        same = ap (λ (ls : List (List ℕ)). left_by sat.desk sat.area sat.out ls (recorded_on t.desk r t.answers)) (cond_false _ _ going) ∙ played_same (lines_from [] xs) refl;
      }

  over_kept : xs ≡ [] → Kept t l r (table_after (over_sat sat) t.other [] t.answers)
  unfolding followed_desk left_by last_line
  over_kept z =
      record {
        line = [];
        mine = r;
        fine =
            record {
              counts = played_fine.counts;
              session = played_fine.session;
              recorded = played_fine.recorded;
              room = played_fine.room;
              other = played_fine.other;
              words = played_fine.words;
              out = played_fine.out;
              none = played_fine.none;
              waits = λ h. let w = waits_then h in record { same = w.same; counted = w.counted; some = w.some; most = w.most };
            };
        same = played_same [] (sym (ap (lines_from []) z ∙ from_none []));
      }

-- ---- a part of the session

module _ (t : Table) (l r : List ℕ) (F : Fine t l r) where
  abbrev shut_line : Bool
  shut_line = asks_no_line t.desk (length t.room) (length t.words) (length t.out)

  -- nothing is taken
  stays_kept : (xs : List ℕ) → t.session ≡ xs → Kept t l r (table_after (sat_with t.desk 0 t.area t.room t.words t.out) t.other xs t.answers)
  stays_kept xs e =
      record {
        line = l;
        mine = r;
        fine =
            record { counts = F.counts; session = F.session; recorded = F.recorded; room = F.room; other = F.other; words = F.words; out = F.out; none = F.none; waits = F.waits };
        same = ap (λ (ys : List ℕ). left_by t.desk t.area t.out (lines_on t.desk l ys) (recorded_on t.desk r t.answers)) (sym e);
      }

  module _ (asked : asks_no_line t.desk (length t.room) (length t.words) (length t.out) ≡ false) where
    either : (t.desk.waits || t.desk.over) ≡ false
    either = or_left _ _ (or_left _ _ (or_left _ _ asked))

    no_wait : t.desk.waits ≡ false
    no_wait = or_left _ _ either

    not_over : t.desk.over ≡ false
    not_over = or_right t.desk.waits _ either

  module _ (bytes : List ℕ) (at : ℕ) (later : List ℕ) (e : t.session ≡ drop at bytes ++ later) where
    abbrev xs : List ℕ
    xs = drop at bytes

    abbrev step : LineStep
    step = step_of t.desk.session (drop at bytes) at t.room

    abbrev filled : List ℕ
    filled = room_of t.desk.session (drop at bytes) t.room

    abbrev whole : List ℕ
    whole = l ++ take (feed_at (drop at bytes)) (drop at bytes)

    abbrev KeptSat : Sat → Type 0
    KeptSat x = Kept t l r (table_after x t.other (drop x.at bytes ++ later) t.answers)

    size : length filled ≡ longest
    size = step_length t.desk.session t.room l (drop at bytes) at F.session ∙ F.room

    holds : Holds step.line filled whole
    holds = step_holds t.desk.session t.room l (drop at bytes) at F.session

    ended_kept : t.desk.waits ≡ false → t.desk.over ≡ false → step.ended ≡ true
        → KeptSat (played_sat t.desk (held_text step.line filled) step.at t.area filled t.words t.out)
    ended_kept idle going q =
        let D = step_ended t.desk.session t.room l (drop at bytes) at F.session q in
        let rest = drop (feed_at (drop at bytes) + 1) (drop at bytes) in
        let place : drop step.at bytes ≡ drop (feed_at (drop at bytes) + 1) (drop at bytes) =
        ap (λ (n : ℕ). drop n bytes) D.place ∙ sym (drop-drop (feed_at (drop at bytes) + 1) at bytes) in
        let coming : lines_from l t.session ≡ whole ∷ lines_from [] (drop (feed_at (drop at bytes) + 1) (drop at bytes) ++ later) =
        ap (lines_from l) e ∙ from_ended l (drop at bytes) later whole (drop (feed_at (drop at bytes) + 1) (drop at bytes)) D.lines D.begun in
        let K = played_kept t l r F idle going step.at step.line filled whole size holds (drop (feed_at (drop at bytes) + 1) (drop at bytes) ++ later) coming in
        let to = played_to_lem t.desk t.area filled t.words t.out step.at step.line whole size holds F.counts F.words F.out in
        subst KeptSat (sym to)
        (subst (λ (ys : List ℕ). Kept t l r (table_after (played_to t.desk t.area filled t.words t.out step.at step.line whole size holds F.counts F.words F.out) t.other (ys ++ later) t.answers)) (sym place) K)

    open_kept : step.ended ≡ false → KeptSat (sat_with (with_session t.desk step.line) step.at t.area filled t.words t.out)
    unfolding left_by
    open_kept q =
        let D = step_stopped t.desk.session t.room l (drop at bytes) at F.session q in
        let all : length bytes ≤ step.at = omega (arith, D.place, length-drop at bytes) in
        let rest : drop step.at bytes ≡ [] = drop_of_length-le bytes all in
        record {
          line = whole;
          mine = r;
          fine =
              record { counts = F.counts; session = holds; recorded = F.recorded; room = size; other = F.other; words = F.words; out = F.out; none = F.none; waits = λ h. let w = F.waits h in record { same = w.same; counted = w.counted; some = w.some; most = w.most } };
          same =
              ap (λ (ls : List (List ℕ)). left_by t.desk t.area t.out (cond t.desk.over [] ls) (recorded_on t.desk r t.answers))
              (ap (λ (ys : List ℕ). lines_from whole (ys ++ later)) rest
              ∙ sym (ap (lines_from l) e ∙ from_open l (drop at bytes) later whole D.lines D.begun));
        }

    stepped_kept : t.desk.waits ≡ false → t.desk.over ≡ false → KeptSat (stepped_sat t.desk t.area filled t.words t.out step)
    unfolding stepped_sat
    stepped_kept idle going =
        by_test (λ b. step.ended ≡ b → KeptSat (cond b (played_sat t.desk (held_text step.line filled) step.at t.area filled t.words t.out)
        (sat_with (with_session t.desk step.line) step.at t.area filled t.words t.out))) step.ended
        (λ z q. ended_kept idle going q) (λ z q. open_kept q) refl

    line_kept : Kept t l r (after_session t bytes at later)
    unfolding session_part
    line_kept =
        by_test (λ b. shut_line ≡ b → KeptSat (cond b (sat_with t.desk at t.area t.room t.words t.out) (stepped_sat t.desk t.area filled t.words t.out step))) shut_line
        (λ z q. let K = stays_kept (drop at bytes ++ later) e in record { line = K.line; mine = K.mine; fine = K.fine; same = K.same })
        (λ z q. stepped_kept (no_wait q) (not_over q)) refl

-- ---- the end of the session

module _ (t : Table) (r : List ℕ) (e : t.session ≡ []) where
  abbrev KeptEnd : List ℕ → Sat → Type 0
  KeptEnd l x = Kept t l r (table_after x t.other [] t.answers)

  ending_kept : (l : List ℕ) → Fine t l r → t.desk.waits ≡ false → t.desk.over ≡ false
      → KeptEnd l (over_sat (cond (has_begun t.desk.session) (played_sat t.desk (held_text t.desk.session t.room) 0 t.area t.room t.words t.out) (sat_with t.desk 0 t.area t.room t.words t.out)))
  unfolding left_by last_line
  ending_kept [] F idle going =
      subst (λ (x : Sat). KeptEnd [] (over_sat x)) (sym (cond_false _ _ (begun_none t.desk.session t.room F.session)))
      (record {
        line = [];
        mine = r;
        fine =
            record { counts = F.counts; session = F.session; recorded = F.recorded; room = F.room; other = F.other; words = F.words; out = F.out; none = F.none; waits = λ h. let w = F.waits h in record { same = w.same; counted = w.counted; some = w.some; most = w.most } };
        same =
            ap (λ (ls : List (List ℕ)). left_by t.desk t.area t.out ls (recorded_on t.desk r t.answers))
            (sym (cond_false _ _ going ∙ ap (lines_from []) e ∙ from_none []));
      })
  ending_kept (c ∷ l) F idle going =
      subst (λ (x : Sat). KeptEnd (c ∷ l) (over_sat x))
      (sym (cond_true _ _ (begun_some t.desk.session t.room c l F.session)
      ∙ played_to_lem t.desk t.area t.room t.words t.out 0 t.desk.session (c ∷ l) F.room F.session F.counts F.words F.out))
      (over_kept t (c ∷ l) r F idle going 0 t.desk.session t.room (c ∷ l) F.room F.session [] (ap (lines_from (c ∷ l)) e ∙ from_none (c ∷ l) ∙ sym (ap (λ (ls : List (List ℕ)). (c ∷ l) ∷ ls) (from_none []))) refl)

  session_end_kept : (l : List ℕ) → Fine t l r → KeptEnd l (session_end t.desk t.area t.room t.words t.out)
  unfolding session_end
  session_end_kept l F =
      by_test (λ b. asks_no_line t.desk (length t.room) (length t.words) (length t.out) ≡ b → KeptEnd l (cond b (sat_with t.desk 0 t.area t.room t.words t.out)
      (over_sat (cond (has_begun t.desk.session) (played_sat t.desk (held_text t.desk.session t.room) 0 t.area t.room t.words t.out) (sat_with t.desk 0 t.area t.room t.words t.out)))))
      (asks_no_line t.desk (length t.room) (length t.words) (length t.out))
      (λ z q. stays_kept t l r F [] e)
      (λ z q. ending_kept l F (no_wait t l r F q) (not_over t l r F q)) refl

-- ---- a part of the recorded answers

record Some (ls : List (List ℕ)) : Type 0 where
  first : List ℕ
  rest : List (List ℕ)
  is : ls ≡ first ∷ rest

onto_some : (c : ℕ) (ls : List (List ℕ)) → Some (onto c ls)
unfolding onto
onto_some c [] = record { first = c ∷ []; rest = []; is = refl }
onto_some c (l ∷ ls) = record { first = c ∷ l; rest = ls; is = refl }

lines_some : (c : ℕ) (cs : List ℕ) → Some (lines_of (c ∷ cs))
unfolding lines_of
lines_some c cs =
    by_test (λ b. Some (cond b ([] ∷ lines_of cs) (onto c (lines_of cs)))) (eqb c feed)
    (λ q. record { first = []; rest = lines_of cs; is = refl }) (λ q. onto_some c (lines_of cs))

from_some : (zs later : List ℕ) → 0 < length zs → Some (lines_from [] (zs ++ later))
unfolding lines_from
from_some [] later h = absurd (omega arith)
from_some (c ∷ cs) later h = subst Some (lines_ended ((c ∷ cs) ++ later)) (lines_some c (cs ++ later))

not_false : (b : Bool) → not b ≡ false → b ≡ true
not_false true e = refl
not_false false e = true_not_false refl e

not_true : (b : Bool) → not b ≡ true → b ≡ false
not_true true e = true_not_false e refl
not_true false e = refl

both_false : (a b : Bool) → (not a && not b) ≡ false → a ≡ false → b ≡ true
both_false true b e h = true_not_false refl h
both_false false true e h = refl
both_false false false e h = true_not_false refl e

-- the table with another desk, room and recorded bytes to come: what is left may be given piece by piece
module _ (t : Table) (l r : List ℕ) (F : Fine t l r) where
  abbrev KeptDesk : Desk → List ℕ → List ℕ → Type 0
  KeptDesk d other ys = Kept t l r (table_with t d other ys)

  same_desk : (ys : List ℕ) → t.answers ≡ ys → KeptDesk t.desk t.other ys
  same_desk ys e =
      record {
        line = l;
        mine = r;
        fine =
            record { counts = F.counts; session = F.session; recorded = F.recorded; room = F.room; other = F.other; words = F.words; out = F.out; none = F.none; waits = F.waits };
        same = ap (λ (zs : List ℕ). left_by t.desk t.area t.out (lines_on t.desk l t.session) (recorded_on t.desk r zs)) (sym e);
      }

  -- the answer that waits is compared with the recorded line k, after which the recorded lines R are to come
  compared_same : (line : Line) (other k : List ℕ) → length other ≡ longest → Holds line other k → t.desk.waits ≡ true → (recorded : List (List ℕ))
      → left_by (compared_desk t.desk t.out (held_text line other)) t.area t.out (lines_on t.desk l t.session) recorded
      ≡ left_by t.desk t.area t.out (lines_on t.desk l t.session) (k ∷ recorded)
  unfolding left_by compared_desk
  compared_same line other k size H w recorded =
      let W = F.waits w in
      let a = take t.desk.length t.out in
      ap (λ (n : ℕ). record { differs = n; listed = listed_through (next t.desk.frames) t.desk.listed (events_of t.desk.state t.area (lines_on t.desk l t.session)) })
      (differs_compared t.desk.differs t.desk.frames (take t.desk.length t.out) (take t.desk.length t.out) (held_text line other) k
      (answers_of t.desk.state t.area (lines_on t.desk l t.session)) recorded W.same W.counted (held_same line other k size H (take t.desk.length t.out) W.some W.most)
      ∙ ap (λ (b : Bool). differs_by t.desk.differs b t.desk.frames (take t.desk.length t.out) (answers_of t.desk.state t.area (lines_on t.desk l t.session)) (k ∷ recorded)) (sym w))

  compared_fine : (text other ys : List ℕ) → length other ≡ longest → Fine (table_with t (compared_desk t.desk t.out text) other ys) l []
  unfolding compared_desk
  compared_fine text other ys size =
      record {
        counts = F.counts;
        session = F.session;
        recorded = holds_none other;
        room = F.room;
        other = size;
        words = F.words;
        out = F.out;
        none = λ _. refl;
        waits = λ h. true_not_false h refl;
      }

  module _ (bytes : List ℕ) (at : ℕ) (later : List ℕ) (e : t.answers ≡ drop at bytes ++ later) where
    abbrev next_step : LineStep
    next_step = step_of t.desk.recorded (drop at bytes) at t.other

    abbrev fills : List ℕ
    fills = room_of t.desk.recorded (drop at bytes) t.other

    abbrev entire : List ℕ
    entire = r ++ take (feed_at (drop at bytes)) (drop at bytes)

    abbrev KeptTaken : Taken → List ℕ → Type 0
    KeptTaken x other = Kept t l r (table_with t x.desk other (drop x.at bytes ++ later))

    fills_size : length fills ≡ longest
    fills_size = step_length t.desk.recorded t.other r (drop at bytes) at F.recorded ∙ F.other

    fills_holds : Holds next_step.line fills entire
    fills_holds = step_holds t.desk.recorded t.other r (drop at bytes) at F.recorded

    answer_ended : t.desk.waits ≡ true → t.desk.done ≡ false → next_step.ended ≡ true
        → KeptTaken (taken_with (compared_desk t.desk t.out (held_text next_step.line fills)) next_step.at) fills
    unfolding compared_desk
    answer_ended w undone q =
        let D = step_ended t.desk.recorded t.other r (drop at bytes) at F.recorded q in
        let place : drop next_step.at bytes ≡ drop (feed_at (drop at bytes) + 1) (drop at bytes) =
        ap (λ (n : ℕ). drop n bytes) D.place ∙ sym (drop-drop (feed_at (drop at bytes) + 1) at bytes) in
        let coming : lines_from r t.answers ≡ entire ∷ lines_from [] (drop (feed_at (drop at bytes) + 1) (drop at bytes) ++ later) =
        ap (lines_from r) e ∙ from_ended r (drop at bytes) later entire (drop (feed_at (drop at bytes) + 1) (drop at bytes)) D.lines D.begun in
        let after : lines_from [] (drop next_step.at bytes ++ later) ≡ lines_from [] (drop (feed_at (drop at bytes) + 1) (drop at bytes) ++ later) =
        ap (λ (ys : List ℕ). lines_from [] (ys ++ later)) place in
        record {
          line = l;
          mine = [];
          fine = compared_fine (held_text next_step.line fills) fills (drop next_step.at bytes ++ later) fills_size;
          same =
              ap (λ (ls : List (List ℕ)). left_by (compared_desk t.desk t.out (held_text next_step.line fills)) t.area t.out (lines_on t.desk l t.session) ls)
              (cond_false _ _ undone ∙ after)
              ∙ compared_same next_step.line fills entire fills_size fills_holds w (lines_from [] (drop (feed_at (drop at bytes) + 1) (drop at bytes) ++ later))
              ∙ ap (λ (ls : List (List ℕ)). left_by t.desk t.area t.out (lines_on t.desk l t.session) ls) (sym (cond_false _ _ undone ∙ coming));
        }

    answer_open : t.desk.waits ≡ true → next_step.ended ≡ false → KeptTaken (taken_with (with_recorded t.desk next_step.line) next_step.at) fills
    unfolding left_by
    answer_open w q =
        let D = step_stopped t.desk.recorded t.other r (drop at bytes) at F.recorded q in
        let all : length bytes ≤ next_step.at = omega (arith, D.place, length-drop at bytes) in
        let rest : drop next_step.at bytes ≡ [] = drop_of_length-le bytes all in
        record {
          line = l;
          mine = entire;
          fine =
              record { counts = F.counts; session = F.session; recorded = fills_holds; room = F.room; other = fills_size; words = F.words; out = F.out; none = λ h. true_not_false w h; waits = λ h. let v = F.waits h in record { same = v.same; counted = v.counted; some = v.some; most = v.most } };
          same =
              ap (λ (ls : List (List ℕ)). left_by t.desk t.area t.out (lines_on t.desk l t.session) (cond t.desk.done [] ls))
              (ap (λ (ys : List ℕ). lines_from entire (ys ++ later)) rest
              ∙ sym (ap (lines_from r) e ∙ from_open r (drop at bytes) later entire D.lines D.begun));
        }

    extra_kept : t.desk.waits ≡ false → t.desk.over ≡ true → t.desk.done ≡ false → eqb t.desk.differs 0 ≡ true → at < length bytes
        → KeptTaken (taken_with (extra_desk t.desk) at) t.other
    unfolding left_by answers_of
    extra_kept idle over undone q more =
        let S = from_some (drop at bytes) later (omega (arith, more, length-drop at bytes)) in
        let none : lines_on t.desk l t.session ≡ [] = cond_true _ _ over in
        let coming : recorded_on t.desk r (drop at bytes ++ later) ≡ S.first ∷ S.rest =
        cond_false _ _ undone ∙ ap (λ (z : List ℕ). lines_from z (drop at bytes ++ later)) (F.none idle) ∙ S.is in
        let law : differs_by (next t.desk.frames) t.desk.waits t.desk.frames (take t.desk.length t.out) (answers_of t.desk.state t.area (lines_on t.desk l t.session)) (recorded_on t.desk r (drop at bytes ++ later))
        ≡ differs_by t.desk.differs t.desk.waits t.desk.frames (take t.desk.length t.out) (answers_of t.desk.state t.area (lines_on t.desk l t.session)) (recorded_on t.desk r (drop at bytes ++ later)) =
        rw (none, coming, idle) (differs_extra t.desk.differs t.desk.frames (take t.desk.length t.out) S.first S.rest q) in
        record {
          line = l;
          mine = r;
          fine =
              record { counts = F.counts; session = F.session; recorded = F.recorded; room = F.room; other = F.other; words = F.words; out = F.out; none = F.none; waits = λ h. true_not_false h idle };
          same =
              ap (λ (n : ℕ). record { differs = n; listed = listed_through (next t.desk.frames) t.desk.listed (events_of t.desk.state t.area (lines_on t.desk l t.session)) }) law
              ∙ ap (λ (zs : List ℕ). left_by t.desk t.area t.out (lines_on t.desk l t.session) (recorded_on t.desk r zs)) (sym e);
        }

    abbrev shut_answer : Bool
    shut_answer = asks_no_answer t.desk (length t.other)

    abbrev part_to : Bool → Bool → Bool → Bool → Taken
    part_to shut idle more ended =
        cond shut (taken_with t.desk at)
        (cond idle (cond more (taken_with (extra_desk t.desk) at) (taken_with t.desk at))
        (cond ended (taken_with (compared_desk t.desk t.out (held_text next_step.line fills)) next_step.at) (taken_with (with_recorded t.desk next_step.line) next_step.at)))

    abbrev room_to : Bool → Bool → List ℕ
    room_to shut idle = cond (shut || idle) t.other fills

    part_kept : (shut idle more ended : Bool) → shut_answer ≡ shut → not t.desk.waits ≡ idle → ltb at (length bytes) ≡ more → next_step.ended ≡ ended
        → KeptTaken (part_to shut idle more ended) (room_to shut idle)
    part_kept true idle more ended a b c f = same_desk (drop at bytes ++ later) e
    part_kept false true true ended a b c f =
        let w = not_true t.desk.waits b in
        let g = or_left _ _ (or_left _ _ a) in
        let over = both_false t.desk.waits t.desk.over (or_right (not (eqb t.desk.differs 0) || t.desk.done) _ (or_left _ _ a)) w in
        extra_kept w over (or_right (not (eqb t.desk.differs 0)) _ g) (not_false (eqb t.desk.differs 0) (or_left _ _ g)) (ltb-true at (length bytes) c)
    part_kept false true false ended a b c f = same_desk (drop at bytes ++ later) e
    part_kept false false more true a b c f =
        answer_ended (not_false t.desk.waits b) (or_right (not (eqb t.desk.differs 0)) _ (or_left _ _ (or_left _ _ a))) f
    part_kept false false more false a b c f = answer_open (not_false t.desk.waits b) f

    answer_kept : Kept t l r (after_answers t bytes at later)
    unfolding answers_part answers_room answers_step
    answer_kept = part_kept shut_answer (not t.desk.waits) (ltb at (length bytes)) next_step.ended refl refl refl refl

-- ---- the end of the recorded answers

module _ (t : Table) (l : List ℕ) (e : t.answers ≡ []) where
  abbrev KeptTo : List ℕ → Desk → Type 0
  KeptTo r d = Kept t l r (table_with t d t.other [])

  done_kept : (r : List ℕ) → Fine t l r → t.desk.waits ≡ false → KeptTo r (with_done t.desk)
  unfolding left_by last_line
  done_kept r F idle =
      let none : recorded_on t.desk r t.answers ≡ [] =
      by_test (λ b. cond b [] (lines_from r t.answers) ≡ []) t.desk.done (λ _. refl)
      (λ _. ap₂ (λ (y z : List ℕ). lines_from y z) (F.none idle) e ∙ from_none []) in
      record {
        line = l;
        mine = r;
        fine =
            record { counts = F.counts; session = F.session; recorded = F.recorded; room = F.room; other = F.other; words = F.words; out = F.out; none = F.none; waits = λ h. true_not_false h idle };
        same = ap (λ (ls : List (List ℕ)). left_by t.desk t.area t.out (lines_on t.desk l t.session) ls) (sym none);
      }

  last_kept : (r : List ℕ) → Fine t l r → t.desk.done ≡ false → t.desk.waits ≡ true
      → KeptTo r (with_done (cond (has_begun t.desk.recorded) (compared_desk t.desk t.out (held_text t.desk.recorded t.other)) (missing_desk t.desk)))
  unfolding left_by last_line compared_desk
  last_kept [] F undone w =
      let W = F.waits w in
      let none : recorded_on t.desk [] t.answers ≡ [] = cond_false _ _ undone ∙ ap (lines_from []) e ∙ from_none [] in
      let law : differs_by t.desk.frames false t.desk.frames (take t.desk.length t.out) (answers_of t.desk.state t.area (lines_on t.desk l t.session)) []
      ≡ differs_by t.desk.differs t.desk.waits t.desk.frames (take t.desk.length t.out) (answers_of t.desk.state t.area (lines_on t.desk l t.session)) (recorded_on t.desk [] t.answers) =
      rw (none, w) (differs_missing t.desk.differs t.desk.frames (take t.desk.length t.out) (take t.desk.length t.out) (answers_of t.desk.state t.area (lines_on t.desk l t.session)) W.same W.counted) in
      subst (λ (x : Desk). KeptTo [] (with_done x)) (sym (cond_false _ _ (begun_none t.desk.recorded t.other F.recorded)))
      (record {
        line = l;
        mine = [];
        fine =
            record { counts = F.counts; session = F.session; recorded = F.recorded; room = F.room; other = F.other; words = F.words; out = F.out; none = λ _. refl; waits = λ h. true_not_false h refl };
        same = ap (λ (n : ℕ). record { differs = n; listed = listed_through (next t.desk.frames) t.desk.listed (events_of t.desk.state t.area (lines_on t.desk l t.session)) }) law;
      })
  last_kept (c ∷ r) F undone w =
      let C = compared_same t l (c ∷ r) F t.desk.recorded t.other (c ∷ r) F.other F.recorded w [] in
      let coming : recorded_on t.desk (c ∷ r) t.answers ≡ (c ∷ r) ∷ [] = cond_false _ _ undone ∙ ap (lines_from (c ∷ r)) e ∙ from_none (c ∷ r) in
      let G = compared_fine t l (c ∷ r) F (held_text t.desk.recorded t.other) t.other [] F.other in
      subst (λ (x : Desk). KeptTo (c ∷ r) (with_done x)) (sym (cond_true _ _ (begun_some t.desk.recorded t.other c r F.recorded)))
      (record {
        line = l;
        mine = [];
        fine =
            record { counts = G.counts; session = G.session; recorded = G.recorded; room = G.room; other = G.other; words = G.words; out = G.out; none = G.none; waits = λ h. true_not_false h refl };
        same = C ∙ ap (λ (ls : List (List ℕ)). left_by t.desk t.area t.out (lines_on t.desk l t.session) ls) (sym coming);
      })

  answers_end_kept : (r : List ℕ) → Fine t l r → KeptTo r (answers_end t.desk t.other t.out)
  unfolding answers_end
  answers_end_kept r F =
      by_test (λ b. t.desk.done ≡ b → KeptTo r (cond b t.desk (cond (not t.desk.waits) (with_done t.desk)
      (with_done (cond (has_begun t.desk.recorded) (compared_desk t.desk t.out (held_text t.desk.recorded t.other)) (missing_desk t.desk)))))) t.desk.done
      (λ z q. same_desk t l r F [] e)
      (λ z q.
      by_test (λ b. not t.desk.waits ≡ b → KeptTo r (cond b (with_done t.desk)
      (with_done (cond (has_begun t.desk.recorded) (compared_desk t.desk t.out (held_text t.desk.recorded t.other)) (missing_desk t.desk))))) (not t.desk.waits)
      (λ y p. done_kept r F (not_true t.desk.waits p)) (λ y p. last_kept r F q (not_false t.desk.waits p)) refl)
      refl

-- ---- any calls in any order

step_kept : (t u : Table) (l r : List ℕ) → Fine t l r → Step t u → Kept t l r u
step_kept t u l r F (takes_line bytes at later e) = line_kept t l r F bytes at later e
step_kept t u l r F (ends_session e) = session_end_kept t r e l F
step_kept t u l r F (takes_answer bytes at later e) = answer_kept t l r F bytes at later e
step_kept t u l r F (ends_answers e) = answers_end_kept t l e r F

run_kept : (t u : Table) (l r : List ℕ) → Fine t l r → Run t u → Kept t l r u
run_kept t u l r F stop = record { line = l; mine = r; fine = F; same = refl }
run_kept t u l r F (then v s more) =
    let K = step_kept t v l r F s in
    let M = run_kept v u K.line K.mine K.fine more in
    record { line = M.line; mine = M.mine; fine = M.fine; same = M.same ∙ K.same }

-- in the end nothing is left
finished_left : (t : Table) (l r : List ℕ) → is_finished t.desk ≡ true → left_of t l r ≡ record { differs = t.desk.differs; listed = t.desk.listed }
unfolding left_by answers_of events_of listed_through
finished_left t l r h =
    let left = and_left (t.desk.over && not t.desk.waits) _ h in
    let over = and_left t.desk.over _ left in
    let idle = not_true t.desk.waits (and_right t.desk.over _ left) in
    let why = and_right (t.desk.over && not t.desk.waits) _ h in
    ap₂ (λ (ls : List (List ℕ)) (b : Bool). record {
      differs = differs_by t.desk.differs b t.desk.frames (take t.desk.length t.out) (answers_of t.desk.state t.area ls) (recorded_on t.desk r t.answers);
      listed = listed_through (next t.desk.frames) t.desk.listed (events_of t.desk.state t.area ls);
    }) (cond_true _ _ over) idle
    ∙ ap (λ (n : ℕ). record { differs = n; listed = t.desk.listed }) (differs_end t.desk.differs t.desk.frames (take t.desk.length t.out) t.desk.done (lines_from r t.answers) why)

before_counts : Counts before_start
unfolding before_start
before_counts = record { files = refl; channels = refl }

abbrev sheet_by : Left → Sheet
sheet_by x = record { differs = x.differs; rows = rows_of x.listed; more = x.listed.more }

-- However the session and the recorded answers are cut, and whatever calls come in which order: a desk that has finished shows the sheet.
module _ (room words out other session answers : List ℕ) (size : length room ≡ longest) (roomy : most_words ≤ length words) (space : most_text ≤ length out)
    (size₂ : length other ≡ longest) where
  abbrev start : Table
  start = start_table room words out other session answers

  start_fine : Fine start [] []
  start_fine =
      record {
        counts = before_counts;
        session = holds_none room;
        recorded = holds_none other;
        room = size;
        other = size₂;
        words = roomy;
        out = space;
        none = λ _. refl;
        waits = λ h. true_not_false h refl;
      }

  start_left : sheet_by (left_of start [] []) ≡ sheet_of session answers
  unfolding left_by sheet_of sheet_from differs_by next lines_from
  start_left =
      let zeros = start.area in
      let L = requests_listed 1 (events_of before_start zeros (lines_of session)) in
      ap₂ (λ (ls rs : List (List ℕ)). record {
        differs = first_differs 1 (answers_of before_start start.area ls) rs;
        rows = rows_of (listed_through 1 none_listed (events_of before_start start.area ls));
        more = (listed_through 1 none_listed (events_of before_start start.area ls)).more;
      }) (sym (lines_ended session)) (sym (lines_ended answers))
      ∙ ap₂ (λ (rows : List _) (more : Bool). record {
        differs = first_differs 1 (answers_of before_start start.area (lines_of session)) (lines_of answers);
        rows = rows;
        more = more;
      }) L.rows L.more

  pub sheet_right : (u : Table) → Run start u → is_finished u.desk ≡ true → shown_by u.desk ≡ sheet_of session answers
  sheet_right u run h =
      let K = run_kept start u [] [] start_fine run in
      ap sheet_by (sym (finished_left u K.line K.mine h) ∙ K.same) ∙ start_left
