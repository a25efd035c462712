-- What the player has written and what is still to come are together the same at every turn, and so is where the session ends. Assumes nothing.
use mathlib.Core.Path.{◌≡◌, refl, sym, ap, ap₂, ◌∙◌, subst}
use mathlib.Core.Bool.{true, false, cond}
use mathlib.Core.List.{List, [], ◌∷◌, ◌++◌, append_assoc, append-nil}
use Prim.Native.Nat.{ℕ, zero, suc, ◌+◌, ◌-◌, ◌≤◌, ◌<◌}
use native.Mathlib.Omega.{arith}
use borrow.Author.Tests.{ltb-false}
use lib.Dec.{leb}
use lib.ListN.{length, take, drop, length-append, length-drop, drop_of_length-le}
use lib.Seq.{drop-drop, length-take-le}
use Rattle.area.specs.Parts.{paste}
use Rattle.area.proofs.Pastes.{length_paste, paste_part}
use Rattle.area.proofs.Marks.{cond_true, cond_false}
use Rattle.area.proofs.Walks.{by_test, or_right}
use Rattle.session_frame.specs.Frames.{longest}
use Rattle.session_line.specs.declared.Step.{Step}
use Rattle.session_line.specs.Lines.{feed_at, ended_lines, begun_line, last_line}
use Rattle.session_line.specs.Machine.{Holds, step_of, room_of}
use Rattle.session_line.proofs.Laws.Feeds.{ended_append, begun_append}
use Rattle.session_line.proofs.Laws.Holding.{holds_none, begun_none, begun_some}
use Rattle.session_line.proofs.Laws.Steps.{step_length, step_holds, step_ended, step_stopped}
use Rattle.state.specs.declared.State.{State}
use Rattle.state_sound.specs.Soundness.{sound}
use Rattle.session_reply.specs.Replies.{Reply, answer_to, text_of}
use Rattle.session.specs.Rooms.{most_words, most_text, After}
use Rattle.session_reply.proofs.Stores.{Counts}
use Rattle.session_reply.proofs.Kept.{answer_kept, answer_counts, answer_area}
use Rattle.session.proofs.Fits.{text_longest}
use Rattle.session.specs.Session.{Course, with_text, play_lines}
use Rattle.session.specs.Player.{Player, after_held, answered_turn, open_turn, turn_of, is_done, play_turns, play_part, end_of}
use Rattle.session.proofs.Answering.{Answered, held_answered, written_after}
use Rattle.session.proofs.Turning.{not_done, turn_further}

-- ---- the lines that are to come, when l has come of the first

unfoldable pub lines_from : List ℕ → List ℕ → List (List ℕ)
lines_from l xs = ended_lines l xs ++ last_line (begun_line l xs)

module _ (l xs ys : List ℕ) where
  from_append : lines_from l (xs ++ ys) ≡ (ended_lines l xs ++ ended_lines (begun_line l xs) ys) ++ last_line (begun_line (begun_line l xs) ys)
  unfolding lines_from
  from_append = ap₂ (λ (a : List (List ℕ)) (b : List ℕ). a ++ last_line b) (ended_append l xs ys) (begun_append l xs ys)

  -- a line has ended
  from_ended : (k rest : List ℕ) → ended_lines l xs ≡ k ∷ ended_lines [] rest → begun_line l xs ≡ begun_line [] rest → lines_from l (xs ++ ys) ≡ k ∷ lines_from [] (rest ++ ys)
  unfolding lines_from
  from_ended k rest e b =
      from_append
      ∙ ap₂ (λ (a : List (List ℕ)) (c : List ℕ). (a ++ ended_lines c ys) ++ last_line (begun_line c ys)) e b
      ∙ ap (λ (ls : List (List ℕ)). k ∷ ls) (ap₂ (λ (a : List (List ℕ)) (c : List ℕ). a ++ last_line c) (sym (ended_append [] rest ys)) (sym (begun_append [] rest ys)))

  -- none has
  from_open : (k : List ℕ) → ended_lines l xs ≡ [] → begun_line l xs ≡ k → lines_from l (xs ++ ys) ≡ lines_from k ys
  unfolding lines_from
  from_open k e b = from_append ∙ ap₂ (λ (a : List (List ℕ)) (c : List ℕ). (a ++ ended_lines c ys) ++ last_line (begun_line c ys)) e b

-- ---- what is still to come, after a text

pub with_none : (c : Course) → with_text [] c ≡ c
unfolding with_text
with_none c = refl

pub with_more : (t u : List ℕ) (c : Course) → with_text t (with_text u c) ≡ with_text (t ++ u) c
unfolding with_text
with_more t u c = ap (λ (text : List ℕ). record { state = c.state; area = c.area; text = text }) (sym (append_assoc t u c.text))

pub lines_cons : (s : State) (area l : List ℕ) (ls : List (List ℕ)) → play_lines s area (l ∷ ls) ≡ with_text (text_of (answer_to s area l)) (play_lines (answer_to s area l).state (answer_to s area l).area ls)
unfolding play_lines
lines_cons s area l ls = refl

-- ---- a player that holds l: its state is sound, and its rooms are those that it asks for

pub record Ready (p : Player) (l : List ℕ) : Type 0 where
  pub good : sound p.state ≡ true
  pub counts : Counts p.state
  pub held : Holds p.line p.room l
  pub room : length p.room ≡ longest
  pub words : most_words ≤ length p.words
  pub space : most_text ≤ length p.out
  pub within : p.length ≤ length p.out

-- q comes after p: what is written and what is to come are together the same, whatever comes after this part
pub record Goes (bytes : List ℕ) (p : Player) (l : List ℕ) (q : Player) : Type 0 where
  pub next : List ℕ
  pub ready : Ready q next
  pub further : p.at ≤ q.at
  pub area : length q.area ≡ length p.area
  pub same : (later : List ℕ) → with_text (take p.length p.out) (play_lines p.state p.area (lines_from l (drop p.at bytes ++ later)))
      ≡ with_text (take q.length q.out) (play_lines q.state q.area (lines_from next (drop q.at bytes ++ later)))

-- ---- one turn

module _ (bytes : List ℕ) (p : Player) (l : List ℕ) (R : Ready p l) (on : is_done bytes p ≡ false) where
  abbrev xs : List ℕ
  xs = drop p.at bytes

  abbrev step : Step
  step = step_of p.line xs p.at p.room

  abbrev filled : List ℕ
  filled = room_of p.line xs p.room

  abbrev line : List ℕ
  line = l ++ take (feed_at xs) xs

  abbrev end : ℕ
  end = p.length

  abbrev out : List ℕ
  out = p.out

  filled_size : length filled ≡ longest
  filled_size = step_length p.line p.room l xs p.at R.held ∙ R.room

  filled_holds : Holds step.line filled line
  filled_holds = step_holds p.line p.room l xs p.at R.held

  left : most_text ≤ length out - end
  left = ltb-false (length out - end) most_text (or_right (leb (length bytes) p.at) _ on)

  space : most_text ≤ length (drop end out)
  space = omega (arith, left, length-drop end out)

  answered : Answered step.line filled line filled_size filled_holds p.state p.area p.words (drop end out) R.good R.counts R.words space
  answered = held_answered step.line filled line filled_size filled_holds p.state p.area p.words (drop end out) R.good R.counts R.words space

  abbrev reply : Reply
  reply = answer_to p.state p.area line

  fit : end + length (text_of reply) ≤ length out
  fit = omega (arith, text_longest p.state p.area line R.counts, left)

  ended_goes : step.ended ≡ true → Goes bytes p l (answered_turn false p step filled)
  unfolding answered_turn
  ended_goes e =
      let D = step_ended p.line p.room l xs p.at R.held e in
      let A = answered in
      let text : take (end + (after_held false p.state p.area step.line filled p.words (drop end out)).length) (take end out ++ (after_held false p.state p.area step.line filled p.words (drop end out)).out) ≡ take end out ++ text_of reply =
      ap₂ (λ (n : ℕ) (zs : List ℕ). take (end + n) (take end out ++ zs)) A.long A.text ∙ written_after end (text_of reply) out fit in
      let rest : drop step.at bytes ≡ drop (feed_at xs + 1) xs = ap (λ (k : ℕ). drop k bytes) D.place ∙ sym (drop-drop (feed_at xs + 1) p.at bytes) in
      let long : length (take end out ++ (after_held false p.state p.area step.line filled p.words (drop end out)).out) ≡ length out =
      length-append (take end out) _ ∙ omega (arith, length-take-le end out R.within, ap length A.text, length_paste 0 (text_of reply) (drop end out) (omega (arith, fit, length-drop end out)), length-drop end out, R.within) in
      record {
        next = [];
        ready = record {
          good = ap sound A.state ∙ answer_kept p.state p.area line R.counts R.good;
          counts = subst Counts (sym A.state) (answer_counts p.state p.area line R.counts);
          held = holds_none filled;
          room = filled_size;
          words = omega (arith, A.words', R.words);
          space = omega (arith, long, R.space);
          within = omega (arith, long, A.long, fit);
        };
        further = omega (arith, D.place);
        area = ap length A.area' ∙ answer_area p.state p.area line R.counts;
        same = λ later.
            ap (λ (ls : List (List ℕ)). with_text (take end out) (play_lines p.state p.area ls)) (from_ended l xs later line (drop (feed_at xs + 1) xs) D.lines D.begun)
            ∙ ap (with_text (take end out)) (lines_cons p.state p.area line (lines_from [] (drop (feed_at xs + 1) xs ++ later)))
            ∙ with_more (take end out) (text_of reply) (play_lines reply.state reply.area (lines_from [] (drop (feed_at xs + 1) xs ++ later)))
            ∙ ap₂ (λ (t : List ℕ) (ys : List ℕ). with_text t (play_lines reply.state reply.area (lines_from [] (ys ++ later)))) (sym text) (sym rest)
            ∙ ap₂ (λ (s : State) (a : List ℕ). with_text (take (end + (after_held false p.state p.area step.line filled p.words (drop end out)).length) (take end out ++ (after_held false p.state p.area step.line filled p.words (drop end out)).out))
            (play_lines s a (lines_from [] (drop step.at bytes ++ later)))) (sym A.state) (sym A.area');
      }

  open_goes : step.ended ≡ false → Goes bytes p l (open_turn p step filled)
  unfolding open_turn
  open_goes e =
      let D = step_stopped p.line p.room l xs p.at R.held e in
      let more = not_done bytes p on in
      let all : length bytes ≤ step.at = omega (arith, D.place, length-drop p.at bytes) in
      let rest : drop step.at bytes ≡ [] = drop_of_length-le bytes all in
      record {
        next = line;
        ready = record {
          good = R.good;
          counts = R.counts;
          held = filled_holds;
          room = filled_size;
          words = R.words;
          space = R.space;
          within = R.within;
        };
        further = omega (arith, all, more);
        area = refl;
        same = λ later.
            ap (λ (ls : List (List ℕ)). with_text (take end out) (play_lines p.state p.area ls))
            (from_open l xs later line D.lines D.begun ∙ ap (λ (ys : List ℕ). lines_from line (ys ++ later)) (sym rest));
      }

  pub turn_goes : Goes bytes p l (turn_of false bytes p)
  unfolding turn_of
  turn_goes =
      by_test (λ b. step.ended ≡ b → Goes bytes p l (cond b (answered_turn false p step filled) (open_turn p step filled))) step.ended
      (λ q e. ended_goes e) (λ q e. open_goes e) refl

-- ---- turn after turn

goes_self : (bytes : List ℕ) (p : Player) (l : List ℕ) → Ready p l → Goes bytes p l p
goes_self bytes p l R = record { next = l; ready = R; further = omega arith; area = refl; same = λ later. refl }

goes_then : (bytes : List ℕ) (p : Player) (l : List ℕ) (q r : Player) (G : Goes bytes p l q) → Goes bytes q G.next r → Goes bytes p l r
goes_then bytes p l q r G H =
    record {
      next = H.next;
      ready = H.ready;
      further = omega (arith, G.further, H.further);
      area = H.area ∙ G.area;
      same = λ later. G.same later ∙ H.same later;
    }

turns_go : (n : ℕ) (bytes : List ℕ) (p : Player) (l : List ℕ) → Ready p l → Goes bytes p l (play_turns false n bytes p)
unfolding play_turns
turns_go zero bytes p l R = goes_self bytes p l R
turns_go (suc n) bytes p l R =
    by_test (λ b. is_done bytes p ≡ b → Goes bytes p l (cond b p (play_turns false n bytes (turn_of false bytes p)))) (is_done bytes p)
    (λ q e. goes_self bytes p l R)
    (λ q e. let G = turn_goes bytes p l R e in goes_then bytes p l (turn_of false bytes p) _ G (turns_go n bytes (turn_of false bytes p) G.next G.ready))
    refl

-- a part: what is left of it after a call, and that a call goes on
pub part_goes_on : (bytes : List ℕ) (p : Player) (l : List ℕ) → Ready p l → Goes bytes p l (play_part false bytes p)
unfolding play_part
part_goes_on bytes p l R = turns_go (suc (length bytes - p.at)) bytes p l R

pub part_moves : (bytes : List ℕ) (p : Player) (l : List ℕ) → Ready p l → is_done bytes p ≡ false → p.at < (play_part false bytes p).at
unfolding play_part play_turns
part_moves bytes p l R e =
    let G = turn_goes bytes p l R e in
    let H = turns_go (length bytes - p.at) bytes (turn_of false bytes p) G.next G.ready in
    subst (λ (q : Player). p.at < q.at) (sym (cond_false _ _ e)) (omega (arith, turn_further false bytes p e, H.further))

-- ---- its end

-- a text at the front of the output
front_text : (text out : List ℕ) → 0 + length text ≤ length out → take (length text) (paste 0 text out) ≡ text
front_text text out fit = paste_part 0 text out fit

module _ (p : Player) where
  abbrev ending : After
  ending = end_of p.state p.area p.line p.room p.words p.out

  pub end_told : (l : List ℕ) → Ready p l → record { state = ending.state; area = ending.area; text = take ending.length ending.out } ≡ play_lines p.state p.area (lines_from l [])
  unfolding lines_from play_lines with_text ended_lines begun_line last_line end_of
  end_told [] R =
      ap (λ (x : After). record { state = x.state; area = x.area; text = take x.length x.out }) (cond_false _ _ (begun_none p.line p.room R.held))
  end_told (c ∷ l) R =
      let A = held_answered p.line p.room (c ∷ l) R.room R.held p.state p.area p.words p.out R.good R.counts R.words R.space in
      let text = text_of (answer_to p.state p.area (c ∷ l)) in
      let fit : 0 + length (text_of (answer_to p.state p.area (c ∷ l))) ≤ length p.out = omega (arith, text_longest p.state p.area (c ∷ l) R.counts, R.space) in
      let all : take (after_held false p.state p.area p.line p.room p.words p.out).length (after_held false p.state p.area p.line p.room p.words p.out).out ≡ text_of (answer_to p.state p.area (c ∷ l)) ++ [] =
      ap₂ (λ (n : ℕ) (zs : List ℕ). take n zs) A.long A.text
      ∙ front_text (text_of (answer_to p.state p.area (c ∷ l))) p.out fit
      ∙ sym (append-nil (text_of (answer_to p.state p.area (c ∷ l)))) in
      ap (λ (x : After). record { state = x.state; area = x.area; text = take x.length x.out }) (cond_true _ _ (begun_some p.line p.room c l R.held))
      ∙ ap₂ (λ (s : State) (a : List ℕ). record { state = s; area = a; text = take (after_held false p.state p.area p.line p.room p.words p.out).length (after_held false p.state p.area p.line p.room p.words p.out).out }) A.state A.area'
      ∙ ap (λ (t : List ℕ). record { state = (answer_to p.state p.area (c ∷ l)).state; area = (answer_to p.state p.area (c ∷ l)).area; text = t }) all
