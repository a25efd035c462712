-- What a simulator is answered is what the session of its frames prints, and its state area shows where that session stands. Assumes nothing.
use borrow.Author.Tests.{ltb-true, ltb-false}
use mathlib.Core.Path.{◌≡◌, refl, sym, ap, ap₂, ◌∙◌, subst}
use mathlib.Core.Bool.{Bool, true, false, cond}
use mathlib.Core.List.{List, [], ◌∷◌, ◌++◌}
use Prim.Native.Nat.{ℕ, ◌+◌, ◌≤◌, ◌<◌}
use native.Mathlib.Omega.{arith}
use lib.Dec.{ltb}
use lib.IntN.{ℤ, pos, negsuc}
use lib.ListN.{length, take, replicate}
use Rattle.area.specs.Parts.{paste}
use Rattle.area.proofs.Walks.{by_test}
use Rattle.area.proofs.Marks.{cond_true, cond_false}
use Rattle.area.proofs.Joins.{take_paste}
use Rattle.channel.specs.Units.{unit_count}
use Rattle.state.specs.declared.State.{State}
use Rattle.state.specs.Places.{before_start}
use Rattle.state_image.specs.Images.{image_size, state_in, area_in, is_image}
use Rattle.session_reply.specs.Replies.{Reply, answer_to, text_of}
use Rattle.session.specs.Rooms.{most_text}
use Rattle.session.specs.Session.{Course, with_text, play_lines}
use Rattle.simulator.specs.Calls.{Called, refused_call, start_call, answer_call}
use Rattle.simulator.proofs.Answers.{answer_short}
use Rattle.simulator.proofs.Goods.{Answers, call_answers, call_good, Starts, call_starts}
use Rattle.pack.specs.Calls.{Call}
use Rattle.demands.specs.Demands.{Refuses, Holds}
use Rattle.demands_ledger.specs.Ledgers.{state_after, area_after as words_after}
use Rattle.demands_session.specs.Played.{calls_in, printed, IsHistory, zeros, state_in as playedState, area_in as playedArea}
use Rattle.demands_session.proofs.Played.{history_is}
use Rattle.demands.proofs.Demands.{demand1}
use Rattle.demands_session.proofs.Sessions.{session2_held}
use Rattle.demands_simulator.specs.Simulated.{Lending, length_given, line_given, area_after, lines_given, frames_of, Shows}

-- ---- one call

line_given_lem : (state frame answer : List ℕ) → Answers state frame answer → most_text ≤ length answer
    → line_given (answer_call state frame answer) ≡ text_of (answer_to (state_in unit_count state) (area_in unit_count state) frame)
line_given_lem state frame answer a h =
    let text = text_of (answer_to (state_in unit_count state) (area_in unit_count state) frame) in
    let z : 0 + length text ≡ length text = omega arith in
    ap₂ (λ (n : ℤ) (l : List ℕ). take (length_given n) l) a.result a.text
    ∙ ap (λ (n : ℕ). take n (paste 0 text answer)) (sym z) ∙ take_paste 0 (length text) text answer refl (omega arith)

-- ---- calls one after the other

-- from where the state area shows a state and its area: the lines that they give are those that the session prints from there, and the state area shows
-- where the session stands after them
pub record Plays (image : List ℕ) (s : State) (area : List ℕ) (xs : List Lending) : Type 0 where
  pub lines : lines_given image xs ≡ (play_lines s area (frames_of xs)).text
  pub shows : Shows (area_after image xs) (play_lines s area (frames_of xs)).state (play_lines s area (frames_of xs)).area

module _ (image : List ℕ) (s : State) (area : List ℕ) (x : Lending) (xs : List Lending) (shown : Shows image s area) where
  abbrev call : Called
  call = answer_call image x.frame x.answer

  abbrev reply : Reply
  reply = answer_to s area x.frame

  -- the call is refused for its room: it is as if it had not been made
  plays_short : ltb (length x.answer) most_text ≡ true → Plays image s area xs → Plays image s area (x ∷ xs)
  unfolding area_after lines_given frames_of
  plays_short e p =
      let same : call ≡ refused_call 1 image x.answer = answer_short image x.frame x.answer shown.good (ltb-true (length x.answer) most_text e) in
      let frames : frames_of (x ∷ xs) ≡ frames_of xs = cond_true _ _ e in
      record {
        lines = ap (λ (c : Called). line_given c ++ lines_given c.state xs) same ∙ p.lines ∙ ap (λ (l : List (List ℕ)). (play_lines s area l).text) (sym frames);
        shows = subst (λ (c : Called). Shows (area_after c.state xs) (play_lines s area (frames_of (x ∷ xs))).state (play_lines s area (frames_of (x ∷ xs))).area) (sym same)
            (subst (λ (l : List (List ℕ)). Shows (area_after image xs) (play_lines s area l).state (play_lines s area l).area) (sym frames) p.shows);
      }

  -- it is answered
  module _ (e : ltb (length x.answer) most_text ≡ false) where
    space : most_text ≤ length x.answer
    space = ltb-false (length x.answer) most_text e

    answers : Answers image x.frame x.answer
    answers = call_answers image x.frame x.answer shown.good space

    replied : answer_to (state_in unit_count image) (area_in unit_count image) x.frame ≡ reply
    replied = ap₂ (λ (t : State) (l : List ℕ). answer_to t l x.frame) shown.state shown.words

    after_shown : Shows call.state reply.state reply.area
    after_shown = record {
      good = answers.good;
      state = answers.stands ∙ ap (λ (r : Reply). r.state) replied;
      words = answers.words ∙ ap (λ (r : Reply). r.area) replied;
    }

    plays_one : Plays call.state reply.state reply.area xs → Plays image s area (x ∷ xs)
    unfolding area_after lines_given frames_of play_lines with_text
    plays_one p =
        let frames : frames_of (x ∷ xs) ≡ (x.frame ∷ frames_of xs) = cond_false _ _ e in
        record {
          lines = ap₂ (λ (a b : List ℕ). a ++ b) (line_given_lem image x.frame x.answer answers space ∙ ap text_of replied) p.lines
              ∙ ap (λ (l : List (List ℕ)). (play_lines s area l).text) (sym frames);
          shows = subst (λ (l : List (List ℕ)). Shows (area_after call.state xs) (play_lines s area l).state (play_lines s area l).area) (sym frames) p.shows;
        }

pub calls_play : (image : List ℕ) (s : State) (area : List ℕ) (xs : List Lending) → Shows image s area → Plays image s area xs
unfolding area_after lines_given frames_of play_lines
calls_play image s area [] shown = record { lines = refl; shows = shown }
calls_play image s area (x ∷ xs) shown =
    by_test (λ (b : Bool). ltb (length x.answer) most_text ≡ b → Plays image s area (x ∷ xs)) (ltb (length x.answer) most_text)
    (λ t e. plays_short image s area x xs shown e (calls_play image s area xs shown))
    (λ t e. plays_one image s area x xs shown e (calls_play (answer_call image x.frame x.answer).state (answer_to s area x.frame).state (answer_to s area x.frame).area xs (after_shown image s area x xs shown e)))
    refl

-- ---- from the start: a session

module _ (state : List ℕ) (sized : length state ≡ image_size unit_count) (xs : List Lending) where
  pub start_shows : Shows (start_call state).state before_start zeros
  start_shows = let a = call_starts state sized in record { good = a.good; state = a.stands; words = a.words }

  pub session_plays : Plays (start_call state).state before_start zeros xs
  session_plays = calls_play (start_call state).state before_start zeros xs start_shows

  -- the history of the frames' calls: the lines given are its answers, and the state area shows the state and the area that it leads to
  pub simulator_history : (lines_given (start_call state).state xs ≡ printed before_start zeros (frames_of xs))
      × Shows (area_after (start_call state).state xs) (state_after before_start zeros (calls_in (frames_of xs))) (words_after before_start zeros (calls_in (frames_of xs)))
  simulator_history =
      let h = history_is before_start zeros (frames_of xs) in (
        session_plays.lines ∙ h.text,
        subst (λ (t : State). Shows (area_after (start_call state).state xs) t (words_after before_start zeros (calls_in (frames_of xs)))) h.state
            (subst (Shows (area_after (start_call state).state xs) (playedState (frames_of xs))) h.words session_plays.shows),
      )

  -- what the state area stands for is where the session of the frames stands, of which `demands_session` states every demand
  pub simulator_state : state_in unit_count (area_after (start_call state).state xs) ≡ playedState (frames_of xs)
  simulator_state = session_plays.shows.state

  pub simulator_area : area_in unit_count (area_after (start_call state).state xs) ≡ playedArea (frames_of xs)
  simulator_area = session_plays.shows.words

  -- demand 1, of every call that a frame is
  pub simulator1 : (call : Call) → Refuses (state_in unit_count (area_after (start_call state).state xs)) (area_in unit_count (area_after (start_call state).state xs)) call
  simulator1 call = demand1 (state_in unit_count (area_after (start_call state).state xs)) (area_in unit_count (area_after (start_call state).state xs)) call

  -- demand 2: "Each buffer is free, or held by exactly one open file"
  pub simulator2_held : Holds (state_in unit_count (area_after (start_call state).state xs))
  simulator2_held = subst Holds (sym simulator_state) (session2_held (frames_of xs))
