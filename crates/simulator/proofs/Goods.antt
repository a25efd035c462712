-- Calls lead from one good image to another: what it stands for after a call is what the line leaves of what it stood for before. Assumes nothing.
use borrow.Author.Tests.{eqb-true, ltb-false, ltb-true}
use mathlib.Core.Path.{◌≡◌, refl, sym, ap, ◌∙◌, subst}
use mathlib.Core.Bool.{Bool, true, false, cond}
use mathlib.Core.List.{List, [], ◌∷◌}
use Prim.Native.Nat.{ℕ, suc, ◌≤◌, ◌<◌}
use native.Mathlib.Omega.{arith}
use lib.Dec.{eqb, ltb}
use lib.IntN.{pos}
use Rattle.area.specs.Parts.{paste}
use lib.ListN.{length, get_or, replicate, length-replicate, drop_of_length-le}
use Rattle.area.proofs.Walks.{by_test, and_left}
use Rattle.channel.specs.declared.Channel.{Channel}
use Rattle.channel.specs.Units.{unit_count, idle_unit}
use Rattle.state.specs.declared.State.{State}
use Rattle.state.specs.Places.{channel_count, before_start}
use Rattle.state_sound.specs.Soundness.{sound}
use Rattle.routines.specs.declared.Programs.{Programs}
use Rattle.routines.specs.declared.Posts.{Posts}
use Rattle.routines.specs.Ranks.{depth}
use Rattle.routines.specs.Posts.{no_posts}
use Rattle.routines.specs.Right.{programs_right}
use Rattle.pool.specs.Free.{file_count}
use Rattle.state_sound.proofs.Facts.{sound_facts}
use Rattle.state_sound.proofs.Wholes.{before_start_sound}
use Rattle.codec.specs.Codecs.{All}
use Rattle.state_image.specs.Images.{image_size, image_words, image_of, state_in, area_in, is_image, UnitsTo, PostsTo, Whole}
use Rattle.state_image.proofs.Theorems.{image_good, state_back, area_back, good_sound, whole_read, area_read}
use Rattle.session_reply.specs.Replies.{Reply, answer_to, text_of}
use Rattle.session_reply.proofs.Stores.{Counts}
use Rattle.session_reply.proofs.Kept.{answer_kept, answer_counts, answer_area}
use Rattle.session.specs.Rooms.{most_text}
use Rattle.session.specs.Session.{area_words}
use Rattle.simulator.specs.Calls.{Called, refused_call, start_call, answered_call, answer_call}
use Rattle.simulator.proofs.Answers.{units_all, start_fits, answer_short, answer_accepted}
use Rattle.simulator.proofs.Units.{HasUnits, Full, fresh_size, answer_full}

-- ---- a state as the code has it

units_to : (xs : List Channel) → All HasUnits xs → All (UnitsTo unit_count) xs
unfolding All
units_to [] g = g
units_to (x ∷ xs) g =
    let far : length x.units ≤ unit_count = omega (arith, g.0) in
    ((g.0, drop_of_length-le x.units far), units_to xs g.1)

to_units : (xs : List Channel) → All (UnitsTo unit_count) xs → All HasUnits xs
unfolding All
to_units [] g = g
to_units (x ∷ xs) g = (g.0.0, to_units xs g.1)

-- a sound state has a post for each unit, and a list of four places
posts_to : (xs : List Posts) → ((c : ℕ) → c < length xs → length (get_or xs c no_posts).units ≡ unit_count) → All (PostsTo unit_count) xs
unfolding All
posts_to [] h = tt
posts_to (x ∷ xs) h =
    let long : length x.units ≡ unit_count = h 0 (omega arith) in
    let far : length x.units ≤ unit_count = omega (arith, long) in
    ((long, drop_of_length-le x.units far), posts_to xs (λ c l. h (suc c) (omega (arith, l))))

programs_places : (p : Programs) → programs_right p ≡ true → length p.pushed ≡ depth
unfolding programs_right
programs_places p e = eqb-true (length p.pushed) depth (and_left (eqb (length p.pushed) depth) _ e)

sound_whole : (s : State) → length s.channels ≡ channel_count → All HasUnits s.channels → length s.files ≡ file_count → sound s ≡ true → Whole unit_count s
sound_whole s channels units files e =
    let r = (sound_facts s e).routines.ready in
    record {
      channels = channels;
      units = units_to s.channels units;
      files = files;
      pushed = programs_places s.routines.programs r.programs;
      posts = r.table;
      unit_posts = posts_to s.routines.posts r.rows;
    }

module _ (state : List ℕ) (good : is_image unit_count state ≡ true) (frame : List ℕ) where
  abbrev s : State
  s = state_in unit_count state

  abbrev area : List ℕ
  area = area_in unit_count state

  abbrev reply : Reply
  reply = answer_to s area frame

  whole : Whole unit_count s
  whole = whole_read unit_count units_all state

  counts : Counts s
  counts = record { files = whole.files; channels = whole.channels }

  sound_after : sound reply.state ≡ true
  sound_after = answer_kept s area frame counts (good_sound unit_count units_all state good)

  whole_after : Whole unit_count reply.state
  whole_after =
      let k = answer_counts s area frame counts in
      sound_whole reply.state k.channels (answer_full s area frame (to_units s.channels whole.units)) k.files sound_after

  words_after_lem : length reply.area ≡ image_words
  words_after_lem = answer_area s area frame counts ∙ area_read unit_count units_all state

  -- the image that an accepted call leaves
  pub after_good : is_image unit_count (image_of unit_count reply.state reply.area) ≡ true
  after_good = image_good unit_count units_all reply.state reply.area whole_after sound_after

  pub after_state : state_in unit_count (image_of unit_count reply.state reply.area) ≡ reply.state
  after_state = state_back unit_count units_all reply.state reply.area whole_after sound_after

  pub after_area : area_in unit_count (image_of unit_count reply.state reply.area) ≡ reply.area
  after_area = area_back unit_count reply.state reply.area words_after_lem

-- ---- one call

-- what an accepted call comes to
pub record Answers (state frame answer : List ℕ) : Type 0 where
  -- the answer is that of the session's definitions, for what the image stands for: its length is given, and its line stands at the front of its area
  pub result : (answer_call state frame answer).result ≡ pos (length (text_of (answer_to (state_in unit_count state) (area_in unit_count state) frame)))
  pub text : (answer_call state frame answer).answer ≡ paste 0 (text_of (answer_to (state_in unit_count state) (area_in unit_count state) frame)) answer
  -- the state area is a good image, of the state and the area after the line
  pub good : is_image unit_count (answer_call state frame answer).state ≡ true
  pub stands : state_in unit_count (answer_call state frame answer).state ≡ (answer_to (state_in unit_count state) (area_in unit_count state) frame).state
  pub words : area_in unit_count (answer_call state frame answer).state ≡ (answer_to (state_in unit_count state) (area_in unit_count state) frame).area

pub call_answers : (state frame answer : List ℕ) → is_image unit_count state ≡ true → most_text ≤ length answer → Answers state frame answer
unfolding answered_call
call_answers state frame answer good space =
    let e : answer_call state frame answer ≡ answered_call (answer_to (state_in unit_count state) (area_in unit_count state) frame) answer =
    answer_accepted state frame answer good space in
    let image : (answer_call state frame answer).state ≡ image_of unit_count (answer_to (state_in unit_count state) (area_in unit_count state) frame).state (answer_to (state_in unit_count state) (area_in unit_count state) frame).area =
    ap (λ (x : Called). x.state) e in
    record {
      result = ap (λ (x : Called). x.result) e;
      text = ap (λ (x : Called). x.answer) e;
      good = ap (is_image unit_count) image ∙ after_good state good frame;
      stands = ap (state_in unit_count) image ∙ after_state state good frame;
      words = ap (area_in unit_count) image ∙ after_area state good frame;
    }

-- a good image stays one, whatever is called
pub call_good : (state frame answer : List ℕ) → is_image unit_count state ≡ true → is_image unit_count (answer_call state frame answer).state ≡ true
call_good state frame answer good =
    by_test (λ (b : Bool). ltb (length answer) most_text ≡ b → is_image unit_count (answer_call state frame answer).state ≡ true) (ltb (length answer) most_text)
    (λ t e. ap (λ (x : Called). is_image unit_count x.state) (answer_short state frame answer good (ltb-true (length answer) most_text e)) ∙ good)
    (λ t e. (call_answers state frame answer good (ltb-false (length answer) most_text e)).good)
    refl

-- ---- start: a good image, of the state before the first fresh start and an area of zeros

before_whole : Whole unit_count before_start
unfolding before_start All
before_whole = sound_whole before_start refl (fresh_size 0, (fresh_size 0, (fresh_size 0, (fresh_size 0, (fresh_size 0, tt))))) refl before_start_sound

pub record Starts (state : List ℕ) : Type 0 where
  pub good : is_image unit_count (start_call state).state ≡ true
  pub stands : state_in unit_count (start_call state).state ≡ before_start
  pub words : area_in unit_count (start_call state).state ≡ replicate area_words 0

pub call_starts : (state : List ℕ) → length state ≡ image_size unit_count → Starts state
call_starts state e =
    let image : (start_call state).state ≡ image_of unit_count before_start (replicate area_words 0) = ap (λ (x : Called). x.state) (start_fits state e) in
    record {
      good = ap (is_image unit_count) image ∙ image_good unit_count units_all before_start (replicate area_words 0) before_whole before_start_sound;
      stands = ap (state_in unit_count) image ∙ state_back unit_count units_all before_start (replicate area_words 0) before_whole before_start_sound;
      words = ap (area_in unit_count) image ∙ area_back unit_count before_start (replicate area_words 0) (length-replicate {A = ℕ} area_words 0);
    }
