-- A turn of the player's loop, by the group of the line's frame, comes to its definition, and what is left gives the part. Assumes nothing.
use mathlib.Core.Path.{◌≡◌, refl, sym, ap, ◌∙◌, subst}
use mathlib.Core.Bool.{Bool, true, false, not, cond}
use mathlib.Core.List.{List, ◌++◌}
use Prim.Native.Nat.{ℕ, ◌+◌, ◌-◌, ◌≤◌, ◌<◌}
use native.Mathlib.Omega.{arith}
use borrow.Author.Tests.{ltb-false, eq-eqb, ne_eqb}
use lib.Dec.{ltb, eqb}
use lib.ListN.{length, get_or, set, take, drop, length-append, length-drop}
use lib.Seq.{length-take-le}
use Rattle.area.specs.Parts.{part_of, paste, pasted_in}
use Rattle.area.proofs.Walks.{by_test}
use Rattle.area.proofs.Marks.{cond_true, cond_false}
use Rattle.session_frame.specs.declared.Answer.{Answer}
use Rattle.session_frame.specs.declared.Answer.TheVariants as answer
use Rattle.session_frame.specs.Answers.{answer_text}
use Rattle.session_frame.specs.Writes.{place_after}
use Rattle.session_frame.specs.declared.Frame.{Frame}
use Rattle.session_frame.specs.Frames.{frame_of}
use Rattle.session_line.specs.declared.Line.{Line}
use Rattle.session_line.specs.declared.Step.{Step}
use Rattle.session_line.specs.Lines.{feed_at}
use Rattle.session_line.specs.Machine.{no_line, step_of, room_of}
use Rattle.channel.specs.declared.Channel.{Channel}
use Rattle.file.specs.declared.File.{File}
use Rattle.pool.specs.Free.{file_count}
use Rattle.pool.specs.Masks.{free_after}
use Rattle.routines.specs.declared.Post.{Post}
use Rattle.routines.specs.declared.Routines.{Routines}
use Rattle.routines.specs.Posts.{post_at}
use Rattle.state.specs.declared.State.{State}
use Rattle.state.specs.Places.{channel_count}
use Rattle.state.specs.Stores.{with_routines}
use Rattle.session_reply.specs.declared.Told.{Told}
use Rattle.session_reply.specs.declared.Change.{Change}
use Rattle.session_reply.specs.declared.RoutineTold.{RoutineTold}
use Rattle.session_reply.specs.Replies.{answer_or}
use Rattle.session_reply.specs.Places.{group_of, named_file, file_number, place_of, file_or, channel_or, channel_for, unit_for}
use Rattle.session_reply.specs.Turns.{whole_refusal, whole_state, record_area, request_area, record_at, binding_at, request_at, posted_in, is_still, routine_of, Turned, turned_is, whole_turn, routine_turn, turned_on, area_on}
use Rattle.session_reply.proofs.Stores.{Counts, record_turned, record_moved, binding_turned, request_turned, request_moved}
use Rattle.session_reply.proofs.Posting.{posted_still}
use Rattle.session_reply.proofs.Kept.{turned_counts}
use Rattle.session_reply.proofs.Groups.{as_request_lem, as_whole, as_routine, as_binding, as_record}
use Rattle.session.specs.Rooms.{most_words, most_text, given_in}
use Rattle.session.specs.Player.{Player, player_with, held_text, play_part}
use Rattle.session.proofs.Written.{front_fits, pasted_length}
use Rattle.session.proofs.Turning.{turn_open, turn_ended, Onward, onward}

-- each turn goes on in the part
pub step_on : (line : Line) (bytes : List ℕ) (at : ℕ) (room : List ℕ) (step : Step) → step ≡ step_of line (drop at bytes) at room → at < length bytes
    → length bytes - step.at < length bytes - at
unfolding step_of
step_on line bytes at room step e h =
    let place = ap (λ (z : Step). z.at) e in
    by_test (λ b. ltb (feed_at (drop at bytes)) (length (drop at bytes)) ≡ b → step.at ≡ cond b (at + feed_at (drop at bytes) + 1) (at + feed_at (drop at bytes)) → length bytes - step.at < length bytes - at)
    (ltb (feed_at (drop at bytes)) (length (drop at bytes)))
    (λ q t z. omega (arith, z, h))
    (λ q t z. omega (arith, z, h, ltb-false (feed_at (drop at bytes)) (length (drop at bytes)) t, length-drop at bytes))
    refl place

not_not : (b : Bool) → not (not b) ≡ b
not_not true = refl
not_not false = refl

module _ (unsound : Bool) (bytes : List ℕ) (x : Player) (s : State) (area : List ℕ) (line : Line) (room words : List ℕ) (at : ℕ) (out : List ℕ) (end : ℕ)
    (left : play_part unsound bytes (player_with s area line room words at out end) ≡ x) (counts : Counts s)
    (more : at < length bytes) (space : most_text ≤ length out - end) (step : Step) (filled : List ℕ)
    (stepped : step ≡ step_of line (drop at bytes) at room) (made : filled ≡ room_of line (drop at bytes) room) (within : end ≤ length out) (roomy : most_words ≤ length words) where
  abbrev before : Player
  before = player_with s area line room words at out end

  -- the line has not ended
  pub onward_open : not step.ended ≡ true → Onward unsound bytes x (player_with s area step.line filled words step.at out end)
  onward_open e = onward unsound bytes x before left more space _ (turn_open unsound s area line room words bytes at out end step filled stepped made (sym (not_not step.ended) ∙ ap not e)) counts within roomy

  module _ (ended : not step.ended ≡ false) (f : Frame) (n : ℕ) (given : List ℕ)
      (framed : f ≡ frame_of (held_text step.line filled)) (counted : n ≡ length (given_in f (held_text step.line filled) (length words)))
      (gave : given ≡ paste 0 (given_in f (held_text step.line filled) (length words)) words) (none : Line) (new : none ≡ no_line) (g : ℕ) (is : g ≡ group_of f) where
    -- the player then, with the state t, the area `after`, and this answer written
    abbrev then : State → List ℕ → List ℕ → ℕ → Player
    then t after out' end' = player_with t after none filled given step.at out' end'

    abbrev Wrote : Answer → ℕ → ℕ → List ℕ → ℕ → List ℕ → Type 0
    Wrote a start count after end' out' =
        ((end' ≡ end + place_after 0 (answer_text a (part_of start count after)) (drop end out)) × (end' ≤ length out))
        × (out' ≡ take end out ++ pasted_in 0 (answer_text a (part_of start count after)) (drop end out))

    onward_by : (y : Turned) → y ≡ turned_on unsound s area f (take n given) → (after : List ℕ) → after ≡ area_on unsound s area f (take n given)
        → (end' : ℕ) (out' : List ℕ) → Wrote y.answer y.start y.count after end' out' → Onward unsound bytes x (then y.state after out' end')
    onward_by y ey after moved end' out' w =
        onward unsound bytes x before left more space (then y.state after out' end')
        (turn_ended unsound s area line room words bytes at out end step filled stepped made (sym (not_not step.ended) ∙ ap not ended) roomy space f n given framed counted gave none new y ey after moved end' out' w.0.0 w.1)
        (subst (λ (z : Turned). Counts z.state) (sym ey) (turned_counts unsound s area (take n given) f counts))
        (omega (
          arith,
          w.0.1,
          ap length w.1,
          length-append (take end out) (pasted_in 0 (answer_text y.answer (part_of y.start y.count after)) (drop end out)),
          pasted_length (answer_text y.answer (part_of y.start y.count after)) (drop end out),
          length-take-le end out within,
          length-drop end out,
          within,
        ))
        (omega (arith, roomy, (front_fits (held_text step.line filled) words f n given counted gave).1))

    -- a request: `stood` is the post of its unit
    module _ (e : g ≡ 1) (i k : ℕ) (d₁ old : File) (number : i ≡ file_number f s.files) (place : k ≡ place_of i file_count) (read : old ≡ get_or s.files k d₁)
        (l : ℕ) (d₂ was : Channel) (place₂ : l ≡ place_of (channel_for f i old) channel_count) (read₂ : was ≡ get_or s.channels l d₂)
        (stood : Post) (es : stood ≡ post_at s.routines (channel_for f i old) (unit_for f i old))
        (y : Change) (mask : ℕ) (after : List ℕ) (ey : y ≡ request_at unsound s.m s.w s.frozen f i old was stood area (take n given))
        (em : after ≡ request_area unsound s.m s.w f (file_or i old) (channel_or (channel_for f i old) was) area (take n given))
        (e₃ : mask ≡ free_after s.free old y.file) (end' : ℕ) (out' : List ℕ) (w : Wrote y.answer y.start y.count after end' out') where
      abbrev asked : Routines → State
      asked rs = record { m = s.m; w = s.w; frozen = s.frozen; channels = set s.channels l y.channel; files = set s.files k y.file; free = mask; routines = rs }

      -- what it leaves there is stored, with the look that may follow
      pub onward_posted : (rs : Routines) → rs ≡ posted_in s.routines s.frozen (channel_for f i old) (unit_for f i old) y.post y.looks
          → Onward unsound bytes x (then (asked rs) after out' end')
      onward_posted rs er =
          let h = as_request_lem unsound s area f (take n given) g is e in
          onward_by (turned_is y.answer y.start y.count (asked rs))
          (request_turned unsound s area (take n given) f counts i k d₁ old number place read l d₂ was place₂ read₂ stood y mask rs es ey e₃ er ∙ sym h.0) after
          (request_moved unsound s area (take n given) f counts i k d₁ old number place read l d₂ was place₂ read₂ after em ∙ sym h.1) end' out' w

      -- the routines are as they were
      pub onward_still : (still : Bool) → still ≡ is_still stood y.post y.looks → still ≡ true → Onward unsound bytes x (then (asked s.routines) after out' end')
      onward_still still et t = onward_posted s.routines (posted_still s.routines s.frozen (channel_for f i old) (unit_for f i old) stood y.post y.looks still es et t)

    module _ (n1 : g ≡ 1 → ⊥) where
      module _ (e : g ≡ 3) (r : ℕ) (en : r ≡ whole_refusal unsound (length area) f) (a : Answer) (ea : a ≡ answer_or r answer.Done)
          (end' : ℕ) (out' : List ℕ) (w : Wrote a 0 0 area end' out') where
        whole_by : (t : State) → t ≡ cond (eqb r 0) (whole_state s f) s → Onward unsound bytes x (then t area out' end')
        unfolding whole_turn
        whole_by t et =
            let h = as_whole unsound s area f (take n given) g is n1 e in
            onward_by (turned_is a 0 0 t)
            (ap (λ (b : Answer). turned_is b 0 0 t) ea ∙ ap (turned_is (answer_or r answer.Done) 0 0) et
            ∙ ap (λ (k : ℕ). turned_is (answer_or k answer.Done) 0 0 (cond (eqb k 0) (whole_state s f) s)) en ∙ sym h.0) area (sym h.1) end' out' w

        pub onward_whole : r ≡ 0 → (t : State) → t ≡ whole_state s f → Onward unsound bytes x (then t area out' end')
        onward_whole z t et = whole_by t (et ∙ sym (cond_true (whole_state s f) s (eq-eqb r 0 z)))

        pub onward_refused : (r ≡ 0 → ⊥) → Onward unsound bytes x (then s area out' end')
        onward_refused h = whole_by s (sym (cond_false (whole_state s f) s (ne_eqb r 0 h)))

      pub onward_routine : (g ≡ 3 → ⊥) → g ≡ 4 → (y : RoutineTold) → y ≡ routine_of unsound s.frozen s.routines f → (end' : ℕ) (out' : List ℕ) → Wrote y.answer 0 0 area end' out'
          → Onward unsound bytes x
          (then (record { m = s.m; w = s.w; frozen = s.frozen; channels = s.channels; files = s.files; free = s.free; routines = y.routines }) area out' end')
      unfolding routine_turn with_routines
      onward_routine n3 e y ey end' out' w =
          let h = as_routine unsound s area f (take n given) g is n1 n3 e in
          onward_by (turned_is y.answer 0 0 (with_routines s y.routines))
          (ap (λ (z : RoutineTold). turned_is z.answer 0 0 (with_routines s z.routines)) ey ∙ sym h.0) area (sym h.1) end' out' w

      module _ (n3 : g ≡ 3 → ⊥) (n4 : g ≡ 4 → ⊥) (i k : ℕ) (d₁ old : File) (number : i ≡ named_file f) (place : k ≡ place_of i file_count) (read : old ≡ get_or s.files k d₁) where
        abbrev stored : File → ℕ → State
        stored file mask = record { m = s.m; w = s.w; frozen = s.frozen; channels = s.channels; files = set s.files k file; free = mask; routines = s.routines }

        pub onward_binding : g ≡ 2 → (l : ℕ) (d₂ was : Channel) → l ≡ place_of (channel_for f i old) channel_count → was ≡ get_or s.channels l d₂
            → (y : Told) (mask : ℕ) → y ≡ binding_at unsound s.w s.free s.files f i old was → mask ≡ free_after s.free old y.file
            → (end' : ℕ) (out' : List ℕ) → Wrote y.answer y.start y.count area end' out' → Onward unsound bytes x (then (stored y.file mask) area out' end')
        onward_binding e l d₂ was place₂ read₂ y mask ey e₃ end' out' w =
            let h = as_binding unsound s area f (take n given) g is n1 n3 n4 e in
            onward_by (turned_is y.answer y.start y.count (stored y.file mask))
            (binding_turned unsound s area (take n given) f counts i k d₁ old number place read l d₂ was place₂ read₂ y mask ey e₃ ∙ sym h.0) area (sym h.1) end' out' w

        pub onward_record : (g ≡ 2 → ⊥) → (y : Told) (mask : ℕ) (after : List ℕ) → y ≡ record_at unsound s.m s.w f i old area (take n given)
            → after ≡ record_area unsound s.m s.w f (file_or i old) area (take n given) → mask ≡ free_after s.free old y.file
            → (end' : ℕ) (out' : List ℕ) → Wrote y.answer y.start y.count after end' out' → Onward unsound bytes x (then (stored y.file mask) after out' end')
        onward_record n2 y mask after ey em e₃ end' out' w =
            let h = as_record unsound s area f (take n given) g is n1 n3 n4 n2 in
            onward_by (turned_is y.answer y.start y.count (stored y.file mask))
            (record_turned unsound s area (take n given) f counts i k d₁ old number place read y mask ey e₃ ∙ sym h.0) after
            (record_moved unsound s area (take n given) f counts i k d₁ old number place read after em ∙ sym h.1) end' out' w
