-- The machine computes the lines of a session, however the session is cut into parts. Assumes nothing.
use mathlib.Core.Path.{◌≡◌, refl, sym, ap, ap₂, ◌∙◌, subst}
use mathlib.Core.Bool.{cond}
use mathlib.Core.List.{List, [], ◌∷◌, ◌++◌, map}
use Prim.Native.Nat.{ℕ, zero, suc, ◌+◌, ◌-◌, ◌<◌}
use native.Mathlib.Omega.{arith}
use lib.ListN.{length, take, drop, length-drop}
use lib.Seq.{drop-drop}
use Rattle.area.proofs.Marks.{cond_true, cond_false}
use Rattle.area.proofs.Walks.{by_test}
use Rattle.session_line.specs.declared.Line.{Line}
use Rattle.session_line.specs.declared.Step.{Step}
use Rattle.session_line.specs.Lines.{Held, clip, lines_of, feed_at, ended_lines, begun_line, last_line}
use Rattle.session_line.specs.Machine.{no_line, has_begun, held_of, Holds, step_of, room_of}
use Rattle.session_line.specs.Runs.{Run, after, run_part, run_parts, run_session, joined}
use Rattle.session_line.proofs.Laws.Feeds.{ended_append, begun_append, lines_ended}
use Rattle.session_line.proofs.Laws.Holding.{holds_none, begun_none, begun_some}
use Rattle.session_line.proofs.Laws.Steps.{step_length, step_holds, Ended, step_ended, Stopped, step_stopped}

-- a run has told the lines ls, as a room of n takes them, and holds l
pub record Told (n : ℕ) (r : Run) (ls : List (List ℕ)) (l : List ℕ) : Type 0 where
  pub lines : r.lines ≡ map (clip n) ls
  pub holds : Holds r.line r.room l
  pub same : length r.room ≡ n

told_as : {n : ℕ} {r : Run} {ls ks : List (List ℕ)} {l m : List ℕ} → ls ≡ ks → l ≡ m → Told n r ls l → Told n r ks m
told_as {n} {r} {ls} {ks} {l} {m} p q t =
    record {
      lines = t.lines ∙ ap (map (clip n)) p;
      holds = subst (λ (x : List ℕ). Holds r.line r.room x) q t.holds;
      same = t.same;
    }

map_append : (f : List ℕ → Held) (xs ys : List (List ℕ)) → map f (xs ++ ys) ≡ map f xs ++ map f ys
map_append f [] ys = refl
map_append f (x ∷ xs) ys = ap (λ (zs : List Held). f x ∷ zs) (map_append f xs ys)

-- one run after another
told_after : (n : ℕ) (ks : List Held) (r : Run) (xs ls : List (List ℕ)) (l : List ℕ) → ks ≡ map (clip n) xs → Told n r ls l → Told n (after ks r) (xs ++ ls) l
unfolding after
told_after n ks r xs ls l e t =
    record { lines = ap₂ (λ (a b : List Held). a ++ b) e t.lines ∙ sym (map_append (clip n) xs ls); holds = t.holds; same = t.same }

-- ---- a part

-- one turn: xs is what is left of the part, and the machine holds l
module _ (n : ℕ) (line : Line) (room l part : List ℕ) (at : ℕ) (size : length room ≡ n) (h : Holds line room l) where
  abbrev xs : List ℕ
  xs = drop at part

  abbrev stepped : Step
  stepped = step_of line xs at room

  abbrev filled : List ℕ
  filled = room_of line xs room

  filled_size : length filled ≡ n
  filled_size = step_length line room l xs at h ∙ size

  turn_ends : Ended line room l xs at h → (r : Run) → Told n r (ended_lines [] (drop stepped.at part)) (begun_line [] (drop stepped.at part))
      → Told n (after (held_of stepped.line filled ∷ []) r) (ended_lines l xs) (begun_line l xs)
  turn_ends d r t =
      let rest : drop stepped.at part ≡ drop (feed_at xs + 1) xs = ap (λ (k : ℕ). drop k part) d.place ∙ sym (drop-drop (feed_at xs + 1) at part) in
      let text : held_of stepped.line filled ≡ clip n (l ++ take (feed_at xs) xs) =
      (step_holds line room l xs at h).held ∙ ap (λ (k : ℕ). clip k (l ++ take (feed_at xs) xs)) filled_size in
      told_as (ap (λ (ys : List ℕ). (l ++ take (feed_at xs) xs) ∷ ended_lines [] ys) rest ∙ sym d.lines) (ap (begun_line []) rest ∙ sym d.begun)
      (told_after n (held_of stepped.line filled ∷ []) r ((l ++ take (feed_at xs) xs) ∷ []) _ _ (ap (λ (k : Held). k ∷ []) text) t)

  turn_stops : Stopped line room l xs at h → Told n (record { lines = []; line = stepped.line; room = filled }) (ended_lines l xs) (begun_line l xs)
  turn_stops d =
      told_as (sym d.lines) (sym d.begun) (record { lines = refl; holds = step_holds line room l xs at h; same = filled_size })

part_told : (n turns : ℕ) (line : Line) (room l part : List ℕ) (at : ℕ) → length room ≡ n → Holds line room l → length part - at < turns
    → Told n (run_part turns line room part at) (ended_lines l (drop at part)) (begun_line l (drop at part))
unfolding run_part
part_told n zero line room l part at size h k = absurd (omega arith)
part_told n (suc turns) line room l part at size h k =
    let s = step_of line (drop at part) at room in
    let r = room_of line (drop at part) room in
    by_test
    (λ t. (step_of line (drop at part) at room).ended ≡ t
    → Told n (cond t (after (held_of s.line r ∷ []) (run_part turns no_line r part s.at)) (record { lines = []; line = s.line; room = r }))
    (ended_lines l (drop at part)) (begun_line l (drop at part)))
    (step_of line (drop at part) at room).ended
    (λ q e.
    let d = step_ended line room l (drop at part) at h e in
    let less : length part - (step_of line (drop at part) at room).at < turns = omega (arith, d.place, d.some, length-drop at part) in
    turn_ends n line room l part at size h d _
    (part_told n turns no_line r [] part s.at (filled_size n line room l part at size h) (holds_none r) less))
    (λ q e. turn_stops n line room l part at size h (step_stopped line room l (drop at part) at h e))
    refl

-- ---- part after part

pub parts_told : (n : ℕ) (parts : List (List ℕ)) (line : Line) (room l : List ℕ) → length room ≡ n → Holds line room l
    → Told n (run_parts line room parts) (ended_lines l (joined parts)) (begun_line l (joined parts))
unfolding run_parts joined ended_lines begun_line
parts_told n [] line room l size h = record { lines = refl; holds = h; same = size }
parts_told n (part ∷ parts) line room l size h =
    let t = part_told n (suc (length part)) line room l part 0 size h (omega arith) in
    told_as (sym (ended_append l part (joined parts))) (sym (begun_append l part (joined parts)))
    (told_after n _ _ (ended_lines l part) _ _ t.lines (parts_told n parts _ _ (begun_line l part) t.same t.holds))

-- ---- the whole session: its lines are those of its bytes, however they came

pub session_lines : (room : List ℕ) (parts : List (List ℕ)) → run_session room parts ≡ map (clip (length room)) (lines_of (joined parts))
unfolding run_session last_line
session_lines room parts =
    let n = length room in
    let t = parts_told n parts no_line room [] refl (holds_none room) in
    ap₂ (λ (a b : List Held). a ++ b) t.lines (last_told (begun_line [] (joined parts)) (run_parts no_line room parts) t.holds t.same)
    ∙ sym (map_append (clip n) (ended_lines [] (joined parts)) (last_line (begun_line [] (joined parts))))
    ∙ ap (map (clip n)) (sym (lines_ended (joined parts)))
  where
    last_told : (l : List ℕ) (r : Run) → Holds r.line r.room l → length r.room ≡ length room
        → cond (has_begun r.line) (held_of r.line r.room ∷ []) [] ≡ map (clip (length room)) (last_line l)
    last_told [] r h same = cond_false _ _ (begun_none r.line r.room h)
    last_told (c ∷ l) r h same =
        cond_true _ _ (begun_some r.line r.room c l h)
        ∙ ap (λ (k : Held). k ∷ []) (h.held ∙ ap (λ (n : ℕ). clip n (c ∷ l)) same)

-- two ways to cut one session give the same lines
pub cut_anywhere : (room : List ℕ) (parts others : List (List ℕ)) → joined parts ≡ joined others → run_session room parts ≡ run_session room others
cut_anywhere room parts others e =
    session_lines room parts ∙ ap (λ (xs : List ℕ). map (clip (length room)) (lines_of xs)) e ∙ sym (session_lines room others)
