-- Demand 2 on get and skip, from what the ledgers keep. Assumes nothing.
use mathlib.Core.Path.{◌≡◌, refl, sym, ap, subst, ◌∙◌}
use mathlib.Core.Bool.{Bool, true, false, cond}
use mathlib.Core.List.{List, [], ◌∷◌, ◌++◌, map}
use Prim.Native.Nat.{ℕ, zero, suc, ◌+◌, ◌-◌, ◌*◌, ◌≤◌, ◌<◌}
use native.Mathlib.Nat.{le_trans}
use native.Mathlib.Omega.{arith}
use borrow.Author.Tests.{eq-eqb, eqb-true, leb-true, leb-false, le-leb, lt-leb, lt-ltb}
use lib.Dec.{eqb, leb, ltb}
use lib.ListN.{length, take, length-map, length-append}
use lib.Seq.{take_at}
use Rattle.area.specs.Parts.{part_of}
use Rattle.area.proofs.Walks.{true_not_false}
use Rattle.area.proofs.Marks.{cond_true, cond_false}
use Rattle.area.proofs.Pastes.{length_part}
use Rattle.word.specs.Checks.{unchecked, with_error}
use Rattle.file.specs.declared.Arrival.{Arrival}
use Rattle.file.specs.Arrivals.{error_due}
use Rattle.file.proofs.ArrivalLaws.{arrival}
use Rattle.word.specs.declared.Checked.{Checked}
use Rattle.file.specs.declared.Slot.{Slot}
use Rattle.file.specs.declared.Slot.TheVariants.{Empty, Taken, Part, Full}
use Rattle.file.specs.declared.Side.{Side}
use Rattle.file.specs.declared.Side.TheVariants.{Neither}
use Rattle.file.specs.declared.File.{File}
use Rattle.file.specs.Slots.{is_empty}
use Rattle.file.specs.Sides.{buffer_at, slot_at, start_at, is_side, oldest}
use Rattle.file_input.specs.Ages.{Block, full_in, in_order, line}
use Rattle.file_input.proofs.Ages.{block, Aged, no_block, old, aged}
use Rattle.file_input.specs.declared.Got.{Got}
use Rattle.file_input.specs.declared.Got.TheVariants.{Record, Leftover, Error}
use Rattle.file_input.specs.Gets.{passed, looked_at, found_in, found_none, found, get_from, got_number, got_found}
use Rattle.file_input.specs.Histories.{shown}
use Rattle.state_sound.proofs.FileFacts.{Sound}
use Rattle.state_sound.proofs.FilesKept.{owns_used}
use Rattle.state_sound.proofs.Changes.{numbers, passed_sound}
use Rattle.state_sound.proofs.Inside.{number_less, size_fits, buffer_inside}
use Rattle.state_sound.proofs.Facts.{sound_facts}
use Rattle.state.specs.declared.State.{State}
use Rattle.state.specs.Places.{file_at}
use Rattle.pack_record.specs.Gets.{get_words}
use Rattle.pack_record.proofs.GetTheorems.{get_open, get_input, get_area_long, get_finds}
use Rattle.pack_record.proofs.SkipTheorems.{skip_open, skip_input, skip_full, skip_drops}
use Rattle.pack_record.proofs.Written.{part_join}
use Rattle.pack.specs.Calls.{Added, nothing, working, reported, got, returned, runs, get, skip, answer_of}
use Rattle.demands_ledger.specs.Ledgers.{Item, word, wrong, Came, wrongs_by, wrongs, Ledger, past_used, first_of, rest_of, with_skip, noted}
use Rattle.demands_ledger.specs.Blocks.{unread_in, unread_of}
use Rattle.demands_ledger.proofs.Told.{Brought}
use Rattle.demands_ledger.proofs.Brings.{passed_brought}
use Rattle.demands_ledger.proofs.Moves.{drop_same, looked_same, looked_marked}
use Rattle.demands_ledger.proofs.Frames.{Kept}
use Rattle.demands_ledger.proofs.Always.{noted_kept}
use Rattle.demands.specs.Records.{Gives, past, tells, gives, leaves, ends, waits, Drops}

-- ---- blocks that are used up

-- a block that get has to look at has something left
data Fresh : List (List Item) → Type 0 where
  nothing_owed : Fresh []
  some_owed : {x : Item} {items : List Item} {blocks : List (List Item)} → Fresh ((x ∷ items) ∷ blocks)

past_both : (owed : List (List Item)) → length owed ≤ 2 → Fresh (past_used (past_used owed))
past_both [] h = nothing_owed
past_both ([] ∷ []) h = nothing_owed
past_both ([] ∷ ([] ∷ [])) h = nothing_owed
past_both ([] ∷ ([] ∷ (y ∷ ys))) h = absurd (omega arith)
past_both ([] ∷ ((x ∷ items) ∷ ys)) h = some_owed
past_both ((x ∷ items) ∷ ys) h = some_owed

fresh_head : (items : List Item) (blocks : List (List Item)) → Fresh (items ∷ blocks) → 1 ≤ length items
fresh_head (x ∷ items) blocks f = omega arith
fresh_head [] blocks f = elim f [ ]

still_past : (r : ℕ) (marked : Bool) (owed : List (List Item)) (a : Added) (words : List ℕ) → Gives r marked (past_used owed) a words
    → Gives r marked owed a words
still_past r marked [] a words g = g
still_past r marked ([] ∷ blocks) a words g = past g
still_past r marked ((x ∷ items) ∷ blocks) a words g = g

-- a file has two blocks at most
line_two : (f : File) → length (line f) ≤ 2
unfolding line
line_two f = go f.turned (full_in f.low.number f.low.slot) (full_in f.high.number f.high.slot) (one f.low.number f.low.slot)
    (one f.high.number f.high.slot)
  where
    one : (b : ℕ) (x : Slot) → length (full_in b x) ≤ 1
    one b Empty = omega arith
    one b Taken = omega arith
    one b (Part n) = omega arith
    one b (Full n at e) = omega arith

    go : (t : Bool) (low high : List Block) → length low ≤ 1 → length high ≤ 1 → length (in_order t low high) ≤ 2
    go true low high l h = omega (arith, length-append high low)
    go false low high l h = omega (arith, length-append low high)

-- ---- a block that is looked at

module _ (w b r n at : ℕ) (xs : List ℕ) (within : at ≤ n) (inside : b * w + n ≤ length xs) (marked : Bool) (blocks : List (List Item)) where
  long_part : (c : ℕ) → c ≤ n - at → length (part_of (b * w + at) c xs) ≡ c
  long_part c l = length_part (b * w + at) c xs (omega arith)

  error_told_lem : (t : Bool) (e : Checked) (items : List Item) (other : Got) → t ≡ true
      → Gives r marked ((wrong e ∷ items) ∷ blocks) (got (cond t (Error e) other)) (shown xs (cond t (Error e) other))
  error_told_lem true e items other q = tells e
  error_told_lem false e items other q = true_not_false q refl

  words_told : (t u : Bool) (x : Got) → t ≡ false → leb r (n - at) ≡ u → 1 ≤ n - at
      → Gives r marked (map word (part_of (b * w + at) (n - at) xs) ∷ blocks)
      (got (cond t x (cond u (Record (b * w + at) r) (Leftover (b * w + at) (n - at)))))
      (shown xs (cond t x (cond u (Record (b * w + at) r) (Leftover (b * w + at) (n - at)))))
  words_told true u x q l some = true_not_false refl q
  words_told false true x q l some =
      let enough = leb-true r (n - at) l in
      let sum : n - at ≡ r + (n - (at + r)) = omega arith in
      subst (λ (ws : List ℕ). Gives r marked (map word ws ∷ blocks) (got (Record (b * w + at) r)) (part_of (b * w + at) r xs))
      (sym (ap (λ (i : ℕ). part_of (b * w + at) i xs) sum ∙ part_join (b * w + at) r (n - (at + r)) xs))
      (gives (b * w + at) (part_of (b * w + at) r xs) (part_of (b * w + at + r) (n - (at + r)) xs) (long_part r enough))
  words_told false false x q l some =
      leaves (b * w + at) (n - at) (part_of (b * w + at) (n - at) xs) (long_part (n - at) (omega arith)) some (leb-false r (n - at) l)

  -- its check error, or its next words
  check_told : (i : ℕ) (c : Checked) → 1 ≤ length (wrongs_by i c ++ map word (part_of (b * w + at) (n - at) xs))
      → Gives r marked ((wrongs_by i c ++ map word (part_of (b * w + at) (n - at) xs)) ∷ blocks)
      (got (cond (ltb 0 i) (Error c) (cond (leb r (n - at)) (Record (b * w + at) r) (Leftover (b * w + at) (n - at)))))
      (shown xs (cond (ltb 0 i) (Error c) (cond (leb r (n - at)) (Record (b * w + at) r) (Leftover (b * w + at) (n - at)))))
  check_told (suc i) c some = error_told_lem (ltb 0 (suc i)) c _ _ (lt-ltb 0 (suc i) (omega arith))
  check_told zero c some =
      words_told (ltb 0 0) (leb r (n - at)) (Error c) refl refl
      (omega (arith, some, length-map (part_of (b * w + at) (n - at) xs) word, long_part (n - at) (omega arith)))

  -- its read error
  read_told : (t : Bool) (x : ℕ) (c : Checked) (items : List Item) (other : Got) → t ≡ true → (x ≡ 0 → ⊥)
      → Gives r marked ((wrongs x c ++ items) ∷ blocks) (got (cond t (Error (with_error x c)) other)) (shown xs (cond t (Error (with_error x c)) other))
  read_told true zero c items other q some = absurd (some refl)
  read_told true (suc x) c items other q some = tells (with_error (suc x) c)
  read_told false x c items other q some = true_not_false q refl

  block_given : (e : Arrival) → 1 ≤ length (unread_in w xs (block b n at e))
      → Gives r marked (unread_in w xs (block b n at e) ∷ blocks) (got (found_in (b * w) r (Full n at e))) (shown xs (found_in (b * w) r (Full n at e)))
  block_given e = go (eqb e.failed 0) refl
    where
      To : Arrival → Got → Type 0
      To a g = Gives r marked (unread_in w xs (block b n at a) ∷ blocks) (got g) (shown xs g)

      go : (t : Bool) → eqb e.failed 0 ≡ t → 1 ≤ length (unread_in w xs (block b n at e)) → To e (found_in (b * w) r (Full n at e))
      go true q =
          subst (λ (a : Arrival). 1 ≤ length (unread_in w xs (block b n at a)) → To a (found_in (b * w) r (Full n at a)))
          (ap (λ (m : ℕ). arrival m e.check) (sym (eqb-true e.failed 0 q))) (check_told e.check.error e.check)
      go false q = λ some.
          let due : error_due e ≡ e.failed = cond_false e.check.error e.failed q in
          let failed : e.failed ≡ 0 → ⊥ = λ z. true_not_false (eq-eqb e.failed 0 z) q in
          subst (λ (m : ℕ). To e
          (cond (ltb 0 (error_due e)) (Error (with_error m e.check)) (cond (leb r (n - at)) (Record (b * w + at) r) (Leftover (b * w + at) (n - at))))) (sym due)
          (read_told (ltb 0 (error_due e)) e.failed e.check _ _ (lt-ltb 0 (error_due e) (omega (arith, due, failed))) failed)

-- ---- get

found_given : (m w : ℕ) (f : File) → Sound m w f → (xs : List ℕ) → m * w ≤ length xs
    → (came : List Came) (gone : List Item) (owed : List (List Item))
    → Fresh owed → Brought w f xs came gone owed → Gives f.rlen f.marked owed (got (found w f)) (shown xs (found w f))
unfolding found
found_given m w f S xs long came gone owed fresh T = go (oldest f) (aged f)
  where
    To : List (List Item) → Got → Type 0
    To bs g = Gives f.rlen f.marked bs (got g) (shown xs g)

    none : (t : Bool) → f.marked ≡ t → To [] (found_none t)
    none true e = ends e
    none false e = waits e

    go : (k : Side) → Aged f k → To owed (cond (is_side k) (found_in (start_at f w k) f.rlen (slot_at f k)) (found_none f.marked))
    go Neither (no_block e) =
        subst (λ (bs : List (List Item)). To bs (found_none f.marked)) (sym (T.lies ∙ ap (map (unread_in w xs)) e)) (none f.marked refl)
    go k (old _ n at e rest s x l left moved) =
        let N = numbers m w f k n at e S x in
        let own = owns_used m w f k S s (ap is_empty x) in
        let inside : (buffer_at f k).number * w + n ≤ m * w =
        buffer_inside m w (buffer_at f k).number n (number_less m w f S k own) (omega (arith, size_fits m w f S, N.fit)) in
        let z : owed ≡ unread_in w xs (block (buffer_at f k).number n at e) ∷ map (unread_in w xs) rest = T.lies ∙ ap (map (unread_in w xs)) l in
        subst (To owed) (sym (cond_true (found_in (start_at f w k) f.rlen (slot_at f k)) (found_none f.marked) s
        ∙ ap (found_in (start_at f w k) f.rlen) x))
        (subst (λ (bs : List (List Item)). To bs (found_in (start_at f w k) f.rlen (Full n at e))) (sym z)
        (block_given w (buffer_at f k).number f.rlen n at xs N.place (le_trans inside long) f.marked (map (unread_in w xs) rest) e
        (fresh_head (unread_in w xs (block (buffer_at f k).number n at e)) (map (unread_in w xs) rest) (subst Fresh z fresh))))

file_given : (m w : ℕ) (f : File) → Sound m w f → (xs : List ℕ) → m * w ≤ length xs
    → (came : List Came) (gone : List Item) (owed : List (List Item))
    → Brought w f xs came gone owed → Gives f.rlen f.marked owed (got (get_from w f).got) (shown xs (get_from w f).got)
unfolding get_from looked_at
file_given m w f S xs long came gone owed T =
    let P = passed_sound m w f S in
    let h = passed (passed f) in
    let a = got (found w h) in
    let two : length owed ≤ 2 = subst (λ (bs : List (List Item)). length bs ≤ 2) (sym T.lies)
    (omega (arith, length-map (line f) (unread_in w xs), line_two f)) in
    still_past f.rlen f.marked owed a (shown xs (found w h))
    (still_past f.rlen f.marked (past_used owed) a (shown xs (found w h))
    (subst (λ (r : ℕ). Gives r f.marked (past_used (past_used owed)) a (shown xs (found w h))) (looked_same f).rlen
    (subst (λ (t : Bool). Gives h.rlen t (past_used (past_used owed)) a (shown xs (found w h))) (looked_marked f)
    (found_given m w h (passed_sound m w (passed f) P) xs long came gone (past_used (past_used owed)) (past_both owed two)
    (passed_brought m w (passed f) P xs long came gone (past_used owed) (passed_brought m w f S xs long came gone owed T))))))

-- ---- one answer alone is right

words_in : List Item → List ℕ
words_in [] = []
words_in (word x ∷ items) = x ∷ words_in items
words_in (wrong e ∷ items) = words_in items

words_back : (ws : List ℕ) → words_in (map word ws) ≡ ws
unfolding words_in
words_back [] = refl
words_back (x ∷ ws) = ap (λ (l : List ℕ). x ∷ l) (words_back ws)

-- what the cases come to: the number, what was found and the words
record Right : Type 0 where
  number : ℕ
  found : Checked
  words : List ℕ

abbrev pick : ℕ → List ℕ → Right
pick r ws = cond (leb r (length ws)) (record { number = 0; found = unchecked; words = take r ws }) (record { number = 4; found = unchecked; words = ws })

right_of : ℕ → Bool → List (List Item) → Right
right_of r marked [] = record { number = cond marked 2 1; found = unchecked; words = [] }
right_of r marked ([] ∷ blocks) = right_of r marked blocks
right_of r marked ((word x ∷ items) ∷ blocks) = pick r (x ∷ words_in items)
right_of r marked ((wrong e ∷ items) ∷ blocks) = record { number = 3; found = e; words = [] }

abbrev number_in : Added → ℕ
number_in nothing = 0
number_in (working u) = 0
number_in (reported result delivery u) = 0
number_in (got g) = got_number g
number_in (returned entered p) = 0
number_in (runs p) = 0

abbrev found_by : Added → Checked
found_by nothing = unchecked
found_by (working u) = unchecked
found_by (reported result delivery u) = unchecked
found_by (got g) = got_found g
found_by (returned entered p) = unchecked
found_by (runs p) = unchecked

module _ (r : ℕ) (some : 0 < r) (marked : Bool) where
  right_words : (ws : List ℕ) (blocks : List (List Item)) → 0 < length ws → right_of r marked (map word ws ∷ blocks) ≡ pick r ws
  unfolding right_of
  right_words [] blocks h = absurd (omega arith)
  right_words (x ∷ ws) blocks h = ap (λ (l : List ℕ). pick r (x ∷ l)) (words_back ws)

  gives_right : (owed : List (List Item)) (a : Added) (words : List ℕ) → Gives r marked owed a words
      → right_of r marked owed ≡ record { number = number_in a; found = found_by a; words = words }
  unfolding right_of
  gives_right owed a words (past {blocks = bs} g) = gives_right bs a words g
  gives_right owed a words (tells e) = refl
  gives_right owed a words (gives start ws more {blocks = bs} l) =
      let long : length (words ++ more) ≡ length words + length more = length-append words more in
      right_words (words ++ more) bs (omega (arith, l))
      ∙ cond_true _ _ (le-leb r (length (words ++ more)) (omega (arith, l)))
      ∙ ap (λ (v : List ℕ). record { number = 0; found = unchecked; words = v }) (take_at words more r l)
  gives_right owed a words (leaves start n ws {blocks = bs} l h k) =
      right_words words bs (omega (arith, l)) ∙ cond_false _ _ (lt-leb r (length words) (omega (arith, l)))
  gives_right owed a words (ends e) = ap (λ (t : Bool). record { number = cond t 2 1; found = unchecked; words = [] }) e
  gives_right owed a words (waits e) = ap (λ (t : Bool). record { number = cond t 2 1; found = unchecked; words = [] }) e

  pub gives_one : (owed : List (List Item)) (x y : Got) (ws vs : List ℕ) → Gives r marked owed (got x) ws → Gives r marked owed (got y) vs
      → (got_number x ≡ got_number y) × (got_found x ≡ got_found y) × (ws ≡ vs)
  gives_one owed x y ws vs g h =
      let e = sym (gives_right owed (got x) ws g) ∙ gives_right owed (got y) vs h in
      (ap (λ (v : Right). v.number) e, ap (λ (v : Right). v.found) e, ap (λ (v : Right). v.words) e)

module _ (s : State) (area : List ℕ) (ledgers : ℕ → Ledger) (K : Kept s area ledgers) (i : ℕ) where
  pub ledger_got : (answer_of s area (get i)).refusal ≡ 0
      → Gives (ledgers i).chosen.rlen (ledgers i).marked (ledgers i).owed (answer_of s area (get i)).added (answer_of s area (get i)).shows
  unfolding answer_of
  ledger_got z =
      let f = file_at s i in
      let o = get_open s area i z in
      let u = get_input s area i z in
      let F = get_finds s area i z in
      subst (λ (g : Got). Gives (ledgers i).chosen.rlen (ledgers i).marked (ledgers i).owed (got g) (get_words s area i)) (sym F.0)
      (subst (Gives (ledgers i).chosen.rlen (ledgers i).marked (ledgers i).owed (got (get_from s.w f).got)) (sym F.2)
      (subst (λ (r : ℕ). Gives r (ledgers i).marked (ledgers i).owed (got (get_from s.w f).got) (shown area (get_from s.w f).got))
      (sym ((K.told i).chose o).rlens)
      (subst (λ (t : Bool). Gives f.rlen t (ledgers i).owed (got (get_from s.w f).got) (shown area (get_from s.w f).got))
      (sym ((K.told i).marks o u))
      (file_given s.m s.w f ((sound_facts s K.good.right).files i o) area (get_area_long s area i z) (ledgers i).came (ledgers i).gone
      (ledgers i).owed ((K.told i).brought o u)))))

  -- ---- skip

  skip_noted : (answer_of s area (skip i)).refusal ≡ 0 → noted i (skip i) (answer_of s area (skip i)) (ledgers i) ≡ with_skip (ledgers i)
  skip_noted z =
      cond_true (cond (eqb i i) (with_skip (ledgers i)) (ledgers i)) (ledgers i) (eq-eqb (answer_of s area (skip i)).refusal 0 z)
      ∙ cond_true (with_skip (ledgers i)) (ledgers i) (eq-eqb i i refl)

  full_owed : is_side (oldest (file_at s i)) ≡ true → (ledgers i).owed ≡ unread_of s.w (file_at s i) area
      → (ledgers i).owed ≡ first_of (ledgers i).owed ∷ rest_of (ledgers i).owed
  full_owed full lies = go (oldest (file_at s i)) (aged (file_at s i)) full
    where
      go : (k : Side) → Aged (file_at s i) k → is_side k ≡ true → (ledgers i).owed ≡ first_of (ledgers i).owed ∷ rest_of (ledgers i).owed
      go Neither (no_block e) h = true_not_false h refl
      go k (old _ n at e rest h x l left moved) t =
          let z = lies ∙ ap (map (unread_in s.w area)) l in
          z ∙ sym (ap (λ (v : List (List Item)). first_of v ∷ rest_of v) z)

  pub ledger_skipped : (answer_of s area (skip i)).refusal ≡ 0
      → Drops (ledgers i) (noted i (skip i) (answer_of s area (skip i)) (ledgers i))
      (unread_of (answer_of s area (skip i)).state.w (file_at (answer_of s area (skip i)).state i) (answer_of s area (skip i)).area)
  unfolding answer_of
  ledger_skipped z =
      let o = skip_open s i z in
      let u = skip_input s i z in
      let N = skip_noted z in
      let D = (skip_drops s i z).0 in
      let S = drop_same (file_at s i) in
      let after = ((noted_kept s area ledgers K (skip i)).told i).brought (ap (λ (f : File). f.opened) D ∙ S.opened ∙ o)
      (ap (λ (f : File). f.output) D ∙ S.output ∙ u) in
      record {
        oldest = first_of (ledgers i).owed;
        others = rest_of (ledgers i).owed;
        was = full_owed (skip_full s i z) ((K.told i).brought o u).lies;
        gone = ap (λ (g : Ledger). g.gone) N;
        owed = ap (λ (g : Ledger). g.owed) N;
        lies = sym after.lies ∙ ap (λ (g : Ledger). g.owed) N;
      }
