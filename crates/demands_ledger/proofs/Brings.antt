-- The ledger of an input file: a block delivered, a block dropped, what get gives. Assumes nothing.
use mathlib.Core.Path.{◌≡◌, refl, sym, ap, ap₂, subst, ◌∙◌}
use mathlib.Core.Logic.{inl, inr}
use mathlib.Core.Bool.{Bool, true, false, cond}
use mathlib.Core.List.{List, [], ◌∷◌, ◌++◌, map, append_assoc, append-nil}
use Prim.Native.Nat.{ℕ, zero, suc, ◌+◌, ◌-◌, ◌*◌, ◌≤◌, ◌<◌}
use native.Mathlib.Omega.{arith}
use borrow.Author.Tests.{leb-true, leb-false, ltb-false}
use lib.Dec.{leb, ltb}
use lib.ListN.{length, length-append, length-map}
use lib.Seq.{drop-append_seam}
use Rattle.area.specs.Parts.{part_of}
use Rattle.area.proofs.Walks.{true_not_false}
use Rattle.area.proofs.Marks.{cond_true}
use Rattle.area.proofs.Pastes.{length_part}
use Rattle.block.specs.Blocks.{judged_block}
use Rattle.file.specs.declared.Arrival.{Arrival}
use Rattle.file.specs.Arrivals.{error_due, after_told}
use Rattle.file.proofs.ArrivalLaws.{arrival, told_nothing, told_all}
use Rattle.file.specs.declared.Slot.TheVariants.{Empty, Full}
use Rattle.file.specs.declared.Side.{Side}
use Rattle.file.specs.declared.Side.TheVariants.{Neither}
use Rattle.file.specs.declared.File.{File}
use Rattle.file.specs.Slots.{is_empty}
use Rattle.file.specs.Sides.{buffer_at, slot_at, is_side, oldest}
use Rattle.file.specs.Fills.{with_slot, emptied_at, without_oldest}
use Rattle.word.specs.CheckWords.{next_number}
use Rattle.file_input.specs.Ages.{Block, line}
use Rattle.file_input.proofs.Ages.{block, Aged, no_block, old, aged}
use Rattle.file_input.specs.Gets.{is_used_up, passed, words_given}
use Rattle.state_sound.proofs.FileFacts.{Sound}
use Rattle.state_sound.proofs.FilesKept.{owns_used}
use Rattle.state_sound.proofs.Changes.{numbers}
use Rattle.state_sound.proofs.Inside.{number_less, size_fits, buffer_inside}
use Rattle.demands_ledger.specs.Ledgers.{Item, word, Came, wrongs, contents_of, past_used, without, first_of, rest_of}
use Rattle.demands_ledger.specs.Blocks.{unread_in, unread_of, joined, contents}
use Rattle.demands_ledger.proofs.Told.{All, none, more, UntoldFirst, Brought}
use Rattle.demands_ledger.proofs.Lists.{joined_last, contents_last, number_last, map_append, all_append}
use Rattle.demands_ledger.proofs.Sides.{Same, slot_same, block_stays}

tail_all : {A : Type 0} (P : A → Type 0) (x : A) (xs : List A) → All P (x ∷ xs) → All P xs
tail_all P x xs (more h p) = p

pub head_all : {A : Type 0} (P : A → Type 0) (x : A) (xs : List A) → All P (x ∷ xs) → P x
head_all P x xs (more h p) = h

module _ (w : ℕ) (f g : File) (xs zs : List ℕ) (came : List Came) (gone : List Item) (owed : List (List Item)) (A : Same f g)
    (T : Brought w f xs came gone owed) where
  same_contents : (bs : List Came) → contents f.sequence f.check 1 bs ≡ contents g.sequence g.check 1 bs
  same_contents bs = ap₂ (λ (s c : Bool). contents s c 1 bs) (sym A.sequence) (sym A.check)

  -- no block more or less
  pub brought_still : unread_of w f zs ≡ unread_of w f xs → line g ≡ line f → g.block ≡ f.block → Brought w g zs came gone owed
  brought_still still l n = record {
    lies = T.lies ∙ sym still ∙ sym (ap (map (unread_in w zs)) l);
    items = T.items ∙ same_contents came;
    number = n ∙ T.number;
    untold = subst (All UntoldFirst) (sym l) T.untold;
  }

  -- a block is delivered
  pub brought_more : (y : Came) (b n : ℕ) → unread_of w f zs ≡ unread_of w f xs
      → line g ≡ line f ++ (block b n 0 (arrival y.failed (judged_block y.words f.sequence f.check f.block).found) ∷ [])
      → g.block ≡ next_number f.block
      → unread_in w zs (block b n 0 (arrival y.failed (judged_block y.words f.sequence f.check f.block).found))
      ≡ contents_of f.sequence f.check y.failed (judged_block y.words f.sequence f.check f.block).found y.words
      → Brought w g zs (came ++ (y ∷ [])) gone
      (owed ++ (contents_of f.sequence f.check y.failed (judged_block y.words f.sequence f.check f.block).found y.words ∷ []))
  brought_more y b n still l e c = record {
    lies =
        ap₂ (λ (u : List (List Item)) (v : List Item). u ++ (v ∷ [])) (T.lies ∙ sym still) (sym c)
        ∙ sym (map_append (unread_in w zs) (line f) (new ∷ [])) ∙ sym (ap (map (unread_in w zs)) l);
    items =
        ap (λ (v : List Item). gone ++ v) (joined_last owed now) ∙ sym (append_assoc gone (joined owed) now)
        ∙ ap (λ (v : List Item). v ++ now) T.items
        ∙ ap (λ (k : ℕ). contents f.sequence f.check 1 came ++ contents_of f.sequence f.check y.failed
        (judged_block y.words f.sequence f.check k).found y.words) T.number
        ∙ sym (contents_last f.sequence f.check 1 came y) ∙ same_contents (came ++ (y ∷ []));
    number = e ∙ ap next_number T.number ∙ sym (number_last 1 came y);
    untold = subst (All UntoldFirst) (sym l) (all_append UntoldFirst (line f) (new ∷ []) T.untold (more (inr refl) none));
  }
    where
      new : Block
      new = block b n 0 (arrival y.failed (judged_block y.words f.sequence f.check f.block).found)

      now : List Item
      now = contents_of f.sequence f.check y.failed (judged_block y.words f.sequence f.check f.block).found y.words

  -- the oldest block is dropped
  pub brought_less : (b : Block) (rest : List Block) → line f ≡ b ∷ rest → line g ≡ rest → g.block ≡ f.block
      → Brought w g xs came (gone ++ first_of owed) (rest_of owed) × (owed ≡ unread_in w xs b ∷ map (unread_in w xs) rest)
  unfolding joined
  brought_less b rest l r n =
      let z : owed ≡ unread_in w xs b ∷ map (unread_in w xs) rest = T.lies ∙ ap (map (unread_in w xs)) l in (
        record {
          lies = ap rest_of z ∙ sym (ap (map (unread_in w xs)) r);
          items =
              ap (λ (v : List (List Item)). (gone ++ first_of v) ++ joined (rest_of v)) z
              ∙ append_assoc gone (unread_in w xs b) (joined (map (unread_in w xs) rest))
              ∙ ap (λ (v : List (List Item)). gone ++ joined v) (sym z) ∙ T.items ∙ same_contents came;
          number = n ∙ T.number;
          untold = subst (All UntoldFirst) (sym r) (tail_all UntoldFirst b rest (subst (All UntoldFirst) l T.untold));
        },
        z,
      )

  -- some of the oldest block is given
  pub brought_given : (b c : Block) (rest : List Block) (now : List Item) → line f ≡ b ∷ rest → line g ≡ c ∷ rest → g.block ≡ f.block
      → UntoldFirst c
      → unread_in w xs b ≡ now ++ unread_in w xs c → Brought w g xs came (gone ++ now) (without (length now) owed)
  unfolding joined
  brought_given b c rest now l r n first u =
      let z : owed ≡ (now ++ unread_in w xs c) ∷ map (unread_in w xs) rest =
      T.lies ∙ ap (map (unread_in w xs)) l ∙ ap (λ (v : List Item). v ∷ map (unread_in w xs) rest) u in
      let y : without (length now) owed ≡ unread_in w xs c ∷ map (unread_in w xs) rest =
      ap (without (length now)) z ∙ ap (λ (v : List Item). v ∷ map (unread_in w xs) rest) (drop-append_seam now (unread_in w xs c)) in
      record {
        lies = y ∙ sym (ap (map (unread_in w xs)) r);
        items =
            ap (λ (v : List (List Item)). (gone ++ now) ++ joined v) y
            ∙ append_assoc gone now (unread_in w xs c ++ joined (map (unread_in w xs) rest))
            ∙ ap (λ (v : List Item). gone ++ v) (sym (append_assoc now (unread_in w xs c) (joined (map (unread_in w xs) rest))))
            ∙ ap (λ (v : List (List Item)). gone ++ joined v) (sym z) ∙ T.items ∙ same_contents came;
        number = n ∙ T.number;
        untold = subst (All UntoldFirst) (sym r) (more first (tail_all UntoldFirst b rest (subst (All UntoldFirst) l T.untold)));
      }

-- ---- skip

pub skip_brought : (w : ℕ) (f : File) (xs : List ℕ) (came : List Came) (gone : List Item) (owed : List (List Item)) → is_side (oldest f) ≡ true
    → Brought w f xs came gone owed
    → Brought w (without_oldest f) xs came (gone ++ first_of owed) (rest_of owed)
unfolding without_oldest emptied_at
skip_brought w f xs came gone owed full T = go (oldest f) (aged f) full
  where
    go : (k : Side) → Aged f k → is_side k ≡ true → Brought w (with_slot f k Empty false f.block) xs came (gone ++ first_of owed) (rest_of owed)
    go Neither (no_block e) s = true_not_false s refl
    go k (old _ n at e rest s x l left moved) t =
        (brought_less w f (with_slot f k Empty false f.block) xs xs came gone owed (slot_same f k Empty false f.block) T
        (block (buffer_at f k).number n at e) rest l (left f.block)
        (block_stays f k Empty false)).0

-- ---- what is left of a block

-- no error is owed of a block of which none is due
pub no_wrongs : (a : Arrival) → error_due a ≡ 0 → wrongs a.failed a.check ≡ []
no_wrongs a h = ap (λ (d : Arrival). wrongs d.failed d.check) (told_all a h)

-- a get that tells an error gives no words, so an error that is still to be told is again of a block of which nothing was given
pub untold_still : (b r n at : ℕ) (e : Arrival) → UntoldFirst (block b n at e) → UntoldFirst (block b n (at + words_given r (Full n at e)) (after_told e))
untold_still b r n at e (inl z) = inl (ap error_due (told_nothing e z) ∙ z)
untold_still b r n at e (inr z) = go (ltb 0 (error_due e)) refl
  where
    go : (t : Bool) → ltb 0 (error_due e) ≡ t → UntoldFirst (block b n (at + words_given r (Full n at e)) (after_told e))
    go true q = inr (let none : words_given r (Full n at e) ≡ 0 = cond_true 0 _ q in omega (arith, z, none))
    go false q = let quiet : error_due e ≡ 0 = omega (arith, ltb-false 0 (error_due e) q) in inl (ap error_due (told_nothing e quiet) ∙ quiet)

module _ (m w : ℕ) (f : File) (S : Sound m w f) (xs : List ℕ) (long : m * w ≤ length xs) where
  -- nothing is left of a block that is used up
  used_nothing : (k : Side) (n at : ℕ) (e : Arrival) → slot_at f k ≡ Full n at e → UntoldFirst (block (buffer_at f k).number n at e) → n ≤ at
      → unread_in w xs (block (buffer_at f k).number n at e) ≡ []
  used_nothing k n at e x (inl z) l =
      let d : n - at ≡ 0 = omega arith in
      ap (λ (l : List Item). l ++ map word (part_of ((buffer_at f k).number * w + at) (n - at) xs)) (no_wrongs e z)
      ∙ ap (λ (i : ℕ). map word (part_of ((buffer_at f k).number * w + at) i xs)) d
  used_nothing k n at e x (inr z) l = let N = numbers m w f k n at e S x in absurd (omega (arith, N.some))

  -- something is left of any other
  some_left : (items : List Item) (rest : List (List Item)) → 1 ≤ length items → past_used (items ∷ rest) ≡ items ∷ rest
  some_left [] rest h = absurd (omega arith)
  some_left (i ∷ items) rest h = refl

  fresh_some : (k : Side) (n at : ℕ) (e : Arrival) → is_side k ≡ true → slot_at f k ≡ Full n at e → at < n
      → 1 ≤ length (unread_in w xs (block (buffer_at f k).number n at e))
  fresh_some k n at e s x l =
      let N = numbers m w f k n at e S x in
      let own = owns_used m w f k S s (ap is_empty x) in
      let inside : (buffer_at f k).number * w + n ≤ m * w =
      buffer_inside m w (buffer_at f k).number n (number_less m w f S k own) (omega (arith, size_fits m w f S, N.fit)) in
      let long_part : length (part_of ((buffer_at f k).number * w + at) (n - at) xs) ≡ n - at =
      length_part ((buffer_at f k).number * w + at) (n - at) xs (omega arith) in
      omega (
        arith,
        length-append (wrongs e.failed e.check) (map word (part_of ((buffer_at f k).number * w + at) (n - at) xs)),
        length-map (part_of ((buffer_at f k).number * w + at) (n - at) xs) word,
        long_part,
      )

  -- "If that block was used up by an earlier get, it first becomes empty and the next oldest is looked at."
  pub passed_brought : (came : List Came) (gone : List Item) (owed : List (List Item)) → Brought w f xs came gone owed
      → Brought w (passed f) xs came gone (past_used owed)
  unfolding passed without_oldest emptied_at
  passed_brought came gone owed T = go (oldest f) (aged f)
    where
      nothing_owed : line f ≡ [] → owed ≡ past_used owed
      nothing_owed e = let z : owed ≡ [] = T.lies ∙ ap (map (unread_in w xs)) e in z ∙ sym (ap past_used z)

      go : (k : Side) → Aged f k → Brought w (cond (is_used_up (slot_at f k)) (with_slot f k Empty false f.block) f) xs came gone (past_used owed)
      go Neither (no_block e) = subst (Brought w f xs came gone) (nothing_owed e) T
      go k (old _ n at e rest s x l left moved) = by (leb n at) refl
        where
          b : Block
          b = block (buffer_at f k).number n at e

          first : UntoldFirst (block (buffer_at f k).number n at e)
          first = head_all UntoldFirst (block (buffer_at f k).number n at e) rest (subst (All UntoldFirst) l T.untold)

          by : (t : Bool) → leb n at ≡ t
              → Brought w (cond (is_used_up (slot_at f k)) (with_slot f k Empty false f.block) f) xs came gone (past_used owed)
          by true q =
              let u = used_nothing k n at e x first (leb-true n at q) in
              let D = brought_less w f (with_slot f k Empty false f.block) xs xs came gone owed (slot_same f k Empty false f.block) T
              (block (buffer_at f k).number n at e) rest l (left f.block)
              (block_stays f k Empty false) in
              let z : owed ≡ [] ∷ map (unread_in w xs) rest = D.1 ∙ ap (λ (v : List Item). v ∷ map (unread_in w xs) rest) u in
              subst (λ (t : Bool). Brought w (cond t (with_slot f k Empty false f.block) f) xs came gone (past_used owed)) (sym (ap is_used_up x ∙ q))
              (subst (λ (v : List Item). Brought w (with_slot f k Empty false f.block) xs came v (past_used owed))
              (ap (λ (v : List (List Item)). gone ++ first_of v) z ∙ append-nil gone)
              (subst (Brought w (with_slot f k Empty false f.block) xs came (gone ++ first_of owed)) (ap rest_of z ∙ sym (ap past_used z)) D.0))
          by false q =
              let more_left = fresh_some k n at e s x (leb-false n at q) in
              let z : owed ≡ unread_in w xs (block (buffer_at f k).number n at e) ∷ map (unread_in w xs) rest = T.lies ∙ ap (map (unread_in w xs)) l in
              let y : owed ≡ past_used owed =
              z ∙ sym (ap past_used z ∙ some_left (unread_in w xs (block (buffer_at f k).number n at e)) (map (unread_in w xs) rest) more_left) in
              subst (λ (t : Bool). Brought w (cond t (with_slot f k Empty false f.block) f) xs came gone (past_used owed)) (sym (ap is_used_up x ∙ q))
              (subst (Brought w f xs came gone) y T)
