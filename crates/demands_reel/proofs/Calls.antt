-- The same of the pack's own calls, whatever they are: what the calls of one room put on a reel, the calls of another get from it, with no error. Assumes nothing.
use mathlib.Core.Path.{◌≡◌, refl, sym, ap, ap₂, ◌∙◌}
use mathlib.Core.Bool.{Bool, true, false, ◌&&◌}
use mathlib.Core.List.{List, [], ◌∷◌, ◌++◌, map, append-nil}
use Prim.Native.Nat.{ℕ, ◌+◌, ◌^◌, ◌≤◌, ◌<◌}
use native.Mathlib.Omega.{arith}
use borrow.Author.Tests.{leb-true, le-leb}
use lib.Dec.{leb}
use lib.ListN.{length}
use Rattle.area.specs.Lists.{all_of}
use Rattle.area.specs.Parts.{is_word}
use Rattle.area.proofs.Walks.{and_left, and_right, and_both, all_append}
use Rattle.word.specs.CheckWords.{extra, next_number}
use Rattle.block.specs.Blocks.{judged_block}
use Rattle.state.specs.declared.State.{State}
use Rattle.state.specs.Places.{file_at}
use Rattle.pack_start.specs.declared.Masks.{Masks}
use Rattle.pack.specs.Calls.{Call, fresh, close, answer_of}
use Rattle.demands_ledger.specs.Ledgers.{Item, word, Ledger, blank_ledger, data_of, wrongs_by, state_after, area_after, ledger_after}
use Rattle.demands_ledger.specs.Blocks.{blocks_in, checked, all_checked, joined, contents, Divided, done, next}
use Rattle.demands_ledger.proofs.Frames.{Kept}
use Rattle.demands_ledger.proofs.Always.{always, started as begun}
use Rattle.demands_ledger.proofs.Lists.{map_append}
use Rattle.demands_ledger.proofs.Shown.{data_checked, wrote_data}
use Rattle.demands.specs.Demands.{data_in}
use Rattle.demands.proofs.Blocks.{ledger_writes, ledger_closed, ledger_reads}
use Rattle.tape.specs.Reels.{Piece, Words, TapeMark, Reel, reel_of}
use Rattle.tape.specs.Images.{is_piece, image_bytes}
use Rattle.tape.proofs.Laws.Reading.{written_read}
use Rattle.demands_reel.proofs.Blocks.{next_small, no_error, piece_checked}
use Rattle.demands_reel.specs.Posts.{well}

-- ---- data words in blocks

-- what a block has: 1 to `size` data words, each below 2^36
abbrev is_data : ℕ → List ℕ → Bool
is_data size d = leb 1 (length d) && (leb (length d) size && all_of is_word d)

module _ (size : ℕ) (d : List ℕ) (good : is_data size d ≡ true) where
  data_long : 1 ≤ length d
  data_long = leb-true 1 (length d) (and_left (leb 1 (length d)) _ good)

  data_fits : length d ≤ size
  data_fits = leb-true (length d) size (and_left (leb (length d) size) _ (and_right (leb 1 (length d)) _ good))

  data_are_words : all_of is_word d ≡ true
  data_are_words = and_right (leb (length d) size) _ (and_right (leb 1 (length d)) _ good)

divided_data : (r size : ℕ) (seals : List ℕ) (k : ℕ) (ds : List (List ℕ)) → Divided r size seals k ds → all_of is_word (joined ds) ≡ true
    → all_of (is_data size) ds ≡ true
unfolding all_of joined
divided_data r size seals k [] done words = refl
divided_data r size seals k (d ∷ ds) (next S D) words =
    let both = sym (all_append is_word d (joined ds)) ∙ words in
    and_both _ _
    (and_both _ _ (le-leb 1 (length d) (omega (arith, S.some)))
    (and_both _ _ (le-leb (length d) size S.fits) (and_left (all_of is_word d) _ both)))
    (divided_data r size seals (k + length d) ds D (and_right (all_of is_word d) _ both))

-- blocks that carry their check words, delivered in order by good reads: their data words, and no error
contents_back : (s c : Bool) (size k : ℕ) → k < 2 ^ 15 → (ds : List (List ℕ)) → all_of (is_data size) ds ≡ true
    → contents s c k (map well (all_checked s c k ds)) ≡ map word (joined ds)
unfolding all_of contents all_checked joined
contents_back s c size k h [] good = refl
contents_back s c size k h (d ∷ ds) good =
    let this = and_left (is_data size d) _ good in
    let b = checked s c k d in
    ap₂
    (λ (e : ℕ) (l : List ℕ). (wrongs_by e (judged_block b s c k).found ++ map word l) ++ contents s c (next_number k) (map well (all_checked s c (next_number k) ds)))
    (no_error s c k d h (data_long size d this) (data_are_words size d this)) (data_checked s c k d)
    ∙ ap (λ (l : List Item). map word d ++ l) (contents_back s c size (next_number k) (next_small k) ds (and_right (is_data size d) _ good))
    ∙ sym (map_append word d (joined ds))

blocks_good : (s c : Bool) (size k : ℕ) → size + extra s c ≤ 1024 → (ds : List (List ℕ)) → all_of (is_data size) ds ≡ true
    → all_of is_piece (map Words (all_checked s c k ds)) ≡ true
unfolding all_of all_checked
blocks_good s c size k small [] good = refl
blocks_good s c size k small (d ∷ ds) good =
    let this = and_left (is_data size d) _ good in
    and_both _ _
    (piece_checked s c k d (data_are_words size d this) (data_long size d this) (omega (arith, small, data_fits size d this)))
    (blocks_good s c size (next_number k) small ds (and_right (is_data size d) _ good))

-- the blocks of a reel without marks
blocks_of : List Piece → List (List ℕ)
blocks_of [] = []
blocks_of (Words ws ∷ ps) = ws ∷ blocks_of ps
blocks_of (TapeMark ∷ ps) = blocks_of ps

blocks_of_lem : (bs : List (List ℕ)) → blocks_of (map Words bs) ≡ bs
unfolding blocks_of
blocks_of_lem [] = refl
blocks_of_lem (b ∷ bs) = ap (λ (l : List (List ℕ)). b ∷ l) (blocks_of_lem bs)

-- ---- two rooms, by their ledgers

module _ (s : State) (area : List ℕ) (ledgers : ℕ → Ledger) (K : Kept s area ledgers) (i : ℕ) (o : (file_at s i).opened ≡ true)
    (u : (file_at s i).output ≡ true) (z : (answer_of s area (close i)).refusal ≡ 0) (words : all_of is_word (ledgers i).puts ≡ true)
    (small : (file_at s i).size + extra (file_at s i).sequence (file_at s i).check ≤ 1024) where
  abbrev datas : List (List ℕ)
  datas = data_in (file_at s i) (ledgers i).sent

  datas_good : all_of (is_data (file_at s i).size) datas ≡ true
  datas_good =
      let T = (K.told i).wrote o u in
      let all : all_of is_word (joined T.data_words_lem) ≡ true =
      and_left (all_of is_word (joined T.data_words_lem)) _ (sym (all_append is_word (joined T.data_words_lem) _) ∙ ap (all_of is_word) T.words ∙ words) in
      let whole = divided_data (file_at s i).rlen (file_at s i).size (ledgers i).seals 0 T.data_words_lem T.sized all in
      let split : datas ++ data_in (file_at s i) (blocks_in s.w (file_at s i) area) ≡ T.data_words_lem =
      sym (map_append (data_of (file_at s i).sequence (file_at s i).check) (ledgers i).sent (blocks_in s.w (file_at s i) area))
      ∙ wrote_data s.w (file_at s i) area (ledgers i).puts (ledgers i).sent (ledgers i).seals T in
      and_left (all_of (is_data (file_at s i).size) datas) _
      (sym (all_append (is_data (file_at s i).size) datas _) ∙ ap (all_of (is_data (file_at s i).size)) split ∙ whole)

  sent_is : (ledgers i).sent ≡ all_checked (file_at s i).sequence (file_at s i).check 1 datas
  sent_is = (ledger_writes s area ledgers K i o u).checks

  -- the image of the blocks handed out is read as those blocks
  sent_back : (bcd : Bool) (came : List (List ℕ)) → map Words came ≡ (reel_of (image_bytes bcd (map Words (ledgers i).sent))).pieces → came ≡ (ledgers i).sent
  sent_back bcd came e =
      let good : all_of is_piece (map Words (ledgers i).sent) ≡ true =
      ap (λ (bs : List (List ℕ)). all_of is_piece (map Words bs)) sent_is
      ∙ blocks_good (file_at s i).sequence (file_at s i).check (file_at s i).size 1 small datas datas_good in
      sym (blocks_of_lem came)
      ∙ ap blocks_of (e ∙ ap (λ (r : Reel). r.pieces) (written_read bcd (map Words (ledgers i).sent) good))
      ∙ blocks_of_lem (ledgers i).sent

  pub posted_ledgers : (t : State) (zs : List ℕ) (others : ℕ → Ledger) → Kept t zs others → (j : ℕ) → (file_at t j).opened ≡ true → (file_at t j).output ≡ false
      → (file_at t j).sequence ≡ (file_at s i).sequence → (file_at t j).check ≡ (file_at s i).check
      → (bcd : Bool) (blocks : List (List ℕ)) → (others j).came ≡ map well blocks → map Words blocks ≡ (reel_of (image_bytes bcd (map Words (ledgers i).sent))).pieces
      → joined (others j).owed ≡ [] → (others j).gone ≡ map word (ledgers i).puts
  posted_ledgers t zs others L j p v same-sequence same_check bcd blocks good e all =
      sym (append-nil (others j).gone) ∙ ap (λ (l : List Item). (others j).gone ++ l) (sym all)
      ∙ (ledger_reads t zs others L j p v).items
      ∙ ap₂ (λ (a b : Bool). contents a b 1 (others j).came) same-sequence same_check
      ∙ ap (contents (file_at s i).sequence (file_at s i).check 1) (good ∙ ap (map well) (sent_back bcd blocks e ∙ sent_is))
      ∙ contents_back (file_at s i).sequence (file_at s i).check (file_at s i).size 1 (omega arith) datas datas_good
      ∙ ap (map word) (ledger_closed s area ledgers K i o u z)

-- Two rooms, each from a fresh start that is accepted, then any calls, each given the state and the area that the last one left. In the one an output file i can be
-- closed, so that all that was put is handed out; in the other an input file j with the same fields chosen was brought the blocks of the first room's image, in their
-- order, and nothing is owed any more. Then what get gave in the other room is the words put in the first, in order, each once, and no error.
module _ (s₀ : State) (area₀ : List ℕ) (m w : ℕ) (masks : Masks) (started : (answer_of s₀ area₀ (fresh m w masks)).refusal ≡ 0) (calls : List Call) (i : ℕ)
    (t₀ : State) (zs₀ : List ℕ) (n v : ℕ) (marks : Masks) (begins : (answer_of t₀ zs₀ (fresh n v marks)).refusal ≡ 0) (others : List Call) (j : ℕ) where
  abbrev wrote : State
  wrote = state_after (answer_of s₀ area₀ (fresh m w masks)).state area₀ calls

  abbrev wrote_area : List ℕ
  wrote_area = area_after (answer_of s₀ area₀ (fresh m w masks)).state area₀ calls

  abbrev puts : Ledger
  puts = ledger_after i (answer_of s₀ area₀ (fresh m w masks)).state area₀ blank_ledger calls

  abbrev read : State
  read = state_after (answer_of t₀ zs₀ (fresh n v marks)).state zs₀ others

  abbrev gets : Ledger
  gets = ledger_after j (answer_of t₀ zs₀ (fresh n v marks)).state zs₀ blank_ledger others

  pub posted_calls : (file_at wrote i).opened ≡ true → (file_at wrote i).output ≡ true → (answer_of wrote wrote_area (close i)).refusal ≡ 0
      → all_of is_word puts.puts ≡ true → (file_at wrote i).size + extra (file_at wrote i).sequence (file_at wrote i).check ≤ 1024
      → (file_at read j).opened ≡ true → (file_at read j).output ≡ false
      → (file_at read j).sequence ≡ (file_at wrote i).sequence → (file_at read j).check ≡ (file_at wrote i).check
      → (bcd : Bool) (blocks : List (List ℕ)) → gets.came ≡ map well blocks → map Words blocks ≡ (reel_of (image_bytes bcd (map Words puts.sent))).pieces
      → joined gets.owed ≡ [] → gets.gone ≡ map word puts.puts
  posted_calls o u z words small =
      posted_ledgers wrote wrote_area _ (always _ area₀ (λ i. blank_ledger) (begun s₀ area₀ m w masks started) calls) i o u z words small
      read _ _ (always _ zs₀ (λ i. blank_ledger) (begun t₀ zs₀ n v marks begins) others) j
