-- Demand 2 on the blocks of output files, from what the ledgers keep. Assumes nothing.
use mathlib.Core.Path.{◌≡◌, refl, sym, ap, ap₂, subst, ◌∙◌}
use mathlib.Core.Logic.{◌⊎◌, inl, inr}
use mathlib.Core.Bool.{Bool, true, cond}
use mathlib.Core.List.{List, [], ◌∷◌, ◌++◌, map, append-nil}
use Prim.Native.Nat.{ℕ, ◌+◌, ◌-◌, ◌*◌, ◌%◌, ◌≤◌, ◌<◌}
use native.Mathlib.Decide.{dec_lt}
use native.Mathlib.Omega.{arith}
use borrow.Author.Tests.{eq-eqb}
use lib.ListN.{length, take, drop, length-append}
use lib.Seq.{take-append_seam, drop-append_seam}
use Rattle.area.specs.Parts.{part_of}
use Rattle.area.proofs.Walks.{and_left}
use Rattle.area.proofs.Marks.{cond_true}
use Rattle.word.specs.CheckWords.{block_numbers}
use Rattle.file.specs.declared.File.{File}
use Rattle.file.specs.Sides.{oldest}
use Rattle.file_output.specs.Sends.{send_start, send_words}
use Rattle.state.specs.declared.State.{State}
use Rattle.state.specs.Places.{file_at}
use Rattle.pack_record.proofs.Buffers.{whole_buffer}
use Rattle.pack_request.specs.Calls.{file_of}
use Rattle.pack.specs.Calls.{report, answer_of}
use Rattle.demands_ledger.specs.Ledgers.{Choice, Ledger, as_block, data_of, with_report, is_on, noted}
use Rattle.demands_ledger.specs.Blocks.{blocks_in, part_in, checked, joined, is_sealed, Sized, Divided, Filling}
use Rattle.demands_ledger.proofs.Told.{Chose, Wrote}
use Rattle.demands_ledger.proofs.Frames.{Kept}
use Rattle.demands_ledger.proofs.Shown.{wrote_data, numbers, next_is, next_words, next_sized}
use Rattle.demands_ledger.proofs.Asks.{Asked}
use Rattle.demands_ledger.proofs.Handed.{sent_first, on_file, write_full, shown_out, shown_other, shown_again}
use Rattle.demands.specs.Written.{data_by, Cuts, Due, DueOf, HandsOut}

-- what the open of a file chose, as the file has it
abbrev choice_in : File → Choice
choice_in f = record { channel = f.channel; unit = f.unit; sequence = f.sequence; check = f.check; size = f.size; rlen = f.rlen }

chosen_is : (f : File) (c : Choice) → Chose f c → c ≡ choice_in f
chosen_is f c C =
    over c.channel f.channel c.unit f.unit c.sequence f.sequence c.check f.check c.size f.size c.rlen f.rlen
    C.on_channel C.on_unit C.sequences C.checks C.sizes C.rlens
  where
    over : (n n' u u' : ℕ) (s s' k k' : Bool) (b b' r r' : ℕ) → n ≡ n' → u ≡ u' → s ≡ s' → k ≡ k' → b ≡ b' → r ≡ r'
        → ◌≡◌ {A = Choice} (record { channel = n; unit = u; sequence = s; check = k; size = b; rlen = r })
        (record { channel = n'; unit = u'; sequence = s'; check = k'; size = b'; rlen = r' })
    over n n' u u' s s' k k' b b' r r' p q t v x y = rw (p, q, t, v, x, y)

module _ (w : ℕ) (f : File) (area puts : List ℕ) (sent : List (List ℕ)) (seals : List ℕ) (T : Wrote w f area puts sent seals) where
  file_due : (b : List ℕ) (rest : List (List ℕ)) → blocks_in w f area ≡ b ∷ rest → Due (choice_in f) puts seals sent b
  file_due b rest e = record {
    words = data_of f.sequence f.check b;
    rest = joined (map (data_of f.sequence f.check) rest) ++ part_in w f area;
    oldest = next_words w f area puts sent seals T b rest e;
    sized = next_sized w f area puts sent seals T b rest e;
    numbered =
        next_is w f area puts sent seals T b rest e
        ∙ ap (λ (n : ℕ). checked f.sequence f.check n (data_of f.sequence f.check b)) (numbers sent);
  }

  -- the words put, in blocks and after them
  record FileCuts (c : Choice) : Type 0 where
    blocks : Divided c.rlen c.size seals 0 (data_by c (sent ++ blocks_in w f area))
    after : joined (data_by c (sent ++ blocks_in w f area)) ++ part_in w f area ≡ puts
    filling : Filling c.rlen c.size seals (length (joined (data_by c (sent ++ blocks_in w f area)))) (part_in w f area)

  file_cuts : FileCuts (choice_in f)
  file_cuts =
      let e = wrote_data w f area puts sent seals T in
      record {
        blocks = subst (Divided f.rlen f.size seals 0) (sym e) T.sized;
        after = ap (λ (ds : List (List ℕ)). joined ds ++ part_in w f area) e ∙ T.words;
        filling = subst (λ (ds : List (List ℕ)). Filling f.rlen f.size seals (length (joined ds)) (part_in w f area)) (sym e) T.filling;
      }

-- a block that is due has words
due_block : (c : Choice) (puts seals : List ℕ) (sent : List (List ℕ)) (b : List ℕ) → Due c puts seals sent b → as_block b ≡ b ∷ []
due_block c puts seals sent b D = go b (longer D.words _ b D.numbered D.sized.some)
  where
    longer : (d e b : List ℕ) → b ≡ d ++ e → 0 < length d → 0 < length b
    longer d e b q h = let l : length b ≡ length d + length e = ap length q ∙ length-append d e in omega arith

    go : (b : List ℕ) → 0 < length b → as_block b ≡ b ∷ []
    go [] h = absurd (omega arith)
    go (x ∷ b) h = refl

-- ---- no two blocks are due

shorter : (r size : ℕ) (seals : List ℕ) (k : ℕ) (d e : List ℕ) → Sized r size seals k d → Sized r size seals k e → length d < length e → ⊥
shorter r size seals k d e S T l =
    let more : S.records * r + (length e - length d) ≤ T.records * r = omega (arith, S.whole, T.whole) in
    let W = whole_buffer S.records r T.records (length e - length d) (omega arith) more in
    let far : length d + r ≤ length e = omega (arith, W, S.whole, T.whole) in
    go far S.ends
  where
    go : length d + r ≤ length e → (size < length d + r) ⊎ (is_sealed seals (k + length d) ≡ true) → ⊥
    go far (inl h) = absurd (omega (arith, T.fits))
    go far (inr h) = absurd (omega (arith, T.within (k + length d) h (omega (arith, S.some))))

same_length : (r size : ℕ) (seals : List ℕ) (k : ℕ) (d e : List ℕ) → Sized r size seals k d → Sized r size seals k e → length d ≡ length e
same_length r size seals k d e S T = go (dec_lt (length d) (length e)) (dec_lt (length e) (length d))
  where
    go : Dec (length d < length e) → Dec (length e < length d) → length d ≡ length e
    go (yes l) h = absurd (shorter r size seals k d e S T l)
    go (no l) (yes h) = absurd (shorter r size seals k e d T S h)
    go (no l) (no h) = omega (arith, l, h)

pub due_one : (c : Choice) (puts seals : List ℕ) (sent : List (List ℕ)) (a b : List ℕ) → Due c puts seals sent a → Due c puts seals sent b → a ≡ b
due_one c puts seals sent a b D E =
    D.numbered ∙ ap (checked c.sequence c.check ((1 + length sent) % block_numbers)) same ∙ sym E.numbered
  where
    after : D.words ++ D.rest ≡ E.words ++ E.rest
    after =
        sym (drop-append_seam (joined (data_by c sent)) (D.words ++ D.rest))
        ∙ ap (drop (length (joined (data_by c sent)))) (D.oldest ∙ sym E.oldest) ∙ drop-append_seam (joined (data_by c sent)) (E.words ++ E.rest)

    same : D.words ≡ E.words
    same =
        sym (take-append_seam D.words D.rest)
        ∙ ap₂ take (same_length c.rlen c.size seals (length (joined (data_by c sent))) D.words E.words D.sized E.sized) after
        ∙ take-append_seam E.words E.rest

module _ (s : State) (area : List ℕ) (ledgers : ℕ → Ledger) (K : Kept s area ledgers) where
  pub ledger_cuts : (i : ℕ) → (file_at s i).opened ≡ true → (file_at s i).output ≡ true → Cuts (ledgers i) (blocks_in s.w (file_at s i) area)
  ledger_cuts i o u =
      let f = file_at s i in
      let T = (K.told i).wrote o u in
      let C = subst (FileCuts s.w f area (ledgers i).puts (ledgers i).sent (ledgers i).seals T)
      (sym (chosen_is f (ledgers i).chosen ((K.told i).chose o))) (file_cuts s.w f area (ledgers i).puts (ledgers i).sent (ledgers i).seals T) in
      record { blocks = C.blocks; part = part_in s.w f area; after = C.after; filling = C.filling }

  module _ (A : Asked s ledgers) (channel unit outcome len : ℕ) (words : List ℕ)
      (z : (answer_of s area (report channel unit outcome len words)).refusal ≡ 0) where
    abbrev i : ℕ
    i = file_of s channel unit

    noted_is : (j : ℕ) → is_on channel unit (ledgers j) ≡ true
        → noted j (report channel unit outcome len words) (answer_of s area (report channel unit outcome len words)) (ledgers j)
        ≡ with_report words (answer_of s area (report channel unit outcome len words)) (ledgers j)
    noted_is j on =
        cond_true (cond (is_on channel unit (ledgers j)) (with_report words (answer_of s area (report channel unit outcome len words)) (ledgers j))
        (ledgers j)) (ledgers j)
        (eq-eqb (answer_of s area (report channel unit outcome len words)).refusal 0 z)
        ∙ cond_true (with_report words (answer_of s area (report channel unit outcome len words)) (ledgers j)) (ledgers j) on

    here : is_on channel unit (ledgers i) ≡ true
        → HandsOut (ledgers i) (with_report words (answer_of s area (report channel unit outcome len words)) (ledgers i))
        (answer_of s area (report channel unit outcome len words))
    unfolding answer_of
    here on = record {
      write = λ e.
          let R = write_full s area ledgers K A channel unit outcome len words z e in
          let o = sym (K.told i).opened ∙ and_left (ledgers i).opened _ on in
          let F = sent_first s.w (file_at s i) area R.1 in
          let b = part_of (send_start s.w (file_at s i)) (send_words (file_at s i)) area in
          let D : DueOf (ledgers i) b =
          subst (λ (c : Choice). Due c (ledgers i).puts (ledgers i).seals (ledgers i).sent b)
          (sym (chosen_is (file_at s i) (ledgers i).chosen ((K.told i).chose o)))
          (file_due s.w (file_at s i) area (ledgers i).puts (ledgers i).sent (ledgers i).seals ((K.told i).wrote o R.0) b F.0 F.1) in
          record {
            block = b;
            due = D;
            out = λ h.
                let q = shown_out s area ledgers K A channel unit outcome len words z e h in (
                  q,
                  ap (λ (v : List ℕ). (ledgers i).sent ++ as_block v) q
                      ∙ ap (λ (v : List (List ℕ)). (ledgers i).sent ++ v)
                      (due_block (ledgers i).chosen (ledgers i).puts (ledgers i).seals (ledgers i).sent b D),
                );
            again = λ h.
                let q = shown_again s area ledgers K A channel unit outcome len words z e h in (
                  q,
                  subst (λ (v : List (List ℕ)). Due (ledgers i).chosen (ledgers i).puts (ledgers i).seals v b)
                      (sym (ap (λ (v : List ℕ). (ledgers i).sent ++ as_block v) q ∙ append-nil (ledgers i).sent)) D,
                );
          };
      other = λ ne. shown_other s area ledgers K A channel unit outcome len words z ne;
    }

    pub ledger_sent : (j : ℕ) → is_on channel unit (ledgers j) ≡ true
        → HandsOut (ledgers j) (noted j (report channel unit outcome len words) (answer_of s area (report channel unit outcome len words)) (ledgers j))
        (answer_of s area (report channel unit outcome len words))
    unfolding answer_of
    ledger_sent j on =
        subst (λ (h : Ledger). HandsOut (ledgers j) h (answer_of s area (report channel unit outcome len words))) (sym (noted_is j on))
        (subst (λ (k : ℕ). is_on channel unit (ledgers k) ≡ true
        → HandsOut (ledgers k) (with_report words (answer_of s area (report channel unit outcome len words)) (ledgers k))
        (answer_of s area (report channel unit outcome len words)))
        (sym (on_file s area ledgers K A channel unit outcome len words z j on)) here on)
