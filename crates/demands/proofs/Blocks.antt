-- Demand 2 on blocks and records, from what the ledgers keep. Assumes nothing.
use mathlib.Core.Path.{◌≡◌, sym, ap, subst, ◌∙◌}
use mathlib.Core.Logic.{◌≢◌}
use mathlib.Core.Bool.{true, false}
use mathlib.Core.List.{List, []}
use Prim.Native.Nat.{ℕ, ◌+◌, ◌%◌}
use lib.ListN.{length}
use Rattle.block.specs.Blocks.{judged_block}
use Rattle.word.specs.CheckWords.{block_numbers}
use Rattle.pool.specs.Serving.{serves}
use Rattle.state.specs.declared.State.{State}
use Rattle.state.specs.Places.{file_at}
use Rattle.pack_request.specs.Calls.{file_of}
use Rattle.pack_request.proofs.ReportTheorems.{report_books_own}
use Rattle.pack.specs.Calls.{close, report, answer_of}
use Rattle.pack.specs.Histories.{is_repeat}
use Rattle.pack.specs.Books.{told_result}
use Rattle.demands_ledger.specs.Ledgers.{Ledger, told_delivery}
use Rattle.demands_ledger.specs.Blocks.{joined}
use Rattle.demands_ledger.proofs.Frames.{Kept}
use Rattle.demands_ledger.proofs.Shown.{wrote_checks, wrote_words, numbers}
use Rattle.demands_ledger.proofs.Closed.{sent_all, close_unsent}
use Rattle.demands_ledger.proofs.Reported.{ready, report_brings, report_judged}
use Rattle.call_request.specs.Report.{told_by}
use Rattle.call_request.proofs.Found.{fits_bounds}
use Rattle.demands.specs.Records.{Finds}
use Rattle.demands.proofs.Finding.{judged_finds}
use Rattle.demands.specs.Demands.{data_in, Writes, Reads}
use Rattle.std.specs.declared.option.Option.TheVariants.{Some}

module _ (s : State) (area : List ℕ) (ledgers : ℕ → Ledger) (K : Kept s area ledgers) where
  module _ (i : ℕ) (o : (file_at s i).opened ≡ true) where
    pub ledger_writes : (file_at s i).output ≡ true → Writes s.w (file_at s i) area (ledgers i)
    ledger_writes u =
        let T = (K.told i).wrote o u in
        record {
          checks = wrote_checks s.w (file_at s i) area (ledgers i).puts (ledgers i).sent (ledgers i).seals T;
          words = wrote_words s.w (file_at s i) area (ledgers i).puts (ledgers i).sent (ledgers i).seals T;
        }

    pub ledger_closed : (file_at s i).output ≡ true → (answer_of s area (close i)).refusal ≡ 0
        → joined (data_in (file_at s i) (ledgers i).sent) ≡ (ledgers i).puts
    unfolding answer_of
    ledger_closed u z =
        sent_all (file_at s i) u (close_unsent s i z) s.w area (ledgers i).puts (ledgers i).sent (ledgers i).seals ((K.told i).wrote o u)

    pub ledger_reads : (file_at s i).output ≡ false → Reads s.w (file_at s i) area (ledgers i)
    ledger_reads u = let T = (K.told i).brought o u in record { items = T.items; lies = T.lies }

  pub ledger_judged : (i channel unit outcome len : ℕ) (words : List ℕ) → serves channel unit (file_at s i) ≡ true → words ≢ []
      → is_repeat (told_result (answer_of s area (report channel unit outcome len words)).added) ≡ false
      → (answer_of s area (report channel unit outcome len words)).refusal ≡ 0
      → told_delivery (answer_of s area (report channel unit outcome len words)).added
      ≡ Some (judged_block words (file_at s i).sequence (file_at s i).check ((1 + length (ledgers i).came) % block_numbers)).found
  unfolding answer_of
  ledger_judged i channel unit outcome len words on some ended z =
      let j = file_of s channel unit in
      report_judged s area ledgers K channel unit outcome len words z some ended
      ∙ ap (λ (n : ℕ). Some (judged_block words (file_at s j).sequence (file_at s j).check n).found) (numbers (ledgers j).came)
      ∙ ap (λ (k : ℕ). Some (judged_block words (file_at s k).sequence (file_at s k).check ((1 + length (ledgers k).came) % block_numbers)).found)
      (sym ((report_books_own s area channel unit outcome len words K.good.sixteen z).only i on))

  -- the same said of the words alone
  pub ledger_found : (i channel unit outcome len : ℕ) (words : List ℕ) → serves channel unit (file_at s i) ≡ true → words ≢ []
      → is_repeat (told_result (answer_of s area (report channel unit outcome len words)).added) ≡ false
      → (answer_of s area (report channel unit outcome len words)).refusal ≡ 0
      → Finds (file_at s i).sequence (file_at s i).check (length (ledgers i).came) words
      (told_by (told_delivery (answer_of s area (report channel unit outcome len words)).added))
  unfolding answer_of
  ledger_found i channel unit outcome len words on some ended z =
      let j = file_of s channel unit in
      let B = report_books_own s area channel unit outcome len words K.good.sixteen z in
      let R = ready s area ledgers K channel unit outcome len words z in
      let brings = report_brings s area ledgers K channel unit outcome len words z some ended in
      subst (λ (k : ℕ). Finds (file_at s k).sequence (file_at s k).check (length (ledgers k).came) words
      (told_by (told_delivery (answer_of s area (report channel unit outcome len words)).added))) (sym (B.only i on))
      (subst (Finds (file_at s j).sequence (file_at s j).check (length (ledgers j).came) words)
      (sym (ap told_by (ledger_judged j channel unit outcome len words B.bound some ended z)))
      (judged_finds words (file_at s j).sequence (file_at s j).check (length (ledgers j).came) R.given (fits_bounds (file_at s j) (length words) (R.fits brings)).0))
