-- Demand 1, over the sum of the thirteen calls: refused with the lowest number whose row applies, and a refusal is the number alone.
-- Assumes nothing.
use mathlib.Core.Path.{◌≡◌, refl, sym, ap}
use mathlib.Core.Logic.{◌≢◌}
use mathlib.Core.Bool.{Bool, true}
use mathlib.Core.List.{List, []}
use Prim.Native.Nat.{ℕ, ◌<◌}
use native.Mathlib.Omega.{arith}
use Rattle.area.specs.Lists.{any_of, all_of}
use Rattle.area.specs.Refusals.{Rows, lowest, Exactly, Row, here, later}
use Rattle.area.proofs.Walks.{and_left, and_right}
use Rattle.state.specs.declared.State.{State}
use Rattle.state.specs.declared.Called.{Called}
use Rattle.pack_start.specs.Fresh.{fresh_rows}
use Rattle.call_open.specs.Open.{open_rows}
use Rattle.call_open.specs.Close.{close_rows}
use Rattle.pack_start.specs.Freeze.{state_rows}
use Rattle.pack_routine.specs.declared.Ran.{Ran}
use Rattle.pack_routine.specs.Ons.{return_rows, running_rows}
use Rattle.call_record.specs.Get.{get_rows}
use Rattle.call_record.specs.Skip.{skip_rows}
use Rattle.call_record.specs.Put.{put_rows}
use Rattle.call_record.specs.Seal.{seal_rows}
use Rattle.pack_start.proofs.FreshTheorems.{fresh_exactly, fresh_refused}
use Rattle.pack_open.proofs.OpenTheorems.{open_exactly, open_refused}
use Rattle.pack_open.proofs.CloseTheorems.{close_exactly, close_refused}
use Rattle.pack_start.proofs.FreezeTheorems.{freeze_exactly, freeze_refused, thaw_exactly, thaw_refused}
use Rattle.pack_request.proofs.AskTheorems.{ask_exactly}
use Rattle.pack_request.proofs.ReportTheorems.{report_exactly}
use Rattle.pack_routine.proofs.Theorems.{return_exactly, return_refused, running_exactly, running_refused}
use Rattle.pack_record.proofs.GetTheorems.{get_exactly, get_refused}
use Rattle.pack_record.proofs.SkipTheorems.{skip_exactly, skip_refused}
use Rattle.pack_record.proofs.PutTheorems.{put_exactly, put_refused}
use Rattle.pack_record.proofs.SealTheorems.{seal_exactly, seal_refused}
use Rattle.pack.specs.Calls.{Call, fresh, opening, close, ask, report, get, put, seal, skip, freeze, thaw, return, running, nothing, plainly, given_back, running_now, answer_of, number_alone}
use Rattle.pack.specs.Tables.{table_numbers, is_table_number, rows_of}

row_numbered : {n : ℕ} {b : Bool} {rows : Rows} → Row n b rows → all_of (λ (row : ℕ × Bool). is_table_number row.0) rows ≡ true
    → is_table_number n ≡ true
unfolding all_of
row_numbered {n} here e = and_left (is_table_number n) _ e
row_numbered (later {k} p) e = row_numbered p (and_right (is_table_number k) _ e)

module _ (s : State) (area : List ℕ) where
  -- "is given exactly when the table says"
  pub call_exactly : (call : Call) → ((answer_of s area call).refusal ≡ lowest (rows_of s area call)) × Exactly (rows_of s area call)
  unfolding answer_of rows_of
  call_exactly (fresh m w masks) = fresh_exactly s _ m w masks
  call_exactly (opening file channel unit flags size rlen) = open_exactly s file channel unit flags size rlen
  call_exactly (close file) = close_exactly s file
  call_exactly (ask file op priority naming) = let x = ask_exactly s file op priority naming in (x.number, x.table)
  call_exactly (report channel unit outcome len words) = let x = report_exactly s area channel unit outcome len words in (x.number, x.table)
  call_exactly (get file) = get_exactly s area file
  call_exactly (put file words) = put_exactly s area file words
  call_exactly (seal file) = seal_exactly s area file
  call_exactly (skip file) = skip_exactly s file
  call_exactly freeze = freeze_exactly s
  call_exactly thaw = thaw_exactly s
  call_exactly return = return_exactly s
  call_exactly running = running_exactly s

  -- every row of every call has a number of the table
  pub call_numbered : (call : Call) → all_of (λ (row : ℕ × Bool). is_table_number row.0) (rows_of s area call) ≡ true
  unfolding rows_of all_of any_of table_numbers fresh_rows open_rows close_rows state_rows return_rows running_rows get_rows skip_rows put_rows seal_rows
  call_numbered (fresh m w masks) = refl
  call_numbered (opening file channel unit flags size rlen) = refl
  call_numbered (close file) = refl
  call_numbered (ask file op priority naming) = refl
  call_numbered (report channel unit outcome len words) = refl
  call_numbered (get file) = refl
  call_numbered (put file words) = refl
  call_numbered (seal file) = refl
  call_numbered (skip file) = refl
  call_numbered freeze = refl
  call_numbered thaw = refl
  call_numbered return = refl
  call_numbered running = refl

  -- "carries one number of document 01's table"
  pub call_carries : (call : Call) → (answer_of s area call).refusal ≢ 0 → is_table_number (answer_of s area call).refusal ≡ true
  call_carries call h =
      let x = call_exactly call in
      let g = x.1.given (answer_of s area call).refusal (positive _ h) (sym x.0) in
      row_numbered g.row (call_numbered call)
    where
      positive : (n : ℕ) → n ≢ 0 → 0 < n
      positive n ne = omega arith

  plain_alone : (r : Called) → r.state ≡ s → plainly r area ≡ record { refusal = r.refusal; added = nothing; shows = []; state = s; area = area }
  plain_alone r e = ap (λ (t : State). record { refusal = r.refusal; added = nothing; shows = []; state = t; area = area }) e

  -- "and changes nothing"
  pub call_alone_lem : (call : Call) → (answer_of s area call).refusal ≢ 0 → answer_of s area call ≡ number_alone (answer_of s area call).refusal s area call
  unfolding answer_of
  call_alone_lem (fresh m w masks) h = plain_alone _ (fresh_refused s _ m w masks h)
  call_alone_lem (opening file channel unit flags size rlen) h = plain_alone _ (open_refused s file channel unit flags size rlen h)
  call_alone_lem (close file) h = plain_alone _ (close_refused s file h)
  call_alone_lem (ask file op priority naming) h = let x = (ask_exactly s file op priority naming).alone h in rw (x.0, x.1)
  call_alone_lem (report channel unit outcome len words) h =
      let x = (report_exactly s area channel unit outcome len words).alone h in
      rw (x.untouched, x.answer)
  call_alone_lem (get file) h = let x = get_refused s area file h in rw (x.0, x.1, x.2)
  call_alone_lem (put file words) h = let x = put_refused s area file words h in rw (x.0, x.1)
  call_alone_lem (seal file) h = let x = seal_refused s area file h in rw (x.0, x.1)
  call_alone_lem (skip file) h = rw (skip_refused s file h)
  call_alone_lem freeze h = plain_alone _ (freeze_refused s h)
  call_alone_lem thaw h = plain_alone _ (thaw_refused s h)
  call_alone_lem return h = ap (λ (r : Ran). given_back r area) (return_refused s h)
  call_alone_lem running h = ap (λ (r : Ran). running_now r area) (running_refused s h)
