-- An output file that may be closed has nothing left in its buffers: every word put was handed out. Assumes nothing.
use mathlib.Core.Path.{◌≡◌, refl, sym, ap, ap₂, ◌∙◌}
use mathlib.Core.Bool.{Bool, true, false, ◌&&◌, ◌||◌}
use mathlib.Core.List.{List, [], ◌++◌, map, append-nil}
use Prim.Native.Nat.{ℕ}
use Rattle.area.proofs.Walks.{or_left, or_right}
use Rattle.area.specs.Refusals.{here, later}
use Rattle.file.specs.declared.Side.TheVariants.{Low, High}
use Rattle.file.specs.declared.File.{File}
use Rattle.file.specs.Slots.{is_part, is_full, part_words}
use Rattle.file.specs.Sides.{slot_at, start_at, lower, part_side}
use Rattle.word.specs.CheckWords.{extra}
use Rattle.file_output.specs.Parts.{part_start, part_length}
use Rattle.file_output.specs.Sends.{has_unsent}
use Rattle.file_input.specs.Ages.{Block, in_order, line}
use Rattle.area.specs.Parts.{part_of}
use Rattle.state.specs.declared.State.{State}
use Rattle.state.specs.Places.{file_at}
use Rattle.call_open.specs.Close.{close_rows}
use Rattle.pack_open.specs.Close.{close_by}
use Rattle.pack_open.proofs.CloseTheorems.{close_exactly}
use Rattle.demands_ledger.specs.Ledgers.{data_of}
use Rattle.demands_ledger.specs.Blocks.{block_in, part_in, joined}
use Rattle.demands_ledger.proofs.Told.{Wrote}
use Rattle.demands_ledger.proofs.Sides.{no_full}
use Rattle.demands_ledger.proofs.Shown.{wrote_words}

module _ (f : File) (o : f.output ≡ true) (e : has_unsent f ≡ false) where
  unsent : ((is_part f.low.slot || is_full f.low.slot) || (is_part f.high.slot || is_full f.high.slot)) ≡ false
  unsent =
      sym (ap (λ (b : Bool). b && ((is_part f.low.slot || is_full f.low.slot) || (is_part f.high.slot || is_full f.high.slot))) o) ∙ e

  low_no : (is_part f.low.slot || is_full f.low.slot) ≡ false
  low_no = or_left (is_part f.low.slot || is_full f.low.slot) _ unsent

  high_no : (is_part f.high.slot || is_full f.high.slot) ≡ false
  high_no = or_right (is_part f.low.slot || is_full f.low.slot) _ unsent

  no_line_lem : line f ≡ []
  unfolding line
  no_line_lem =
      ap₂ (in_order f.turned) (no_full f Low (or_right (is_part f.low.slot) _ low_no))
      (no_full f High (or_right (is_part f.high.slot) _ high_no)) ∙ go f.turned
    where
      go : (t : Bool) → in_order {A = Block} t [] [] ≡ []
      go true = refl
      go false = refl

  no_part : (w : ℕ) (area : List ℕ) → part_in w f area ≡ []
  unfolding part_start part_length part_side
  no_part w area =
      ap₂ (λ (a b : Bool). part_of (start_at f w (lower a b)) (part_words (slot_at f (lower a b))) area) (or_left (is_part f.low.slot) _ low_no)
      (or_left (is_part f.high.slot) _ high_no)

  -- all words put were handed out
  pub sent_all : (w : ℕ) (area puts : List ℕ) (sent : List (List ℕ)) (seals : List ℕ) → Wrote w f area puts sent seals
      → joined (map (data_of f.sequence f.check) sent) ≡ puts
  unfolding joined
  sent_all w area puts sent seals T =
      sym (append-nil (joined (map (data_of f.sequence f.check) sent)))
      ∙ ap₂ (λ (l : List Block) (p : List ℕ). joined (map (data_of f.sequence f.check) sent)
      ++ (joined (map (data_of f.sequence f.check) (map (block_in w (extra f.sequence f.check) area) l)) ++ p)) (sym no_line_lem)
      (sym (no_part w area))
      ∙ wrote_words w f area puts sent seals T

-- an accepted close found it so
pub close_unsent : (s : State) (file : ℕ) → (close_by s file).refusal ≡ 0 → has_unsent (file_at s file) ≡ false
unfolding close_rows
close_unsent s file z = (close_exactly s file).1.none (sym (close_exactly s file).0 ∙ z) 15 _ (later (later (later here)))
