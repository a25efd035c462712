-- What holds of an open file and its ledger. Assumes nothing.
use mathlib.Core.Path.{◌≡◌}
use mathlib.Core.Logic.{◌⊎◌}
use mathlib.Core.Bool.{true, false}
use mathlib.Core.List.{List, [], ◌∷◌, ◌++◌}
use Prim.Native.Nat.{ℕ}
use lib.ListN.{length}
use Rattle.file.specs.declared.File.{File}
use Rattle.file.specs.Arrivals.{error_due}
use Rattle.file_input.specs.Ages.{Block, line}
use Rattle.demands_ledger.specs.Ledgers.{Item, Came, Choice, Ledger}
use Rattle.demands_ledger.specs.Blocks.{blocks_in, unread_of, part_in, all_checked, joined, contents, number_after, Divided, Filling}

-- every element has the property
pub data All {A : Type 0} (P : A → Type 0) : List A → Type 0 where
  none : All P []
  more : {x : A} {xs : List A} → P x → All P xs → All P (x ∷ xs)

-- an output file: the blocks that were shown and those that lie in the area are, in the order sealed, blocks of these data words, numbered
-- from 1 on; their words and those of the part-filled block are the words put, divided where no record more fits and at the seals
pub record Wrote (w : ℕ) (f : File) (area puts : List ℕ) (sent : List (List ℕ)) (seals : List ℕ) : Type 0 where
  pub data_words_lem : List (List ℕ)
  pub words : joined data_words_lem ++ part_in w f area ≡ puts
  pub blocks : sent ++ blocks_in w f area ≡ all_checked f.sequence f.check 1 data_words_lem
  pub number : f.block ≡ number_after 1 data_words_lem
  pub sized : Divided f.rlen f.size seals 0 data_words_lem
  pub filling : Filling f.rlen f.size seals (length (joined data_words_lem)) (part_in w f area)

-- an untold error is of a block of which nothing was given
abbrev pub UntoldFirst : Block → Type 0
UntoldFirst b = (error_due b.arrival ≡ 0) ⊎ (b.place ≡ 0)

-- an input file: what is owed lies unread in the area; what is gone and what is owed are what was delivered
pub record Brought (w : ℕ) (f : File) (area : List ℕ) (came : List Came) (gone : List Item) (owed : List (List Item)) : Type 0 where
  pub lies : owed ≡ unread_of w f area
  pub items : gone ++ joined owed ≡ contents f.sequence f.check 1 came
  pub number : f.block ≡ number_after 1 came
  pub untold : All UntoldFirst (line f)

-- what the open of the file chose
pub record Chose (f : File) (c : Choice) : Type 0 where
  pub on_channel : c.channel ≡ f.channel
  pub on_unit : c.unit ≡ f.unit
  pub sequences : c.sequence ≡ f.sequence
  pub checks : c.check ≡ f.check
  pub sizes : c.size ≡ f.size
  pub rlens : c.rlen ≡ f.rlen

pub record Told (w : ℕ) (f : File) (area : List ℕ) (g : Ledger) : Type 0 where
  pub opened : g.opened ≡ f.opened
  pub chose : f.opened ≡ true → Chose f g.chosen
  pub marks : f.opened ≡ true → f.output ≡ false → g.marked ≡ f.marked
  pub wrote : f.opened ≡ true → f.output ≡ true → Wrote w f area g.puts g.sent g.seals
  pub brought : f.opened ≡ true → f.output ≡ false → Brought w f area g.came g.gone g.owed
