-- A longer example, beside P1 to P12: calls in a row in which everything happens that the demands speak of, with what each answers, and the ledgers
-- that they lead to. So no demand is met by ledgers and histories that have nothing in them. Assumes nothing.
use Rattle.std.specs.Prelude.{ℕ, List, [], ◌∷◌, ◌++◌, map, replicate, Some, None}
use Rattle.word.specs.declared.Checked.{Checked}
use Rattle.channel_outcomes.specs.Rules.{good, redundancy, incomplete_word, file_mark, end_of_medium, no_length}
use Rattle.file_input.specs.declared.Got.TheVariants.{Record, Leftover, Error, End, Nothing}
use Rattle.routines.specs.Posts.{no_naming}
use Rattle.state.specs.declared.State.{State}
use Rattle.state.specs.Places.{before_start}
use Rattle.pack.specs.Calls.{Call, fresh, opening, close, ask, report, get, put, seal, skip, freeze, thaw, Added, nothing, working, reported, got, Answer, answer_of}
use Rattle.demands_ledger.specs.Ledgers.{Item, word, wrong, Came, Ledger, blank_ledger, ledger_after}

-- what a call shows: its refusal, what its answer adds, and the words
pub data Told : Type 0 where
  told : ℕ → Added → List ℕ → Told

abbrev pub told_of : Answer → Told
told_of a = told a.refusal a.added a.shows

-- calls in a row, each with the state and the area that the one before left
unfoldable pub told_by : State → List ℕ → List Call → List Told
told_by s area [] = []
told_by s area (call ∷ calls) = told_of (answer_of s area call) ∷ told_by (answer_of s area call).state (answer_of s area call).area calls

pub record Step : Type 0 where
  pub call : Call
  pub tells : Told

abbrev pub so : Call → Told → Step
so call tells = record { call = call; tells = tells }

-- an accepted call that adds nothing
-- what a check found: the error, the sum and the number worked out, and those read
abbrev pub found : ℕ → ℕ → ℕ → ℕ → ℕ → Checked
found error sum number sumread numberread = record { error = error; sum = sum; number = number; sumread = sumread; numberread = numberread }

abbrev pub done : Told
done = told 0 nothing []

-- ---- the steps, in three parts: four buffers of three words; file 0 reads from unit 0 of channel 0 and file 1 writes to unit 1, both with two buffers,
-- sequence and check sum, and blocks of two words; a record of file 0 has two words and one of file 1 has one

-- what is written, and a read that comes between
unfoldable pub steps1 : List Step
steps1 =
    so (fresh 4 3 (record { a = 3; b = 0; c = 0; d = 0; e = 0 })) done
    ∷ so (opening 0 0 0 14 2 2) done
    ∷ so (opening 1 0 1 15 2 1) done
    ∷ so (get 0) (told 0 (got Nothing) [])
    -- a block that is sealed early, and one that is sealed at once
    ∷ so (put 1 (5 ∷ [])) done
    ∷ so (seal 1) done
    ∷ so (put 1 (6 ∷ [])) done
    ∷ so (put 1 (7 ∷ [])) done
    -- an ordinary write is displaced by a priority read, goes on, and ends well
    ∷ so (ask 1 1 0 no_naming) (told 0 (working 1) [])
    ∷ so (ask 0 0 1 no_naming) (told 0 (working 1) [])
    ∷ so (report 0 1 redundancy no_length []) (told 0 (reported 0 None 0) [])
    ∷ so (report 0 0 good no_length (1 ∷ 2 ∷ 786433 ∷ [])) (told 0 (reported 1 (Some (found 0 3 1 3 1)) 1) [])
    ∷ so (report 0 1 good no_length []) (told 0 (reported 1 None 255) (5 ∷ 1310721 ∷ []))
    ∷ []

-- what is read
unfoldable pub steps2 : List Step
steps2 =
    so (get 0) (told 0 (got (Record 0 2)) (1 ∷ 2 ∷ []))
    -- a read that a freeze stops, and that ends in the opposite mode with a block in error
    ∷ so (ask 0 0 0 no_naming) (told 0 (working 0) [])
    ∷ so freeze done
    ∷ so (report 0 0 redundancy no_length []) (told 0 (reported 0 None 255) [])
    ∷ so thaw done
    ∷ so (report 0 0 redundancy no_length []) (told 0 (reported 0 None 0) [])
    ∷ so (report 0 0 redundancy no_length []) (told 0 (reported 0 None 0) [])
    ∷ so (report 0 0 good no_length (3 ∷ 0 ∷ [])) (told 0 (reported 2 (Some (found 3 3 2 0 0)) 255) [])
    ∷ so (get 0) (told 0 (got (Error (found 3 3 2 0 0))) [])
    ∷ so (ask 0 0 0 no_naming) (told 0 (working 0) [])
    ∷ so (report 0 0 good no_length (4 ∷ 5 ∷ 2359299 ∷ [])) (told 0 (reported 1 (Some (found 0 9 3 9 3)) 255) [])
    ∷ []

-- what is left, skipped and closed
unfoldable pub steps3 : List Step
steps3 =
    so (get 0) (told 0 (got (Leftover 3 1)) (3 ∷ []))
    ∷ so (skip 0) done
    ∷ so (skip 0) done
    ∷ so (get 0) (told 0 (got Nothing) [])
    ∷ so (ask 0 0 0 no_naming) (told 0 (working 0) [])
    ∷ so (report 0 0 file_mark no_length []) (told 0 (reported 3 None 255) [])
    ∷ so (get 0) (told 0 (got End) [])
    ∷ so (ask 0 0 0 no_naming) (told 10 (working 0) [])
    -- a write that ends permanently; its block is sent again, to the end of the medium; then a mark
    ∷ so (ask 1 1 0 no_naming) (told 0 (working 1) [])
    ∷ so (report 0 1 incomplete_word no_length []) (told 0 (reported 6 None 255) [])
    ∷ so (ask 1 1 0 no_naming) (told 0 (working 1) [])
    ∷ so (report 0 1 end_of_medium no_length []) (told 0 (reported 4 None 255) (6 ∷ 7 ∷ 3407874 ∷ []))
    ∷ so (ask 1 2 0 no_naming) (told 0 (working 1) [])
    ∷ so (report 0 1 good no_length []) (told 0 (reported 1 None 255) [])
    ∷ so (close 1) done
    ∷ so (close 0) done
    ∷ []

abbrev pub calls_of : List Step → List Call
calls_of = map (λ (x : Step). x.call)

abbrev pub tells_of : List Step → List Told
tells_of = map (λ (x : Step). x.tells)

-- a lent area of twelve words
abbrev pub lent : List ℕ
lent = replicate 12 0

-- ---- the ledgers

-- what is noted of a file: the words put, the blocks sent, the blocks that came, what was given and dropped, and what is owed
pub data Noted : Type 0 where
  noted : List ℕ → List (List ℕ) → List Came → List Item → List (List Item) → Noted

abbrev pub noted_of : Ledger → Noted
noted_of g = noted g.puts g.sent g.came g.gone g.owed

-- a block that was read well
abbrev pub well : List ℕ → Came
well words = record { failed = 0; words = words }

-- the ledger of file i after calls from before the first fresh start on
abbrev pub noted_by : ℕ → List Call → Noted
noted_by i calls = noted_of (ledger_after i before_start lent blank_ledger calls)

-- file 0 after the second part: two blocks are owed, of one the error is told
unfoldable pub midway : Noted
midway =
    noted [] [] (well (1 ∷ 2 ∷ 786433 ∷ []) ∷ well (3 ∷ 0 ∷ []) ∷ well (4 ∷ 5 ∷ 2359299 ∷ []) ∷ []) (word 1 ∷ word 2 ∷ wrong (found 3 3 2 0 0) ∷ [])
    ((word 3 ∷ []) ∷ (word 4 ∷ word 5 ∷ []) ∷ [])

-- both at the end
unfoldable pub read_all : Noted
read_all =
    noted [] [] (well (1 ∷ 2 ∷ 786433 ∷ []) ∷ well (3 ∷ 0 ∷ []) ∷ well (4 ∷ 5 ∷ 2359299 ∷ []) ∷ [])
    (word 1 ∷ word 2 ∷ wrong (found 3 3 2 0 0) ∷ word 3 ∷ word 4 ∷ word 5 ∷ []) []

unfoldable pub wrote_all : Noted
wrote_all = noted (5 ∷ 6 ∷ 7 ∷ []) ((5 ∷ 1310721 ∷ []) ∷ (6 ∷ 7 ∷ 3407874 ∷ []) ∷ []) [] [] []

-- ---- what is claimed: the answers of all calls, the ledger of file 0 after the second part, and those of both files at the end

pub record Course : Type 0 where
  pub tells : List Told
  pub mid : Noted
  pub read : Noted
  pub wrote : Noted

abbrev pub steps : List Step
steps = steps1 ++ (steps2 ++ steps3)

abbrev pub played : Course
played = record {
  tells = told_by before_start lent (calls_of steps);
  mid = noted_by 0 (calls_of (steps1 ++ steps2));
  read = noted_by 0 (calls_of steps);
  wrote = noted_by 1 (calls_of steps);
}

abbrev pub wanted : Course
wanted = record { tells = tells_of steps; mid = midway; read = read_all; wrote = wrote_all }

-- ---- a second course (document 02, M-101): a read of two incomplete words. The first one's words are dropped; the block of the second is kept, in error too

unfoldable pub kept_steps : List Step
kept_steps =
    so (fresh 4 3 (record { a = 3; b = 0; c = 0; d = 0; e = 0 })) done
    ∷ so (opening 0 0 0 14 2 2) done
    ∷ so (ask 0 0 0 no_naming) (told 0 (working 0) [])
    ∷ so (report 0 0 incomplete_word no_length (1 ∷ 2 ∷ 786433 ∷ [])) (told 0 (reported 0 None 0) [])
    ∷ so (report 0 0 incomplete_word no_length (8 ∷ 0 ∷ [])) (told 0 (reported 6 (Some (found 3 8 1 0 0)) 255) [])
    ∷ so (get 0) (told 0 (got (Error (found 10 8 1 0 0))) [])
    ∷ so (get 0) (told 0 (got (Error (found 3 8 1 0 0))) [])
    ∷ so (get 0) (told 0 (got (Leftover 0 1)) (8 ∷ []))
    ∷ []

unfoldable pub kept_noted : Noted
kept_noted =
    noted [] [] (record { failed = 10; words = 8 ∷ 0 ∷ [] } ∷ []) (wrong (found 10 8 1 0 0) ∷ wrong (found 3 8 1 0 0) ∷ word 8 ∷ []) ([] ∷ [])

-- the answers of all calls, and the ledger at the end
pub record KeptCourse : Type 0 where
  pub tells : List Told
  pub read : Noted

abbrev pub kept_played : KeptCourse
kept_played = record { tells = told_by before_start lent (calls_of kept_steps); read = noted_by 0 (calls_of kept_steps) }

abbrev pub kept_wanted : KeptCourse
kept_wanted = record { tells = tells_of kept_steps; read = kept_noted }
