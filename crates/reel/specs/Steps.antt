-- Which calls of the pack a record, a mark and a block of a reel come to. Assumes nothing.
use Rattle.std.specs.Prelude.{ℕ, List, []}
use Rattle.state.specs.declared.State.{State}
use Rattle.state.specs.Places.{before_start}
use Rattle.channel_outcomes.specs.Rules.{no_length}
use Rattle.pack_start.specs.declared.Masks.{Masks}
use Rattle.routines.specs.Posts.{no_naming}
use Rattle.pack.specs.Calls.{Call, fresh, opening, close, ask, report, get, put, seal, Answer, answer_of}
use Rattle.reel.specs.declared.Options.{Options}

-- the answer of the second of two calls, which is given the state and the area that the first left
unfoldable pub in_turn : State → List ℕ → Call → Call → Answer
in_turn s area x y = answer_of (answer_of s area x).state (answer_of s area x).area y

-- ---- the file: number 0, on unit 0 of channel 0

-- a pool of one buffer of 1,024 words, and one unit
abbrev pub starts : Call
starts = fresh 1 1024 (record { a = 1; b = 0; c = 0; d = 0; e = 0 })

abbrev pub opens : Options → Call
opens o = opening 0 0 0 o.flags o.size o.rlen

unfoldable pub begun_by : List ℕ → Options → Answer
begun_by area o = in_turn before_start area starts (opens o)

-- "the file is closed and opened again for what follows": "Block numbers start at 1 after each mark, as at each open."
unfoldable pub again_by : State → List ℕ → Options → Answer
again_by s area o = in_turn s area (close 0) (opens o)

-- an operation of the file that is asked for, with no routine, and then reported with an outcome and the words that it brings
unfoldable pub ended_by : State → List ℕ → ℕ → ℕ → List ℕ → Answer
ended_by s area op outcome words = in_turn s area (ask 0 op 0 no_naming) (report 0 0 outcome no_length words)

-- ---- writing: "operation(0 read, 1 write, 2 mark)", outcome "0 good"

unfoldable pub put_by : State → List ℕ → List ℕ → Answer
put_by s area words = answer_of s area (put 0 words)

unfoldable pub sealed_by : State → List ℕ → Answer
sealed_by s area = answer_of s area (seal 0)

unfoldable pub sent_by : State → List ℕ → Answer
sent_by s area = ended_by s area 1 0 []

unfoldable pub sent_mark_by : State → List ℕ → Answer
sent_mark_by s area = ended_by s area 2 0 []

-- ---- reading: outcome "0 good" with the block's words, "3 file mark"

unfoldable pub brought_by : State → List ℕ → List ℕ → Answer
brought_by s area words = ended_by s area 0 0 words

unfoldable pub met_mark_by : State → List ℕ → Answer
met_mark_by s area = ended_by s area 0 3 []

unfoldable pub got_by : State → List ℕ → Answer
got_by s area = answer_of s area (get 0)
