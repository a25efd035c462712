-- What the code finds is what the definitions say: the answer to an ask, from its refusal. Assumes nothing.
use mathlib.Core.Path.{◌≡◌, ap, ◌∙◌}
use mathlib.Core.Bool.{Bool, not}
use Prim.Native.Nat.{ℕ}
use borrow.Author.Tests.{ne_eqb}
use Rattle.area.specs.Refusals.{lowest}
use Rattle.channel.specs.declared.Unit.{Unit}
use Rattle.channel.specs.declared.Channel.{Channel}
use Rattle.channel.specs.Units.{unit_count, is_idle}
use Rattle.channel_turns.specs.declared.Desk.{Desk}
use Rattle.channel_turns.specs.Desks.{ask_move}
use Rattle.channel_turns.specs.Scans.{working_in, unit_number}
use Rattle.file.specs.declared.File.{File}
use Rattle.routines.specs.declared.Naming.{Naming}
use Rattle.call_request.specs.Ask.{is_priority, op_of, ask_rows_by, ask_refusal, asked_file, asked_channel, ask_on}
use Rattle.call_request.specs.Moves.{rest_move, ask_number, ask_moved}

module _ (wrong : Bool) (f : File) (c : Channel) (op priority : ℕ) (naming : Naming) (waits frozen : Bool) (no : ℕ) (found : no ≡ ask_refusal wrong f c op priority naming waits) where
  pub ask_refused : (no ≡ 0 → ⊥) → ask_on wrong f c op priority naming waits frozen ≡ record { refusal = no; working = 0; file = f; channel = c }
  unfolding ask_on
  ask_refused h = rw (← found, ne_eqb no 0 h)

  pub ask_taken : no ≡ 0 → ask_on wrong f c op priority naming waits frozen
      ≡ record { refusal = 0; working = unit_number (working_in (asked_channel f c op priority frozen)); file = asked_file op f; channel = asked_channel f c op priority frozen }
  unfolding ask_on
  ask_taken h = rw (← found, h)

-- by one unit
module _ (wrong : Bool) (f : File) (x : Unit) (d : Desk) (op priority : ℕ) (naming : Naming) (waits frozen none : Bool) (k : ℕ) (idle : none ≡ is_idle x.turn)
    (found : k ≡ lowest (ask_rows_by wrong f (not none) op priority naming waits)) where
  number : k ≡ ask_number wrong f x.turn op priority naming waits
  unfolding ask_number
  number = found ∙ ap (λ (b : Bool). lowest (ask_rows_by wrong f (not b) op priority naming waits)) idle

  pub ask_rests : (k ≡ 0 → ⊥) → record { refusal = k; change = rest_move x d } ≡ ask_moved wrong f x d op priority naming waits frozen
  unfolding ask_moved
  ask_rests h = rw (← number, ne_eqb k 0 h)

  pub ask_moves : k ≡ 0 → record { refusal = 0; change = ask_move unit_count x f.unit d (op_of op) (is_priority priority) frozen } ≡ ask_moved wrong f x d op priority naming waits frozen
  unfolding ask_moved
  ask_moves h = rw (← number, h)
