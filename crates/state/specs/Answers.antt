-- What a call answers that adds nothing to its refusal (document 01, "Refusal numbers"). Assumes nothing.
use Rattle.std.specs.Prelude.{ℕ, cond, eqb}
use Rattle.state.specs.declared.State.{State}
use Rattle.state.specs.declared.Called.{Called}

-- "A refusal returns the number alone and changes nothing.": of the state before and the state that an accepted call makes
abbrev pub called : ℕ → State → State → Called
called n before after = record { refusal = n; state = cond (eqb n 0) after before }
