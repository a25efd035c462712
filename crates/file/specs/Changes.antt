-- What a call on one file answers that adds nothing to its refusal (document 01, "Refusal numbers"). Assumes nothing.
use Rattle.std.specs.Prelude.{ℕ, cond, eqb}
use Rattle.file.specs.declared.File.{File}
use Rattle.file.specs.declared.FileChange.{FileChange}

-- "A refusal returns the number alone and changes nothing.": of the file before and the file that an accepted call makes
abbrev pub file_change : ℕ → File → File → FileChange
file_change n before after = record { refusal = n; file = cond (eqb n 0) after before }
