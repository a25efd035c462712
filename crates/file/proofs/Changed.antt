-- Laws of what a call on one file answers: refused it gives back the file that was passed, accepted the one that it makes. Assumes nothing.
use mathlib.Core.Logic.{◌≢◌}
use mathlib.Core.Path.{◌≡◌}
use Prim.Native.Nat.{ℕ}
use borrow.Author.Tests.{eq-eqb, ne_eqb}
use Rattle.file.specs.declared.File.{File}
use Rattle.file.specs.Changes.{file_change}

pub file_refused : (n : ℕ) (f g : File) → n ≢ 0 → (file_change n f g).file ≡ f
file_refused n f g h = rw (ne_eqb n 0 h)

pub file_accepted : (n : ℕ) (f g : File) → n ≡ 0 → (file_change n f g).file ≡ g
file_accepted n f g h = rw (eq-eqb n 0 h)

-- what a call's two returns answer, by the number n that it found
pub changes_refused : (n k : ℕ) (f g : File) → n ≡ k → n ≢ 0 → record { refusal = n; file = f } ≡ file_change k f g
changes_refused n k f g e h = rw (← e, ne_eqb n 0 h)

pub changes_accepted : (n k : ℕ) (f g h : File) → n ≡ k → n ≡ 0 → h ≡ g → record { refusal = 0; file = h } ≡ file_change k f g
changes_accepted n k f g h e z same = rw (← e, z, same)
