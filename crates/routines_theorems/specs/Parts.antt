-- The machine's part of a pack: what runs and was interrupted, and what waits at the posts of its units. Assumes nothing.
use Rattle.std.specs.Prelude.{Bool}
use Rattle.routines.specs.declared.Routines.{Routines}
use Rattle.routines.specs.Posts.{waits_of}
use Rattle.routines_theorems.specs.Machine.{Machine}

abbrev pub machine_of : Bool → Routines → Machine
machine_of frozen r = record { frozen = frozen; programs = r.programs; waits = waits_of r }
