-- `state::with_file` meets its contract, branch by branch, from the contract of `free_after`. Assumes nothing.
use mathlib.Core.Path.{◌≡◌, sym}
use native.Mathlib.Omega.{arith}
use lib.ListN.{length}
use Rattle.pool.specs.Free.{file_count}
use Rattle.state.proofs.Stored.{with_file_beyond, with_file_inside}
use Rattle.state.proofs.stores.with_file.Goals as goal

pub returns-then-i-ge-FILES : goal.returns-then-i-ge-FILES
returns-then-i-ge-FILES c = let long : length c.args.s.files ≡ file_count = c.well_formed.0.1.1.1.1.1.1.0.1.0.1 in sym (with_file_beyond c.args.s c.args.i c.args.f (omega arith))

pub returns : goal.returns
returns c = let long : length c.args.s.files ≡ file_count = c.well_formed.0.1.1.1.1.1.1.0.1.0.1 in with_file_inside c.args.s c.args.i c.args.f _ (omega arith) c.free_after.ensures
