-- `state_image::files::files_at` meets its contract. After i turns the first i files are read (`HasRead`). Assumes nothing.
use mathlib.Core.Path.{refl, ap}
use native.Mathlib.Omega.{arith}
use lib.ListN.{drop}
use Rattle.codec.proofs.Loops.{read_none, read_room, read_one, read_all}
use Rattle.file.specs.Sizes.{closed_file}
use Rattle.pool.specs.Free.{file_count}
use Rattle.state_image.specs.Files.{file_codec}
use Rattle.state_image.proofs.files.files_at.Goals as goal

pub loop-file-init : goal.loop-file-init
loop-file-init c = (rw c.closed_file-closed.ensures, read_none file_codec file_count file_count c.args.start c.args.b.now _ (omega arith) (omega (arith, c.requires)) refl)

pub file_at-f-requires : goal.file_at-f-requires
file_at-f-requires c = read_room file_codec file_count file_count c.args.start c.args.b.now _ c.loop-file.file-index c.loop-file.at c.loop-file.file-items c.loop-file.invariant.1 (omega arith)

pub overflow_add-at : goal.overflow_add-at
overflow_add-at c = omega (arith, read_room file_codec file_count file_count c.args.start c.args.b.now _ c.loop-file.file-index c.loop-file.at c.loop-file.file-items c.loop-file.invariant.1 (omega arith), c.well_formed)

pub loop-file-preserved : goal.loop-file-preserved
loop-file-preserved c = (c.loop-file.invariant.0, rw c.file_at-f.ensures (read_one file_codec file_count file_count c.args.start c.args.b.now _ c.loop-file.file-index c.loop-file.at c.loop-file.file-items c.loop-file.invariant.1 (omega arith)))

pub returns : goal.returns
returns c = read_all file_codec file_count file_count c.args.start c.args.b.now _ closed_file c.loop-file.file-index c.loop-file.at c.loop-file.file-items c.loop-file.invariant.1 (omega arith) (ap (drop file_count) c.loop-file.invariant.0)
