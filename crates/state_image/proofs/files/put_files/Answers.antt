-- `state_image::files::put_files` meets its contract. After i turns the first i files are put (`HasWritten`). Assumes nothing.
use native.Mathlib.Omega.{arith}
use Rattle.codec.proofs.Loops.{written_none, written_room, written_length, written_one, written_all}
use Rattle.state_image.proofs.Keeps.{file_keeps}
use Rattle.file.specs.Sizes.{closed_file}
use Rattle.pool.specs.Free.{file_count}
use Rattle.state_image.specs.Files.{file_codec}
use Rattle.state_image.proofs.files.put_files.Goals as goal

pub loop-file-init : goal.loop-file-init
loop-file-init c = written_none file_codec file_keeps.sized file_count c.args.at c.args.files c.args.out.now (omega (arith, c.well_formed)) (omega (arith, c.requires))

pub put_file-requires : goal.put_file-requires
put_file-requires c = written_room file_codec file_keeps.sized file_count c.args.at c.args.files c.args.out.now c.loop-file.file-index c.loop-file.to c.loop-file.out c.loop-file.invariant (omega arith)

pub overflow_add-to : goal.overflow_add-to
overflow_add-to c = omega (arith, written_room file_codec file_keeps.sized file_count c.args.at c.args.files c.args.out.now c.loop-file.file-index c.loop-file.to c.loop-file.out c.loop-file.invariant (omega arith), written_length file_codec file_keeps.sized file_count c.args.at c.args.files c.args.out.now c.loop-file.file-index c.loop-file.to c.loop-file.out c.loop-file.invariant, c.well_formed)

pub loop-file-preserved : goal.loop-file-preserved
loop-file-preserved c = rw c.put_file.ensures (written_one file_codec file_keeps.sized file_count c.args.at c.args.files c.args.out.now closed_file c.loop-file.file-index c.loop-file.to c.loop-file.out c.loop-file.invariant (omega arith))

pub shape_of-out : goal.shape_of-out
shape_of-out c = written_length file_codec file_keeps.sized file_count c.args.at c.args.files c.args.out.now c.loop-file.file-index c.loop-file.to c.loop-file.out c.loop-file.invariant

pub returns : goal.returns
returns c = written_all file_codec file_keeps.sized file_count c.args.at c.args.files c.args.out.now closed_file file_count c.loop-file.file-index c.loop-file.to c.loop-file.out c.loop-file.invariant (omega arith)
