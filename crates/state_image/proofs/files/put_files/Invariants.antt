use Rattle.codec.proofs.Loops.{HasWritten}
use Rattle.state_image.proofs.Keeps.{file_keeps}
use Rattle.pool.specs.Free.{file_count}
use Rattle.state_image.specs.Files.{file_codec}
use Rattle.state_image.proofs.files.put_files.Given as goal

abbrev pub invariant-loop-file : goal.invariant-loop-file
invariant-loop-file l = HasWritten file_codec file_keeps.sized file_count l.at l.fn.files l.initial.out l.file-index l.to l.out
