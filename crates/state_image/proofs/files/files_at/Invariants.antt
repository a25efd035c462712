use mathlib.Core.Path.{◌≡◌}
use lib.ListN.{replicate}
use Rattle.codec.proofs.Loops.{HasRead}
use Rattle.file.specs.Sizes.{closed_file}
use Rattle.pool.specs.Free.{file_count}
use Rattle.state_image.specs.Files.{file_codec}
use Rattle.state_image.proofs.files.files_at.Given as goal

abbrev pub invariant-loop-file : goal.invariant-loop-file
invariant-loop-file l = (l.initial.file-items ≡ replicate file_count closed_file) × HasRead file_codec file_count file_count l.start l.b l.initial.file-items l.file-index l.at l.file-items
