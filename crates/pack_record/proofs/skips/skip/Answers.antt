-- `pack_record::skip` meets its contract: the change of the one file is stored, or the call is refused. Assumes nothing.
use mathlib.Core.Path.{ap, ◌∙◌}
use mathlib.Core.Bool.{Bool, not, ◌||◌}
use lib.Dec.{leb}
use Rattle.pool.specs.Free.{file_count}
use Rattle.pack_record.proofs.InputSteps.{skip_state}
use Rattle.pack_record.proofs.skips.skip.Goals as goal

pub returns : goal.returns
returns c = let a = c.args in
    c.answer_of.ensures ∙ skip_state a.s a.file _ c.file_at-f.result (ap (λ (b : Bool). leb file_count a.file || not b) c.is_sound.ensures) c.file_at-f.ensures c.skip_on-x.result c.skip_on-x.ensures
