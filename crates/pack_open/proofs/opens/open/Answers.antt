-- `pack_open::open` meets its contract, from the contracts of `open_off`, `is_bound`, `file_at`, `channel_at`, `free_in`, `wish_of`, `open_on` and `answer_of`. Assumes nothing.
use mathlib.Core.Path.{ap, ◌∙◌}
use Rattle.file.specs.declared.FileChange.{FileChange}
use Rattle.state.specs.Stores.{with_file}
use Rattle.state.specs.Answers.{called}
use Rattle.pack_open.specs.Open.{open_by}
use Rattle.pack_open.proofs.ByMask.{open_as}
use Rattle.pack_open.proofs.opens.open.Goals as goal

pub returns : goal.returns
unfolding open_by
returns c = let a = c.args in
    c.answer_of.ensures ∙ ap (λ (x : FileChange). called x.refusal a.s (with_file a.s a.file x.file)) (open_as a.s a.file a.channel a.unit a.flags a.size a.rlen _ _ _ _ _ _ _ c.open_on-x.ensures c.open_off-c1.ensures c.is_bound-bound.ensures c.file_at-f.ensures c.channel_at-c.ensures c.free_in-free.ensures c.wish_of-q.ensures)
