-- `session_reply::changes::skipped` meets its contract, by the inner form. Assumes nothing.
use mathlib.Core.Path.{ap, ◌∙◌}
use Rattle.file.specs.declared.FileChange.{FileChange}
use Rattle.session_reply.specs.Changes.{quiet_told, skip_told}
use Rattle.session_reply.proofs.changes.skipped.Goals as goal

pub returns : goal.returns
unfolding skip_told
returns c = c.quiet.ensures ∙ ap (λ (x : FileChange). quiet_told x.refusal x.file) c.skip_on-x.ensures
