-- `session_reply::changes::closed` meets its contract, by the inner form. Assumes nothing.
use mathlib.Core.Path.{ap, ◌∙◌}
use Rattle.file.specs.declared.FileChange.{FileChange}
use Rattle.session_reply.specs.Changes.{quiet_told, close_told}
use Rattle.session_reply.proofs.changes.closed.Goals as goal

pub returns : goal.returns
unfolding close_told
returns c = c.quiet.ensures ∙ ap (λ (x : FileChange). quiet_told x.refusal x.file) c.close_on-x.ensures
