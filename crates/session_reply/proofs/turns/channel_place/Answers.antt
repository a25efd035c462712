-- `session_reply::turns::channel_place` meets its contract, by what its callees found. Assumes nothing.
use mathlib.Core.Path.{ap, ◌∙◌}
use Prim.Native.Nat.{ℕ}
use Rattle.file.specs.declared.File.{File}
use Rattle.session_reply.specs.Places.{place_of, channel_number, channel_for}
use Rattle.session_reply.proofs.turns.channel_place.Goals as goal

pub returns : goal.returns
unfolding channel_for
returns c = (c.index_in.ensures.0 ∙ ap (λ (j : ℕ). place_of j 5) (c.channel_number-j.ensures ∙ ap (λ (f : File). channel_number c.args.frame f.channel) c.file_or-f.ensures), c.index_in.ensures.1)
