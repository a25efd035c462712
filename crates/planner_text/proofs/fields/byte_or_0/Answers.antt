-- `planner_text::fields::byte_or_0` meets its contract: by its test. Assumes nothing.
use borrow.Author.Tests.{le-leb, lt-leb}
use Rattle.planner_text.specs.Texts.{byte_or0}
use Rattle.planner_text.proofs.fields.byte_or_0.Goals as goal

pub returns-then-n-ge256 : goal.returns-then-n-ge256
unfolding byte_or0
returns-then-n-ge256 c = rw (le-leb _ _ c.if-n-ge256.true)

pub returns : goal.returns
unfolding byte_or0
returns c = rw (lt-leb _ _ c.if-n-ge256.false)
