-- `pack::answers::given` meets its contract: the words of a get are where `file_input` says. Assumes nothing.
use Rattle.pack.proofs.Answering.{get_answer_lem}
use Rattle.pack.proofs.answers.given.Goals as goal

pub returns : goal.returns
returns c = get_answer_lem _ _ _ c.got_start-start.ensures c.got_count-count.ensures
