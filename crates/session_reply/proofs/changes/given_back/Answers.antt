-- `session_reply::changes::given_back` meets its contract, by the inner form. Assumes nothing.
use Rattle.session_reply.proofs.Done.{given_back_as}
use Rattle.session_reply.proofs.changes.given_back.Goals as goal

pub returns : goal.returns
returns c = given_back_as c.args.unsound c.args.frozen c.args.r _ _ c.return_on-x.ensures c.answer_or.ensures
