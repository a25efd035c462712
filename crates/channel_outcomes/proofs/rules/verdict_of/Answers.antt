-- `verdict_of` meets its contract: a noise record that is passed over, or the table; what passes over one more has room to count it.
-- Assumes nothing.
use Rattle.channel_outcomes.proofs.Laws.Rules.{noise_room}
use Rattle.channel_outcomes.proofs.rules.verdict_of.Goals as goal

pub past_noise-requires : goal.past_noise-requires
past_noise-requires c = noise_room _ _ _ _ c.is_noise.ensures c.if-is_noise.true
