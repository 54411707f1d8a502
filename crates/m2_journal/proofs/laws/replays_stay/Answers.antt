use Rattle.m2_journal.proofs.Growing.{replays_stay}
use Rattle.m2_journal.proofs.laws.replays_stay.Goals as goal

pub returns : goal.returns
returns c = replays_stay
