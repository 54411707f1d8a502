use Rattle.m2_never_reset.proofs.Entries.{links_turn}
use Rattle.m2_never_reset.proofs.pair_laws.links_turn.Goals as goal

pub returns : goal.returns
returns c = links_turn
