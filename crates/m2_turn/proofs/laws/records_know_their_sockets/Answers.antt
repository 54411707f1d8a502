use Rattle.m2_turn.proofs.Came.{are_known}
use Rattle.m2_turn.proofs.laws.records_know_their_sockets.Goals as goal

pub returns : goal.returns
returns c = are_known
