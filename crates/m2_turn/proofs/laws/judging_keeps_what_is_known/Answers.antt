use Rattle.m2_turn.proofs.Known.{back_known}
use Rattle.m2_turn.proofs.laws.judging_keeps_what_is_known.Goals as goal

pub returns : goal.returns
returns g c = back_known
