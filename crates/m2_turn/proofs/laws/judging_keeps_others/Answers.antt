use Rattle.m2_turn.proofs.Known.{others_known}
use Rattle.m2_turn.proofs.laws.judging_keeps_others.Goals as goal

pub returns : goal.returns
returns g c = others_known
