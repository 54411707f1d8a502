use Rattle.m2_trail.proofs.Later.{by_turn}
use Rattle.m2_trail.proofs.half_laws.turns_leave_the_half.Goals as goal

pub returns : goal.returns
returns c = by_turn
