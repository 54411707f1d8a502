use Rattle.std.proofs.Common.{length}
use Rattle.m2_turn.proofs.records_turn.+turn_in_order.Given as goal

abbrev pub decreases-turn_in_order : goal.decreases-turn_in_order
decreases-turn_in_order g l = length l.records.now
