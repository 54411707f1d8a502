-- What was read in the turn comes behind all that came before it.
use Rattle.m2_weave.proofs.Turn.{turn_is_woven}
use Rattle.m2_weave.proofs.turn_laws.turns_are_woven.Goals as goal

pub returns : goal.returns
returns c = turn_is_woven c.rule_decides.ensures c.tidy_stops_are_reads.ensures
