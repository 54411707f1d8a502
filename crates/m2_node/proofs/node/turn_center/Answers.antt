-- Its records are records before the turn and behind it.
use Rattle.m2_script.specs.m2_center.CenterTurn.{memory_in}
use Rattle.m2_node.proofs.node.turn_center.Goals as goal

pub returns-clause-turns : goal.returns-clause-turns
returns-clause-turns g c = record {
  answer = memory_in c.turn_on-turn.result;
  turns = c.turn_on-turn.ensures.turns;
  before = c.is_center.ensures.records;
  behind = c.is_center-2.ensures.records;
}
