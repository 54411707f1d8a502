use Rattle.m2_lives.proofs.InLives.{come_in_lives}
use Rattle.m2_lives.proofs.laws.bytes_come_in_lives.Goals as goal

pub returns : goal.returns
returns c = come_in_lives (record {
  bytes = c.bytes_give_lives.ensures;
  accepted = c.each_life_accepts_from_one.ensures;
  acknowledged = c.acknowledged_is_accepted_in_its_life.ensures;
  observed = c.observed_is_a_run_of_lives.ensures;
  heard = c.heard_life_after_life.ensures;
})
