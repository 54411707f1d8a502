use Rattle.m2_lives.proofs.LifeAfterLife.{life_after_life}
use Rattle.m2_lives.proofs.laws.heard_life_after_life.Goals as goal

pub returns : goal.returns
returns c = life_after_life c.observed_is_a_run_of_lives.ensures c.each_life_accepts_from_one.ensures
