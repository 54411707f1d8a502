use Rattle.m2_lives.proofs.LifeForLife.{dispatched_so}
use Rattle.m2_lives.proofs.laws.dispatched_life_for_life.Goals as goal

pub returns : goal.returns
returns c = dispatched_so
