use Rattle.m2_growth.proofs.Growing.{all_came, all_there}
use Rattle.m2_fabric.specs.Kept.{directions}
use Rattle.m2_growth.proofs.in_step_laws.turns_stay_met.Goals as goal

pub returns : goal.returns
returns g = λ fabric old new grows met. record {
  ends = all_there old new (directions fabric.pairs) grows met.ends;
  came = all_came old new (directions fabric.pairs) grows met.ends met.came;
}
