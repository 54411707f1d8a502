use Rattle.m2_scenario.proofs.Sames.{all_prefix}
use Rattle.m2_scenario.proofs.order_laws.all_is_a_prefix.Goals as goal

pub returns : goal.returns
returns c = all_prefix
