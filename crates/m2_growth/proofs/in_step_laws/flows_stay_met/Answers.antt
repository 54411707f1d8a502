use Rattle.m2_growth.proofs.Telling.{passes_met}
use Rattle.m2_fabric.specs.SimFabric.{flow_of}
use Rattle.m2_growth.proofs.in_step_laws.flows_stay_met.Goals as goal

pub returns : goal.returns
returns c = λ a b socket most old new flows step opens met. passes_met (flow_of a b socket most old.fabric.pairs) old new flows step opens met
