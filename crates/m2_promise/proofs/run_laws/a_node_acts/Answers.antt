-- The example.
use Rattle.m2_promise.proofs.Example.{a_node_acts}
use Rattle.m2_promise.proofs.run_laws.a_node_acts.Goals as goal

pub returns : goal.returns
returns c = a_node_acts
