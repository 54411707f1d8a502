use Rattle.m2_cluster.proofs.OneCenter.{came_so}
use Rattle.m2_cluster.proofs.RestOfPort.{came_rest}
use Rattle.m2_cluster.proofs.node.Node.incoming.Goals as goal

pub returns-clause-ok : goal.returns-clause-ok
returns-clause-ok g c = came_so c.incoming.result _ _ c.self.view_is c.args.id c.incoming.new.self c.is_in_memory.ensures.port c.incoming.ensures.ok c.incoming.ensures.made

pub returns-clause-rest : goal.returns-clause-rest
returns-clause-rest g c = came_rest c.incoming.result _ _ c.self.view_is c.args.id c.incoming.new.self c.incoming.ensures.ok c.incoming.ensures.err
