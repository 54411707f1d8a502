use Rattle.m2_cluster.proofs.OneCenter.{heard_so}
use Rattle.m2_cluster.proofs.RestOfPort.{heard_rest}
use Rattle.m2_cluster.proofs.node.Node.hear.Goals as goal

pub returns-clause-ok : goal.returns-clause-ok
returns-clause-ok g c = heard_so c.hear.result _ _ c.self.view_is c.args.id.now c.args.news c.args.bytes.now c.hear.new.self c.hear.ensures.ok

pub returns-clause-rest : goal.returns-clause-rest
returns-clause-rest g c = heard_rest c.hear.result _ _ c.self.view_is c.args.id.now c.hear.new.self c.args.news c.args.bytes.now c.hear.ensures.ok c.hear.ensures.err
