use Rattle.m2_promise.proofs.Same.{told_hear}
use Rattle.m2_promise.proofs.passing_laws.told_nodes_hear.Goals as goal

pub returns : goal.returns
returns g c = told_hear _ c.told_cluster_is_same.ensures
