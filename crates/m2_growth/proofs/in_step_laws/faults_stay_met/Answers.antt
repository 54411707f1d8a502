use Rattle.m2_growth.proofs.Telling.{fault_is_quiet, told_met}
use Rattle.m2_fabric.specs.Kept.{between, chosen}
use Rattle.m2_fabric.specs.News.{logs_of}
use Rattle.m2_fabric.specs.SimFabric.{fault_at}
use Rattle.m2_growth.proofs.in_step_laws.faults_stay_met.Goals as goal

pub returns : goal.returns
returns c = λ a b socket old new faults met.
    let which = chosen socket (between a b old.fabric.pairs) in
    told_met (fault_at a (logs_of old.holder) which) old new (fault_is_quiet a (logs_of old.holder) which) faults met
