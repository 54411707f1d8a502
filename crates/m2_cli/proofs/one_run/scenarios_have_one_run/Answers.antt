use Rattle.m2_cli.proofs.OneRun.{one}
use Rattle.m2_cli.proofs.one_run.scenarios_have_one_run.Goals as goal

pub returns : goal.returns
returns c = one c.first_stays_apart.ensures c.runs_are_one.ensures
