use Rattle.m2_cli.proofs.OneRun.{loads}
use Rattle.m2_cli.proofs.one_run.a_load_comes_to_one_thing.Goals as goal

pub returns : goal.returns
returns c = loads
