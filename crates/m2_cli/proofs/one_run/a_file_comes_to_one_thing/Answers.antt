use Rattle.m2_cli.proofs.OneRun.{files}
use Rattle.m2_cli.proofs.one_run.a_file_comes_to_one_thing.Goals as goal

pub returns : goal.returns
returns c = files
