use Rattle.m2_never_reset.proofs.Lossless.{no_trouble_in}
use Rattle.m2_never_reset.proofs.pair_laws.no_trouble_in_histories.Goals as goal

pub returns : goal.returns
returns c = no_trouble_in c.cookies_are_mints.ensures c.no_trouble_comes.ensures c.histories_are_runs.ensures
