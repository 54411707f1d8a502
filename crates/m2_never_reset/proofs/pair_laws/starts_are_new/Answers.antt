use Rattle.m2_never_reset.proofs.Starts.{are_new}
use Rattle.m2_never_reset.proofs.pair_laws.starts_are_new.Goals as goal

pub returns : goal.returns
returns c = are_new
