use Rattle.m2_never_reset.proofs.Read.{read_is}
use Rattle.m2_never_reset.proofs.pair_laws.read_is_steps.Goals as goal

pub returns : goal.returns
returns c = read_is
