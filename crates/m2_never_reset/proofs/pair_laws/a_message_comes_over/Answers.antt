use Rattle.m2_never_reset.proofs.OneHistory.{comes_over}
use Rattle.m2_never_reset.proofs.pair_laws.a_message_comes_over.Goals as goal

pub returns : goal.returns
returns c = comes_over
