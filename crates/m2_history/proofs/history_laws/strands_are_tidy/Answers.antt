use Rattle.m2_history.proofs.Linked.{strands_are_tidy}
use Rattle.m2_history.proofs.history_laws.strands_are_tidy.Goals as goal

pub returns : goal.returns
returns c = strands_are_tidy
