use Rattle.m2_history.proofs.Kept.{records_are_kept}
use Rattle.m2_history.proofs.history_laws.records_are_kept.Goals as goal

pub returns : goal.returns
returns c = records_are_kept
