use Rattle.m2_never_reset.proofs.Staying.{paired_stays}
use Rattle.m2_never_reset.proofs.pair_laws.paired_stays.Goals as goal

pub returns : goal.returns
returns c = paired_stays c.answers_are_steps.ensures
