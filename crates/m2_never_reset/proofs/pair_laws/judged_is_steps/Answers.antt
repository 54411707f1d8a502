use Rattle.m2_never_reset.proofs.Judged.{judged_is}
use Rattle.m2_never_reset.proofs.pair_laws.judged_is_steps.Goals as goal

pub returns : goal.returns
returns c = judged_is c.answers_are_steps.ensures
