use Rattle.m2_never_reset.proofs.Plans.{posts_are}
use Rattle.m2_never_reset.proofs.pair_laws.posts_are_no_steps.Goals as goal

pub returns : goal.returns
returns c = posts_are
