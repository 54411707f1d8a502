use Rattle.m2_never_reset.proofs.Mints.{are_mints}
use Rattle.m2_never_reset.proofs.crossing_laws.cookies_are_mints.Goals as goal

pub returns : goal.returns
returns c = are_mints c.cookies_tell_draws_apart.ensures
