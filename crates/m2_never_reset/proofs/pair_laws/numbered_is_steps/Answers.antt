use Rattle.m2_never_reset.proofs.Numbered.{numbered_is}
use Rattle.m2_never_reset.proofs.pair_laws.numbered_is_steps.Goals as goal

pub returns : goal.returns
returns c = numbered_is c.each_number_is_a_place.ensures c.calls_go_on.ensures
