use Rattle.m2_never_reset.proofs.Entries.{either_is}
use Rattle.m2_never_reset.proofs.pair_laws.entries_of_either_are_steps.Goals as goal

pub returns : goal.returns
returns c = either_is c.answers_are_steps.ensures c.each_number_is_a_place.ensures c.calls_go_on.ensures
