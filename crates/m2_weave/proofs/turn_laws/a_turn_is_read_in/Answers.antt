-- One with one byte.
use Rattle.m2_weave.proofs.Example.{a_turn_is_read_in}
use Rattle.m2_weave.proofs.turn_laws.a_turn_is_read_in.Goals as goal

pub returns : goal.returns
returns c = a_turn_is_read_in
