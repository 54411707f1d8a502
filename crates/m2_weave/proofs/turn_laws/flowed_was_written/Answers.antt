-- Byte by byte.
use Rattle.m2_weave.proofs.Flowed.{flowed_was_written}
use Rattle.m2_weave.proofs.turn_laws.flowed_was_written.Goals as goal

pub returns : goal.returns
returns c = flowed_was_written
