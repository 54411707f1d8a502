-- The law.
use Rattle.m2_trail.proofs.Readable.{asks_can_be_read}
use Rattle.m2_trail.proofs.trail_laws.asks_can_be_read.Goals as goal

pub returns : goal.returns
returns c = asks_can_be_read
