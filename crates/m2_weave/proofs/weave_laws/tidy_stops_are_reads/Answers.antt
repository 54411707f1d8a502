-- A strand that waits for no byte waits for one that waits for a byte.
use Rattle.m2_weave.proofs.Tidy.{stops_are_reads}
use Rattle.m2_weave.proofs.weave_laws.tidy_stops_are_reads.Goals as goal

pub returns : goal.returns
returns c = stops_are_reads
