-- The lemma.
use Rattle.m2_weave.proofs.Written.{all_read}
use Rattle.m2_weave.proofs.weave_laws.all_read_was_written.Goals as goal

pub returns : goal.returns
returns c = all_read
