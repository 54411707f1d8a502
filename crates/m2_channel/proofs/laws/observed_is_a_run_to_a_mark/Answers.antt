use Rattle.m2_channel.proofs.Marks.{to_a_mark}
use Rattle.m2_channel.proofs.laws.observed_is_a_run_to_a_mark.Goals as goal

pub returns : goal.returns
returns c = to_a_mark c.lossless_is_never_reset.ensures
