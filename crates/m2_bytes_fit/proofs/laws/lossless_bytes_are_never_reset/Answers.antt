use Rattle.m2_bytes_fit.proofs.Orders.{never_reset}
use Rattle.m2_bytes_fit.proofs.laws.lossless_bytes_are_never_reset.Goals as goal

pub returns : goal.returns
returns c = never_reset c.histories_are_runs.ensures c.lossless_is_never_reset.ensures
