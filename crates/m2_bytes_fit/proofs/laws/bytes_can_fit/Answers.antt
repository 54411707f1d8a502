use Rattle.m2_bytes_fit.proofs.OnePoint.{can_fit}
use Rattle.m2_bytes_fit.proofs.laws.bytes_can_fit.Goals as goal

pub returns : goal.returns
returns c = can_fit
