use Rattle.m2_bytes_fit.proofs.Orders.{bytes_give}
use Rattle.m2_bytes_fit.proofs.laws.bytes_give_fits.Goals as goal

pub returns : goal.returns
returns c = bytes_give c.histories_are_runs.ensures
