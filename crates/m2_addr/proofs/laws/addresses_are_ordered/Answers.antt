use Rattle.m2_addr.proofs.Order.{addresses_ordered}
use Rattle.m2_addr.proofs.laws.addresses_are_ordered.Goals as goal

pub returns : goal.returns
returns c = addresses_ordered
