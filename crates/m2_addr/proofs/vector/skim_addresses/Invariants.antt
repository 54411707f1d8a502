use Rattle.std.proofs.Common.{◌≡◌, ◌≤◌, ◌-◌}
use Rattle.m2_addr.specs.Vector.{addresses_at, mains_at}
use Rattle.m2_addr.proofs.Mains.{with_main}
use Rattle.m2_addr.proofs.vector.skim_addresses.Given as goal

abbrev pub invariant-addresses : goal.invariant-addresses
invariant-addresses l = record { so_far : with_main l.main (addresses_at (l.count - l.counter) l.r) ≡ mains_at l.count l.fn.r; within : l.counter ≤ l.count }
