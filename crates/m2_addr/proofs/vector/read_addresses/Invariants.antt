use Rattle.std.proofs.Common.{◌≡◌, ◌≤◌, ◌-◌, length}
use Rattle.std.specs.List.{AllByRecursion}
use Rattle.m2_addr.specs.Addr.{IsSound}
use Rattle.m2_addr.specs.Vector.{bares, addresses_at}
use Rattle.m2_addr.proofs.Addresses.{with_prefix}
use Rattle.m2_addr.proofs.vector.read_addresses.Given as goal

abbrev pub invariant-addresses : goal.invariant-addresses
invariant-addresses l = record {
  so_far : with_prefix (bares l.items.items) (addresses_at (l.count - l.counter) l.r) ≡ addresses_at l.count l.fn.r;
  within : l.counter ≤ l.count;
  count : length l.items.items ≡ l.counter;
  sound : AllByRecursion IsSound l.items.items;
}
