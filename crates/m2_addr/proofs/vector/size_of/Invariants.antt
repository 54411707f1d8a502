use Rattle.std.proofs.Common.{◌≡◌, ◌≤◌, ◌*◌, length, take}
use Rattle.std.specs.List.{flat_map}
use Rattle.m2_addr.specs.Addr.{any_text}
use Rattle.m2_addr.proofs.vector.size_of.Given as goal

abbrev pub invariant-addresses : goal.invariant-addresses
invariant-addresses l = record { so_far : l.size ≡ length (flat_map any_text (take l.address-index l.addresses)); most : l.size ≤ l.address-index * 4103 }
