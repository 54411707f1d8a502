use Rattle.std.proofs.Common.{◌≡◌, ◌≤◌, ◌+◌, ◌++◌, length, take}
use Rattle.std.specs.List.{flat_map}
use Rattle.m2_addr.specs.Addr.{any_text}
use Rattle.m2_addr.proofs.vector.put_addresses.Given as goal

abbrev pub invariant-addresses : goal.invariant-addresses
invariant-addresses l = record { bytes : l.out.bytes ≡ l.fn.out.bytes ++ flat_map any_text (take l.address-index l.addresses); room : l.fn.out.room ≤ l.out.room + length (flat_map any_text (take l.address-index l.addresses)) }
