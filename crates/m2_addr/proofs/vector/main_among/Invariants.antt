use Rattle.std.proofs.Common.{◌≡◌, drop}
use Rattle.m2_addr.specs.Vector.{main_of}
use Rattle.m2_addr.proofs.vector.main_among.Given as goal

abbrev pub invariant-addresses : goal.invariant-addresses
invariant-addresses l = main_of (drop l.address-index l.addresses) ≡ main_of l.addresses
