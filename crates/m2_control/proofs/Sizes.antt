-- How long the text of an address is.
use Rattle.std.proofs.Common.{◌≤◌, length, arith}
use Rattle.m2_addr.specs.declared.addr.AnyAddr.{AnyAddr}
use Rattle.m2_addr.specs.declared.addr.AnyAddr.TheVariants.{V4, Other}
use Rattle.m2_addr.specs.Addr.{IsWellFormed, any_text}
use Rattle.m2_addr.proofs.Addresses.{short_text}

pub short_address : (a : AnyAddr) → IsWellFormed a → length (any_text a) ≤ 4103
short_address (V4 a) h = omega arith
short_address (Other b) h = short_text (Other b) h
