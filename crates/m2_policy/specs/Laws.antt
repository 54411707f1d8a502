-- What a reader expects of races.
use Rattle.std.specs.Prelude.{◌≡◌, ◌≢◌, false, not}
use Rattle.m2_addr.specs.declared.addr.Addr.{Addr}
use Rattle.m2_addr.specs.declared.addr.AddrOrder.{AddrOrder}
use Rattle.m2_policy.specs.Race.{wins}

-- Between nodes that have one order and aren't servers, the one wins where the other doesn't.
abbrev pub OneWins : Type 0
OneWins = (order : AddrOrder) (a b : Addr) → a ≢ b → wins order a b false ≡ not (wins order b a false)
