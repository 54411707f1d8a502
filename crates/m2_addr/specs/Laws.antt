-- What a reader expects of the orders of addresses.
use Rattle.std.specs.Prelude.{◌≡◌}
use Rattle.std.specs.Cmp.{IsTotalOrder}
use Rattle.std.specs.declared.cmp.Ordering.{Ordering}
use Rattle.std.specs.declared.cmp.Ordering.TheVariants.{Equal}
use Rattle.m2_addr.specs.declared.addr.Addr.{Addr}
use Rattle.m2_addr.specs.declared.addr.AddrOrder.{AddrOrder}
use Rattle.m2_addr.specs.Order.{address_cmp_in}

-- Any two addresses can be compared, and none is neither below nor above another.
pub record AreOrderedBy (cmp : Addr → Addr → Ordering) : Type 0 where
  pub total : IsTotalOrder cmp
  pub same : (a b : Addr) → cmp a b ≡ Equal → a ≡ b

-- and so in each order
abbrev pub AreOrdered : Type 0
AreOrdered = (order : AddrOrder) → AreOrderedBy (address_cmp_in order)
