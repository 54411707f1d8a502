-- The race of two connects that cross. That the lower address wins is Ceph's rule; in which order addresses stand is
-- a rule of the node.
use Rattle.std.specs.Prelude.{Bool, ◌||◌}
use Rattle.m2_addr.specs.declared.addr.Addr.{Addr}
use Rattle.m2_addr.specs.declared.addr.AddrOrder.{AddrOrder}
use Rattle.m2_addr.specs.Order.{is_below_in}

abbrev pub wins : AddrOrder → Addr → Addr → Bool → Bool
wins order peer mine server = is_below_in order peer mine || server
