-- What a center has of the sockets of its port. This project's own.
use Rattle.m2_cluster.specs.m2_center.Center.{CenterNow}
use Rattle.m2_growth.specs.Holding.{Holding}

abbrev pub holding_of : {D : Type 0} → CenterNow D → Holding
holding_of c = record { port = c.port; records = c.records; halves = c.halves }
