-- The ends that wait at a center's port did nothing yet behind its turn, where they had done nothing before.
use Rattle.std.proofs.Common.{sym, ap, subst}
use Rattle.m2_cluster.specs.m2_center.Center.{CenterNow}
use Rattle.m2_cluster.proofs.TurnsInMemory.{turn_stays}
use Rattle.m2_links_go_on.specs.ClusterTold.{AreUnused}
use Rattle.m2_links_go_on.specs.ToldLaws.{PlanStaysUnused, TurnStaysUnused}

module _ {D : Type 0} where
  pub turn_unused : (E : Type 0) → TurnStaysUnused D E
  turn_unused E heard m answer old new t = (turn_stays E heard m answer old new t).unused

  pub plan_unused : PlanStaysUnused D
  plan_unused answer peer step now throttle old new p = subst AreUnused (sym (ap (λ (c : CenterNow D). c.port) p.only))
