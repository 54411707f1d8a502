use Rattle.m2_center.specs.Plans.{is_towards}
use Rattle.m2_center.proofs.Places.{NoneBefore}
use Rattle.m2_center.proofs.plans.place_towards.Given as goal

-- none of those that were looked at is towards that peer
abbrev pub invariant-records : goal.invariant-records
invariant-records g l = NoneBefore (is_towards l.peer) l.records l.place
