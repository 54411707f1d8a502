-- What was granted for the records that are left, and for the last of them.
use Rattle.m2_shared.specs.Gates.{places}
use Rattle.std.proofs.Common.{subst}
use Rattle.m2_record.specs.Calls.{Owns}
use Rattle.m2_center.specs.Finishing.{AllOwn}
use Rattle.m2_center.proofs.Granted.{before_last}
use Rattle.m2_center.proofs.finishing.end_all.Goals as goal

pub ends-ends-requires-clause-owned : goal.ends-ends-requires-clause-owned
ends-ends-requires-clause-owned g c =
    (before_last (Owns (places c.args.throttles.now)) c.pop.new.self.items c.in-Some.side (subst (AllOwn (places c.args.throttles.now)) c.in-Some.ensures.items c.ends.invariant.1)).1

pub ends-preserved : goal.ends-preserved
ends-preserved g c = (
  c.ends-ends.ensures.passes,
  (before_last (Owns (places c.args.throttles.now)) c.pop.new.self.items c.in-Some.side (subst (AllOwn (places c.args.throttles.now)) c.in-Some.ensures.items c.ends.invariant.1)).0,
)
