use Rattle.m2_handover.proofs.Doors.{lets_in_then}
use Rattle.m2_handover.proofs.door.Door.accept_all.Goals as goal

pub returns-in-Some-clause-lets : goal.returns-in-Some-clause-lets
returns-in-Some-clause-lets g c =
    lets_in_then c.in-Some.end (g.P.Port.seen c.args.port.now) (g.P.Port.seen c.accepts.port) (g.P.Port.seen c.accept.new.port) c.accepts.invariant.accepts c.in-Some.ensures.lets
