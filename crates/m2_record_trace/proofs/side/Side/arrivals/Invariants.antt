use Rattle.m2_record_trace.specs.SideNow.{OnlyArrives}
use Rattle.m2_record_trace.proofs.side.Side.arrivals.Given as goal

abbrev pub invariant-halves : goal.invariant-halves
invariant-halves l = OnlyArrives l.initial.self l.self
