use Rattle.m2_record_trace.specs.SideNow.{OnlyJudges}
use Rattle.m2_record_trace.proofs.side.Side.half_goes.Given as goal

abbrev pub invariant-asks : goal.invariant-asks
invariant-asks l = OnlyJudges l.initial.self l.self
