use Rattle.std.proofs.Common.{◌≤◌}
use Rattle.m2_record_trace.specs.PairNow.{other, side_at}
use Rattle.m2_record_trace.specs.SideNow.{OnlyAccepts}
use Rattle.m2_record_trace.proofs.pair.Pair.turn.Given as goal

abbrev pub invariant-steps : goal.invariant-steps
invariant-steps l = (l.moved ≤ l.most) × OnlyAccepts (side_at (other l.at) l.initial.self) (side_at (other l.at) l.self)
