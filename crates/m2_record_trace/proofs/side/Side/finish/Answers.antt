use Rattle.std.proofs.Common.{◌∙◌}
use Rattle.m2_shared.specs.Gates.{dispatch}
use Rattle.m2_record_trace.proofs.side.Side.finish.Goals as goal

pub returns : goal.returns
returns c = let alone = c.self.invariant.alone.throttles dispatch in rw (← c.self.view_is) (c.close.ensures.word alone ∙ c.ends-ends.ensures.word dispatch alone)
