use Rattle.m2_record_trace.proofs.Alone.{out_is_told}
use Rattle.m2_record_trace.proofs.side.Side.bytes_out.Goals as goal

pub unreachable-requires : goal.unreachable-requires
unreachable-requires c = out_is_told _ c.self.inside.limit c.out.result c.self.invariant.alone c.out.ensures c.in-None.is
