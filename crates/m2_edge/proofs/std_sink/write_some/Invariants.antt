use Rattle.std.specs.Io.KnownBytes.{Keeps}
use Rattle.m2_edge.proofs.std_sink.write_some.Given as goal

-- so far the writer got nothing
abbrev pub invariant-loop : goal.invariant-loop
invariant-loop g l = Keeps (g.W.Write.contents l.fn.writer) (g.W.Write.contents l.writer)
