use Rattle.std.specs.Io.KnownBytes.{Keeps}
use Rattle.m2_mio.proofs.stream.write_some.Given as goal

-- so far the stream got nothing
abbrev pub invariant-loop : goal.invariant-loop
invariant-loop g l = Keeps (g.S.Write.contents l.fn.stream) (g.S.Write.contents l.stream)
