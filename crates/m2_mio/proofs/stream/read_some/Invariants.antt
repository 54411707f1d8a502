use Rattle.std.proofs.Common.{◌≡◌, length}
use Rattle.std.specs.Io.KnownBytes.{Keeps}
use Rattle.m2_mio.proofs.stream.read_some.Given as goal

-- so far nothing was read
abbrev pub invariant-loop : goal.invariant-loop
invariant-loop g l = record {
  keeps : Keeps (g.S.Read.remaining l.fn.stream) (g.S.Read.remaining l.stream);
  size : length l.into ≡ length l.fn.into;
}
