use Rattle.std.proofs.Common.{◌≡◌, length}
use Rattle.std.specs.Io.KnownBytes.{Keeps}
use Rattle.m2_edge.proofs.std_source.read_some.Given as goal

-- so far nothing was read
abbrev pub invariant-loop : goal.invariant-loop
invariant-loop g l = record {
  keeps : Keeps (g.F.Read.remaining l.fn.file) (g.F.Read.remaining l.file);
  size : length l.into ≡ length l.fn.into;
}
