-- Those of the halves so far stand last, of which nothing was judged.
use Rattle.std.proofs.Common.{◌≡◌, ◌++◌, take}
use Rattle.std.specs.List.{AllByRecursion}
use Rattle.m2_run.specs.Once.{IsUnjudgedAt, sockets_of}
use Rattle.m2_run.proofs.once.add_halves.Given as goal

abbrev pub invariant-halves : goal.invariant-halves
invariant-halves g l = record {
  sockets : l.into.items ≡ l.fn.into.items ++ sockets_of (take l.half-index l.halves);
  unjudged : AllByRecursion (IsUnjudgedAt l.at) (take l.half-index l.halves);
}
