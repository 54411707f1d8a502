-- Whatever opens the halves that are left, behind those so far, opens all.
use Rattle.std.proofs.Common.{List}
use Rattle.m2_trail.specs.Arrivals.{LooseNow}
use Rattle.m2_run.proofs.Apart.{OpensAll}
use Rattle.m2_run.proofs.ending.open_halves.Given as goal

abbrev pub invariant-halves : goal.invariant-halves
invariant-halves g l =
    (all : List LooseNow) → OpensAll l.cuts l.made l.half-iterator.rest.items l.into.items all → OpensAll l.cuts l.made l.initial.half-iterator.rest.items l.initial.into.items all
