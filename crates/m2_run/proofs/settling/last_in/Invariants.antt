-- The moment that those before give.
use Rattle.std.proofs.Common.{◌≡◌, take}
use Rattle.m2_run.specs.Kept.{last_in}
use Rattle.m2_run.proofs.settling.last_in.Given as goal

abbrev pub invariant-nodes : goal.invariant-nodes
invariant-nodes g l = l.last ≡ last_in l.start (take l.k l.all)
