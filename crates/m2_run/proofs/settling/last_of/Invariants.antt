-- The moment that those before give.
use Rattle.std.proofs.Common.{◌≡◌, take}
use Rattle.m2_run.specs.Kept.{last_of}
use Rattle.m2_run.proofs.settling.last_of.Given as goal

abbrev pub invariant-centers : goal.invariant-centers
invariant-centers g l = l.last ≡ last_of l.earlier (take l.j l.centers)
