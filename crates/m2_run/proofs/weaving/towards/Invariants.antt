-- The first of all is the first from here on.
use Rattle.std.proofs.Common.{◌≡◌, drop}
use Rattle.m2_run.specs.Weaving.{towards}
use Rattle.m2_run.proofs.weaving.towards.Given as goal

abbrev pub invariant-records : goal.invariant-records
invariant-records g l = towards l.peer l.records ≡ towards l.peer (drop l.k l.records)
