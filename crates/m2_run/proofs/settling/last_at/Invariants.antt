-- The moment that those before give.
use Rattle.std.proofs.Common.{◌≡◌, take}
use Rattle.std.specs.Prelude.{fold}
use Rattle.m2_run.specs.Kept.{later_of}
use Rattle.m2_run.proofs.settling.last_at.Given as goal

abbrev pub invariant-records : goal.invariant-records
invariant-records g l = l.last ≡ fold later_of l.earlier (take l.k l.records)
