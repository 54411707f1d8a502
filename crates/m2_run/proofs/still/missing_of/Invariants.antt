-- How many of the sockets before.
use Rattle.std.proofs.Common.{◌≡◌, ◌≤◌}
use Rattle.std.specs.Prelude.{count_by, take}
use Rattle.m2_run.specs.Still.{is_missing_to}
use Rattle.m2_run.proofs.still.missing_of.Given as goal

abbrev pub invariant-sockets : goal.invariant-sockets
invariant-sockets g l = (l.missing ≡ count_by (is_missing_to l.to.at l.near l.far) (take l.i l.made)) × (l.missing ≤ l.i)
