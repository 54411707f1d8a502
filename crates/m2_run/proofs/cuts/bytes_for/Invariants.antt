-- Those that are left, behind so many fewer, are the same.
use Rattle.std.proofs.Common.{◌≡◌, drop}
use Rattle.m2_run.specs.Cuts.{bytes_in, cuts_for}
use Rattle.m2_run.proofs.cuts.bytes_for.Given as goal

abbrev pub invariant-loop-cut : goal.invariant-loop-cut
invariant-loop-cut l = bytes_in (cuts_for (drop l.cut-index l.cuts) l.id) l.left ≡ bytes_in (cuts_for l.cuts l.id) l.turn
