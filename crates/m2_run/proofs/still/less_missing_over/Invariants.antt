-- With those of the centers that are left they are all.
use Rattle.std.proofs.Common.{◌≡◌, ◌+◌, drop}
use Rattle.std.specs.Prelude.{count_by}
use Rattle.m2_run.specs.Still.{is_missing_to}
use Rattle.m2_run.proofs.Leaves.{made_over}
use Rattle.m2_run.proofs.still.less_missing_over.Given as goal

abbrev pub invariant-centers : goal.invariant-centers
invariant-centers g l =
    let missing = is_missing_to l.to.at l.near l.far in
    l.rest + count_by missing (made_over l.centers) ≡ l.fn.rest + count_by missing (made_over (drop l.center-index l.centers))
