-- The nodes so far rest.
use Rattle.std.proofs.Common.{◌≡◌, [], take}
use Rattle.std.specs.List.{AllByRecursion}
use Rattle.m2_run.specs.Opened.{OpenedNow, made_of_all}
use Rattle.m2_run.specs.Still.{IsAtRest}
use Rattle.m2_run.proofs.resting.all_rest.Given as goal

abbrev pub invariant-nodes : goal.invariant-nodes
invariant-nodes g l = AllByRecursion (λ (n : OpenedNow). (n.left.on_way ≡ []) × AllByRecursion (IsAtRest (made_of_all l.all)) n.left.at_door) (take l.node-index l.all)
