use Rattle.std.proofs.Common.{subst}
use Rattle.std.proofs.lemmas.List.Elements.{All-more, recursion_from_All}
use Rattle.m2_fabric.specs.Kinds.{IsInMemory}
use Rattle.m2_turn.specs.Hearing.{IsLooseInMemory}
use Rattle.m2_turn.proofs.Wholes.{all_of_them}
use Rattle.m2_turn.proofs.stage_memory.loose_are_in_memory.Goals as goal

pub halves-preserved : goal.halves-preserved
halves-preserved g c = All-more IsLooseInMemory c.args.loose.now c.halves.half-index c.half-item.result c.halves-test.true c.halves.invariant (subst IsLooseInMemory c.half-item.is (subst IsInMemory c.end-end.ensures c.is_in_memory.ensures))

pub returns : goal.returns
returns g c = recursion_from_All IsLooseInMemory c.args.loose.now (all_of_them IsLooseInMemory c.args.loose.now c.halves.half-index c.halves-test.false c.halves.auto.half-index-end c.halves.invariant)
