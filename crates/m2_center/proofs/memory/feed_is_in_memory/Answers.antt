use Rattle.std.proofs.Common.{subst}
use Rattle.std.specs.List.{AllByRecursion}
use Rattle.m2_fabric.specs.Kinds.{IsInMemory}
use Rattle.m2_center.proofs.memory.feed_is_in_memory.Goals as goal

pub returns-in-Some : goal.returns-in-Some
returns-in-Some g c = subst (AllByRecursion IsInMemory) c.in-Some.ensures (c.is_in_memory.ensures, tt)

pub returns-in-None : goal.returns-in-None
returns-in-None g c = subst (AllByRecursion IsInMemory) c.in-None.ensures tt
