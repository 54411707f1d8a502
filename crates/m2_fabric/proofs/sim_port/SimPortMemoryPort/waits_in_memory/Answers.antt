-- The ends that wait are in memory, each as it is.
use Rattle.std.proofs.Common.{refl, subst, ◌∙◌}
use Rattle.std.proofs.lemmas.List.{map-id}
use Rattle.std.specs.List.{AllByRecursion}
use Rattle.m2_fabric.specs.Kinds.{IsInMemory, WaitInMemory}
use Rattle.m2_fabric.proofs.sim_port.SimPortMemoryPort.waits_in_memory.Goals as goal

pub returns : goal.returns
returns c =
    subst WaitInMemory c.self.view_is
    (refl, subst (AllByRecursion IsInMemory) (map-id c.as_slice.result.now ∙ c.as_slice.ensures.value) c.are_in_memory.ensures)
