use Rattle.m2_mem_fabric.proofs.fabric.MemFabricFabric.gather.Goals as goal

pub returns : goal.returns
returns g c = rw (← c.self.view_is) (c.take_in.ensures c.self.inside.faults)
