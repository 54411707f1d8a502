use Rattle.std.proofs.Common.{ap, ◌∙◌}
use Rattle.m2_ports.specs.Nodes.{SeenNode}
use Rattle.m2_mem_fabric.proofs.fabric.MemFabricFabric.listen.Goals as goal

pub returns-clause-alone : goal.returns-clause-alone
returns-clause-alone g c =
    let f = c.self.inside.faults in
    let a = c.listen-2.ensures.alone f f in rw (← c.self.view_is) (record {
      others = λ m apart. a.others m apart ∙ ap (λ (s : SeenNode). s.listens) (c.enter.ensures.same m);
      out = λ m. a.out m ∙ ap (λ (s : SeenNode). s.out) (c.enter.ensures.same m);
      gathered = λ m. a.gathered m ∙ ap (λ (s : SeenNode). s.gathered) (c.enter.ensures.same m);
      gathers = λ m. a.gathers m ∙ ap (λ (s : SeenNode). s.gathers) (c.enter.ensures.same m);
    })
