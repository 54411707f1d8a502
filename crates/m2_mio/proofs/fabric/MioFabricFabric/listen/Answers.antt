use Rattle.std.proofs.Common.{ap, ◌∙◌}
use Rattle.m2_ports.specs.Nodes.{SeenNode}
use Rattle.m2_mio.proofs.fabric.MioFabricFabric.listen.Goals as goal

pub returns-in-Ok-clause-alone : goal.returns-in-Ok-clause-alone
returns-in-Ok-clause-alone g c =
    let f = c.args.self.now.faults in
    let a = c.listen.ensures.alone f f in record {
      others = λ m apart. a.others m apart ∙ ap (λ (s : SeenNode). s.listens) (c.enter.ensures.same m);
      out = λ m. a.out m ∙ ap (λ (s : SeenNode). s.out) (c.enter.ensures.same m);
      gathered = λ m. a.gathered m ∙ ap (λ (s : SeenNode). s.gathered) (c.enter.ensures.same m);
      gathers = λ m. a.gathers m ∙ ap (λ (s : SeenNode). s.gathers) (c.enter.ensures.same m);
    }
