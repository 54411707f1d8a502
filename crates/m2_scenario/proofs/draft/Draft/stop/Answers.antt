use Rattle.m2_scenario.proofs.Sound.{start_kept}
use Rattle.m2_scenario.proofs.draft.Draft.stop.Goals as goal

pub invariant_of-self : goal.invariant_of-self
invariant_of-self c =
    let d = c.self.inside in
    rw c.stop.ensures (start_kept d.nodes d.links d.plan c.args.a c.self.invariant)
