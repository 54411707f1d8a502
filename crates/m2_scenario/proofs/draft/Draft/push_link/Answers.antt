use Rattle.std.proofs.Common.{[], ◌∷◌, ◌++◌}
use Rattle.m2_scenario.specs.Valid.{IsSound}
use Rattle.m2_scenario.proofs.Sound.{link_kept, either_way}
use Rattle.m2_scenario.proofs.draft.Draft.push_link.Goals as goal

pub invariant_of-self : goal.invariant_of-self
invariant_of-self c =
    let d = c.self.inside in
    let l = c.args.link in
    either_way (λ links. IsSound d.nodes links d.plan) d.links (d.links ++ l ∷ []) c.push.new.self c.push.result c.push.ensures c.self.invariant
    (link_kept d.nodes d.links d.plan l c.self.invariant (rw (← c.self.view_is) at c.requires.room) (rw (← c.self.view_is) at c.requires.fits) (rw (← c.self.view_is) at c.requires.first))
