use Rattle.std.proofs.Common.{[], ◌∷◌, ◌++◌}
use Rattle.m2_scenario.specs.Valid.{IsSound}
use Rattle.m2_scenario.proofs.Sound.{node_kept, either_way}
use Rattle.m2_scenario.proofs.draft.Draft.push_node.Goals as goal

pub invariant_of-self : goal.invariant_of-self
invariant_of-self c =
    let d = c.self.inside in
    let n = c.args.node in
    either_way (λ nodes. IsSound nodes d.links d.plan) d.nodes (d.nodes ++ n ∷ []) c.push.new.self c.push.result c.push.ensures c.self.invariant
    (node_kept d.nodes d.links d.plan n c.self.invariant (rw (← c.self.view_is) at c.requires.room) c.requires.centers c.requires.msgr2 (rw (← c.self.view_is) at c.requires.names) (rw (← c.self.view_is) at c.requires.sockets))
