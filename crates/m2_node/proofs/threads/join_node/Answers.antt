-- The dispatcher was called with what these centers have handed on.
use Rattle.std.proofs.Common.{List, reverse, take, subst, sym, ◌∙◌}
use Rattle.m2_script.specs.m2_center.Center.{CenterNow}
use Rattle.m2_dispatch.specs.declared.logged.Logged.{Logged}
use Rattle.m2_node.specs.Handing.{IsDispatched}
use Rattle.m2_node.specs.Sharing.{ShareNow}
use Rattle.m2_node.proofs.Workers.{node_joined}
use Rattle.m2_node.proofs.threads.join_node.Goals as goal

pub new-requires-clause-dispatched : goal.new-requires-clause-dispatched
new-requires-clause-dispatched g c =
    subst (λ (s : ShareNow). IsDispatched s.throttles c.in-Ok.centers.items c.args.dispatcher) (sym c.shares.view_is)
    (subst (λ (cs : List (CenterNow (List Logged))). IsDispatched c.args.shares.now.throttles cs c.args.dispatcher) (sym c.in-Ok.ensures.centers) c.requires.dispatched)

pub returns-in-Ok-clause-node : goal.returns-in-Ok-clause-node
returns-in-Ok-clause-node g c =
    c.new.ensures ∙ node_joined c.args.shares.now _ c.in-Ok.centers.items (take c.args.node.now.centers (reverse c.args.workers.now.items)) c.shares.view_is c.in-Ok.ensures.centers
