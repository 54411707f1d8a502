-- What it shares is its node's; and what its center has handed on in the turn stays where its thread waits at the port behind it.
use Rattle.std.proofs.Common.{ap, subst, sym, ◌∙◌}
use Rattle.m2_dispatch.specs.m2_shared.Gates.{AreShared}
use Rattle.m2_node.specs.Working.{WorkerNow}
use Rattle.m2_node.proofs.Turned.{on_rested}
use Rattle.m2_node.proofs.worker.Worker.step.Goals as goal

pub turn_center-turn-requires-clause-shared : goal.turn_center-turn-requires-clause-shared
turn_center-turn-requires-clause-shared g c =
    subst AreShared (sym (c.shared.ensures.throttles ∙ ap (λ (w : WorkerNow). w.throttles) c.self.view_is)) c.requires.shared

pub returns-in-Dry-clause-on : goal.returns-in-Dry-clause-on
returns-in-Dry-clause-on g c =
    on_rested c.args.self.now.throttles c.shared.result.now.throttles c.args.self.now.center c.self.inside.center c.turn_center-turn.new.center c.rest.new.self.center c.args.into.now.items
    c.turn_center-turn.new.into.items (c.shared.ensures.throttles ∙ ap (λ (w : WorkerNow). w.throttles) c.self.view_is) (ap (λ (w : WorkerNow). w.center) c.self.view_is) c.rest.ensures.waits
    c.turn_center-turn.ensures.on
