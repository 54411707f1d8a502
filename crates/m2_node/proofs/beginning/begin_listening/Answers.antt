-- The workers are of nodes that are to do what the lines say.
use Rattle.std.proofs.Common.{map, refl}
use Rattle.m2_scenario.specs.Draft.{draft_line}
use Rattle.m2_node.proofs.NodesBegin.{begin_by_lines, steps_sendable}
use Rattle.m2_node.proofs.WorkersBegin.{ok_so}
use Rattle.m2_node.proofs.beginning.begin_listening.Goals as goal

pub workers_of-requires-clause-sound : goal.workers_of-requires-clause-sound
workers_of-requires-clause-sound g c = record { lines = map draft_line c.args.lines.items; sound = c.requires.sound }

pub workers_of-requires-clause-steps : goal.workers_of-requires-clause-steps
workers_of-requires-clause-steps g c = steps_sendable c.short_posts_are_sendable.ensures c.args.nodes.now c.args.links.now c.args.lines.items _ c.in_ok-steps.steps.items c.requires.sound c.in_ok-steps.ensures

pub returns-clause-nodes : goal.returns-clause-nodes
returns-clause-nodes g c =
    ok_so c.workers_of.result _ _ (λ workers are. begin_by_lines c.args.nodes.now c.args.links.now c.args.lines.items _ c.in_ok-steps.steps.items workers.items refl c.in_ok-steps.ensures are) c.workers_of.ensures.nodes
