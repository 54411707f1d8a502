-- The turns of the nodes from this one on are left.
use Rattle.std.proofs.Common.{◌-◌}
use Rattle.m2_dispatch.specs.Heard.{heard_by}
use Rattle.m2_script.specs.Script.{turns_from}
use Rattle.m2_script.proofs.Deeds.{IsAmid}
use Rattle.m2_script.proofs.lines.Run.turn_all.Given as goal

abbrev pub invariant-loop-node : goal.invariant-loop-node
invariant-loop-node g l =
    IsAmid g.row.P-End.Denot heard_by (turns_from l.node (l.nodes - l.node)) (turns_from 0 l.nodes) l.fn.self l.self
