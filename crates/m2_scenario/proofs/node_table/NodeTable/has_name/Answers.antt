use Rattle.std.proofs.Common.{ap, ◌∙◌}
use Rattle.std.specs.Prelude.{is_some}
use Rattle.std.specs.List.{list_any}
use Rattle.m2_scenario.specs.Draft.{is_named}
use Rattle.m2_scenario.proofs.Nodes.{is_some_position}
use Rattle.m2_scenario.proofs.node_table.NodeTable.has_name.Goals as goal

pub returns : goal.returns
returns c =
    c.contains_key.ensures ∙ ap is_some (c.self.invariant.names c.args.name.now) ∙ is_some_position c.args.name.now c.self.inside.nodes.items
    ∙ ap (list_any (is_named c.args.name.now)) c.self.view_is
