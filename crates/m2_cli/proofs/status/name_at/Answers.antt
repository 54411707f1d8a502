use Rattle.std.proofs.Common.{◌∙◌, sym}
use Rattle.m2_scenario.proofs.Names.{name_there}
use Rattle.m2_cli.proofs.StatusLines.{name_past}
use Rattle.m2_cli.proofs.status.name_at.Goals as goal

pub returns : goal.returns
returns c = c.as_slice.ensures.bytes ∙ sym (name_there c.args.nodes.now c.args.place c.index-nodes-place.result c.if-place-nodes.false)

pub returns-then-place-nodes : goal.returns-then-place-nodes
returns-then-place-nodes c = sym (name_past c.args.nodes.now c.args.place c.if-place-nodes.true)
