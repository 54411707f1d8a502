use Rattle.std.proofs.Common.{◌∙◌, sym}
use Rattle.m2_scenario.proofs.Names.{name_there}
use Rattle.m2_scenario.proofs.reports.name_at.Goals as goal

pub returns : goal.returns
returns c = c.as_slice.ensures.bytes ∙ sym (name_there c.args.nodes.now c.args.place c.index-nodes-place.result c.requires)
