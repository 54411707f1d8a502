use Rattle.std.proofs.Common.{◌∙◌, Some, None}
use Rattle.m2_run_trace.proofs.Names.{name_found}
use Rattle.m2_run_trace.proofs.words.name_of.Goals as goal

pub returns-in-Some : goal.returns-in-Some
returns-in-Some c = c.as_slice.ensures.bytes ∙ name_found c.args.nodes.now c.args.place (Some c.in-Some.node.now) c.in-Some.ensures

pub returns-in-None : goal.returns-in-None
returns-in-None c = name_found c.args.nodes.now c.args.place None c.in-None.ensures
