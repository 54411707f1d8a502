-- The nodes have played, and are ended.
use Rattle.std.proofs.Common.{sym, ◌∙◌}
use Rattle.m2_node.proofs.Goings.{as_many_nodes}
use Rattle.m2_run.proofs.running.play_out.Goals as goal

pub end_all-requires-clause-cuts : goal.end_all-requires-clause-cuts
end_all-requires-clause-cuts g c =
    let begun = c.args.begun in
    c.requires.cuts ∙ sym (c.in-Ok.ensures.goes_on.count ∙ as_many_nodes c.args.nodes.now c.args.shares.now begun.workers.items c.requires.workers.groups)

pub returns-clause-stopped : goal.returns-clause-stopped
returns-clause-stopped g c =
    let played = c.in-Ok.field-0 in
    let told = c.in-Ok-end_all.ensures in
    (played.settled.stop, played.all.items, c.in-Ok.ensures, told.ends, told.types, told.logs)
