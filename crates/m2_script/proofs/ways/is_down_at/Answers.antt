-- The records are those of the node at that place.
use Rattle.std.proofs.Common.{length, refl, sym}
use Rattle.std.proofs.lemmas.Option.{slice_get_read}
use Rattle.m2_script.proofs.Places.{down_there}
use Rattle.m2_script.proofs.ways.is_down_at.Goals as goal

pub returns-in-Some : goal.returns-in-Some
returns-in-Some g c =
    let nodes = c.nodes.result.now in
    let there = slice_get_read nodes (length nodes) c.args.from c.in-Some.node.now refl c.in-Some.ensures.lookup.3.0 c.in-Some.ensures.lookup.1 in
    down_there c.args.cluster.now.nodes c.args.from c.args.to c.in-Some.node.now c.center.result.now c.records.result.now (rw (sym c.nodes.ensures) there) c.center.ensures c.records.ensures c.is_down_towards.result
    c.is_down_towards.ensures
