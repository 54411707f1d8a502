-- The records are those of the node at that place.
use Rattle.std.proofs.Common.{length, refl, sym}
use Rattle.std.proofs.lemmas.Option.{slice_get_read}
use Rattle.m2_script.proofs.Places.{posts_there}
use Rattle.m2_script.proofs.ways.posts_at.Goals as goal

pub returns-in-Some : goal.returns-in-Some
returns-in-Some g c =
    let nodes = c.nodes.result.now in
    let there = slice_get_read nodes (length nodes) c.args.from c.in-Some.node.now refl c.in-Some.ensures.lookup.3.0 c.in-Some.ensures.lookup.1 in
    posts_there c.args.cluster.now.nodes c.args.from c.args.to c.in-Some.node.now c.center.result.now c.records.result.now (rw (sym c.nodes.ensures) there) c.center.ensures c.records.ensures c.posts_towards.result
    c.posts_towards.ensures
