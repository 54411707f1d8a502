-- One link more, and at the end all.
use Rattle.std.proofs.lemmas.Option.{slice_get-get_or}
use Rattle.m2_run.specs.Weaving.{HasHistory}
use Rattle.m2_node.proofs.Places.{each_more, each_of_all}
use Rattle.m2_run.proofs.Weaves.{stops_here}
use Rattle.m2_run.proofs.weaving.weave_all.Goals as goal

pub links-preserved : goal.links-preserved
links-preserved g c =
    let links = c.args.links.now in
    let k = c.links.link-index in
    each_more (HasHistory c.args.ends.now c.args.loose.now.items) links k _ (slice_get-get_or links k _ c.links-test.true) c.in-Ok.ensures c.links.invariant

pub returns-in-Err : goal.returns-in-Err
returns-in-Err g c =
    let links = c.args.links.now in
    let k = c.links.link-index in
    stops_here c.args.ends.now c.args.loose.now.items links k _ c.in-Err.fault (slice_get-get_or links k _ c.links-test.true) c.links.invariant c.in-Err.ensures

pub returns : goal.returns
returns g c = each_of_all (HasHistory c.args.ends.now c.args.loose.now.items) c.args.links.now c.links.link-index c.links-test.false c.links.invariant
