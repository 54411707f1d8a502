-- What the node lacks of sockets of one node more.
use Rattle.std.proofs.Common.{refl, ap, ◌∙◌, arith}
use Rattle.std.proofs.lemmas.Option.{slice_get_read}
use Rattle.m2_run.specs.Still.{refused_by}
use Rattle.m2_run.proofs.Stillness.{found_all, spares_first, spares_more}
use Rattle.m2_run.proofs.still.is_found_at.Goals as goal

pub nodes-init : goal.nodes-init
nodes-init g c =
    let x = c.index-all-j.result in
    spares_first c.args.nodes.now c.args.all.now c.args.j x c.refused_at-rest.result (slice_get_read c.args.all.now _ c.args.j x refl c.requires c.index-all-j.is)
    (c.refused_at-rest.ensures ∙ ap refused_by c.centers.ensures)

pub nodes-preserved : goal.nodes-preserved
nodes-preserved g c =
    spares_more c.args.nodes.now c.args.all.now c.args.j c.nodes.k c.nodes.rest c.in-Some.less c.nodes.invariant (omega (arith, c.in-Some.ensures))

pub returns : goal.returns
returns g c =
    found_all c.args.nodes.now c.args.all.now c.args.j c.nodes.k c.nodes.rest (omega (arith, c.nodes-test.false, c.nodes.auto.k-end)) c.nodes.invariant
