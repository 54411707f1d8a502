-- The workers have gone on to the latest moment, and their nodes from there.
use Rattle.std.proofs.Common.{◌≡◌, List, length, sym, ap, subst, ◌∙◌}
use Rattle.m2_node.specs.Nodes.{RunNodeNow}
use Rattle.m2_run.specs.Settling.{HasPlayed}
use Rattle.m2_node.specs.Way.{AllGoOn}
use Rattle.m2_node.specs.Working.{nodes_of_workers}
use Rattle.m2_node.proofs.Goings.{as_many_nodes, now_given, stay_grouped}
use Rattle.m2_run.proofs.Played.{have_played}
use Rattle.m2_node.proofs.Workers.{lent_back}
use Rattle.m2_run.proofs.running.play.Goals as goal

pub join_all-requires-clause-groups : goal.join_all-requires-clause-groups
join_all-requires-clause-groups g c =
    let begun = c.args.begun in
    stay_grouped (g.C.Clock.may_give c.args.clock.now) c.args.nodes.now c.args.shares.now begun.workers.items c.in_ok-closed.closed.workers.items c.in_ok-closed.ensures.works c.requires.workers.groups

pub settle-settled-requires-clause-given : goal.settle-settled-requires-clause-given
settle-settled-requires-clause-given g c κs within =
    let may = g.C.Clock.may_give c.args.clock.now in
    let begun = c.args.begun in
    subst may (sym c.in_ok-all.ensures.moment)
    (now_given may c.args.nodes.now c.args.shares.now begun.start begun.workers.items c.in_ok-closed.closed.workers.items c.requires.given c.requires.workers c.in_ok-closed.ensures.works)

pub settle-settled-requires-clause-count : goal.settle-settled-requires-clause-count
settle-settled-requires-clause-count g c κs within =
    let may = g.C.Clock.may_give c.args.clock.now in
    let nodes = c.args.nodes.now in
    let shares = c.args.shares.now in
    let new = c.in_ok-closed.closed.workers.items in
    ap length (c.as_mut_slice.ensures.value ∙ c.in_ok-all.ensures.nodes)
    ∙ as_many_nodes nodes shares new (stay_grouped may nodes shares c.args.begun.workers.items new c.in_ok-closed.ensures.works c.requires.workers.groups)

pub returns-in-Ok : goal.returns-in-Ok
returns-in-Ok g c =
    let may = g.C.Clock.may_give c.args.clock.now in
    let nodes = c.args.nodes.now in
    let links = c.args.links.now in
    let shares = c.args.shares.now in
    let begun = c.args.begun in
    let old = begun.workers.items in
    let new = c.in_ok-closed.closed.workers.items in
    let all = c.in_ok-all.field-0.all in
    let settled = c.in-Ok.settled in
    let end = c.settle-settled.new.all in
    let same = c.as_mut_slice.ensures.value in
    let back = lent_back all.items end all.len (sym c.as_mut_slice.ensures.len ∙ ap length same) (subst (λ (ns : List RunNodeNow). length end ≡ length ns) same c.settle-settled.auto.all) in
    subst (λ (ns : List RunNodeNow). HasPlayed may c.args.limit nodes links begun.start settled.stop (nodes_of_workers nodes shares old) ns settled.left) (sym back)
    (have_played may c.args.limit nodes links shares begun.start c.in_ok-all.field-0.now settled.stop settled.left old new all.items end c.requires.given c.requires.workers c.in_ok-closed.ensures.works
    c.in_ok-all.ensures.nodes c.in_ok-all.ensures.moment c.in-Ok.ensures.left c.in-Ok.ensures.over c.in-Ok.ensures.later c.in-Ok.ensures.given
    (subst (λ (ns : List RunNodeNow). AllGoOn may c.in_ok-all.field-0.now settled.stop nodes ns end) same c.in-Ok.ensures.goes_on))
