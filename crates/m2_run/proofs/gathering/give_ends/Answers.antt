-- One end more, and at the end all.
use Rattle.std.proofs.Common.{map, subst, sym, ◌∙◌}
use Rattle.m2_node.specs.Ends.{seen_end}
use Rattle.m2_run.specs.Gathering.{Opens}
use Rattle.m2_run.proofs.Giving.{one_end, opened}
use Rattle.m2_run.proofs.gathering.give_ends.Goals as goal

pub loop-end-init : goal.loop-end-init
loop-end-init g c all o = o

pub loop-end-preserved : goal.loop-end-preserved
loop-end-preserved g c all o =
    let l = c.loop-end in
    l.invariant all
    (one_end c.args.cuts.now c.args.made.now g.E.End.seen l.into.items c.push.new.self.items l.end-iterator.rest.items c.next.new.self.rest.items c.in_ok-inside.field-0 c.in-Some.end all
    c.in-Some.ensures.steps.0 c.in_ok-push.ensures.items c.in_ok-inside.ensures o)

pub returns-clause-given : goal.returns-clause-given
returns-clause-given g c =
    let l = c.loop-end in
    let left = l.end-iterator.rest in
    let now = map g.E.End.seen l.into.items in
    subst (λ es. Opens c.args.cuts.now c.args.made.now (map seen_end es) (map g.E.End.seen c.args.into.now.items) now) (c.into_iter-end-iterator.ensures.into_iter_gives.0 ∙ c.into_vec-end-items.ensures)
    (l.invariant now (opened c.args.cuts.now c.args.made.now seen_end left.items now (sym left.ok.0 ∙ c.in-None.ensures.steps.0)))
