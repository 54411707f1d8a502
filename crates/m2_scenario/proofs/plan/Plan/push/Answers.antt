use Rattle.std.proofs.Common.{sym, ◌∙◌}
use Rattle.m2_scenario.proofs.Counted.{counted_step, counted_other}
use Rattle.m2_scenario.proofs.plan.Plan.push.Goals as goal

pub invariant_of-self-in-Some : goal.invariant_of-self-in-Some
invariant_of-self-in-Some c =
    let p = c.self.inside in
    rw c.with-counts.ensures
    (counted_step p.lines.items c.push.new.self.items c.args.line p.counts p.planned c.in-Some.a
    c.in-Ok.ensures.0 c.self.invariant c.requires.among (sym c.step_of-step.ensures ∙ c.in-Some.is))

pub invariant_of-self-in-None : goal.invariant_of-self-in-None
invariant_of-self-in-None c =
    let p = c.self.inside in
    rw c.with-counts.ensures
    (counted_other p.lines.items c.push.new.self.items c.args.line p.counts p.planned
    c.in-Ok.ensures.0 c.self.invariant (sym c.step_of-step.ensures ∙ c.in-None.is))
