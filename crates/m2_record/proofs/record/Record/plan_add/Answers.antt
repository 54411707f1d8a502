use Rattle.std.proofs.Common.{arith, refl}
use Rattle.m2_record.proofs.Planning.{plan-after}
use Rattle.m2_record.proofs.record.Record.plan_add.Goals as goal

pub invariant_of-self : goal.invariant_of-self
invariant_of-self g c = plan-after c.push.result _ c.args.step c.self.inside.plan c.push.new.self c.self.invariant c.requires
    (omega (arith, c.len.ensures, c.if-len-ge-MOST_STEPS.false)) refl c.push.ensures
