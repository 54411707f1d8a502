use Rattle.std.proofs.Common.{Some, ◌∙◌, ap, sym}
use Rattle.m2_journal.specs.declared.facts.PlanStep.{PlanStep}
use Rattle.m2_record.proofs.Taking.{post-after}
use Rattle.m2_record.proofs.record.Record.take_post.Goals as goal

pub invariant_of-self : goal.invariant_of-self
invariant_of-self g c = post-after _ c.post.new.self _ c.args.now c.push_reserved.new.self _ c.self.invariant
    (sym c.in-Some-Post.ensures ∙ ap (λ (x : PlanStep). Some x) c.in-Some-Post.field-0-is)
    c.in-Ok.ensures.ok c.in-Ok.ensures.leads c.push_reserved.ensures
