use Rattle.std.proofs.Common.{ap, refl}
use Rattle.m2_fabric.specs.End.{fresh_end}
use Rattle.m2_journal.specs.declared.facts.NodeFacts.{NodeFacts}
use Rattle.m2_record_trace.proofs.Accepting.{accepts}
use Rattle.m2_record_trace.proofs.side.Side.accept.Goals as goal

pub returns-clause-ok : goal.returns-clause-ok
returns-clause-ok c = rw (← c.self.view_is) (accepts (fresh_end c.args.socket) c.facts.result.now.entity c.in-Ok.half _ _
    (rw (c.push_reserved.ensures.items, c.reserve.ensures.items) refl) (rw c.new.ensures at c.in-Ok.ensures.ok) (ap (λ (n : NodeFacts). n.entity) c.facts.ensures))
