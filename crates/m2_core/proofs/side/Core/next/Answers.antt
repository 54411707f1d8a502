use Rattle.m2_core.specs.Granting.{Throttled}
use Rattle.m2_core.proofs.Helds.{owned_text}
use Rattle.m2_core.proofs.Nexts.{reset_text}
use Rattle.m2_core.proofs.side.Core.next.Goals as goal

pub returns-in-None-clause-resets : goal.returns-in-None-clause-resets
returns-in-None-clause-resets g c =
    let t : Throttled = record { throttles = c.args.throttles.now; before = c.args.passes.now; behind = c.next_text.new.passes } in
    reset_text t c.next_text.result.next c.args.self.now c.next_text.new.self c.next_text.ensures.next

pub returns-in-None-clause-owned : goal.returns-in-None-clause-owned
returns-in-None-clause-owned g c =
    let t : Throttled = record { throttles = c.args.throttles.now; before = c.args.passes.now; behind = c.next_text.new.passes } in
    owned_text t c.next_text.result.next c.args.self.now c.next_text.new.self c.requires.owned c.next_text.ensures.next
