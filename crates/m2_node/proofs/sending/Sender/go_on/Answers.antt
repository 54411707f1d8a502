-- What the turn hands on waits for the mail.
use Rattle.std.proofs.Common.{refl, sym, subst}
use Rattle.m2_dispatch.specs.Parcel.{AllOwned}
use Rattle.m2_dispatch.specs.m2_shared.Gates.{places}
use Rattle.m2_dispatch.specs.m2_shared.declared.throttles.Throttles.{Throttles}
use Rattle.m2_node.specs.Handing.{IsSending, SenderNow}
use Rattle.m2_node.specs.declared.end.RunEnd.{RunEnd}
use Rattle.m2_node.proofs.Watched.{kept_throttles, kept_waiting, owned_behind, sends_on}
use Rattle.m2_node.proofs.sending.Sender.go_on.Goals as goal

pub invariant_of-self : goal.invariant_of-self
invariant_of-self g c =
    let i = c.self.inside in
    let throttles =
    kept_throttles (RunEnd g.row.P-End.Denot) (g.C.Clock.may_give c.args.clock.now) c.go_on.result i.worker c.go_on.new.self c.go_on.ensures.turns c.go_on.ensures.stops in
    owned_behind i.worker.throttles c.go_on.new.self.throttles i.worker.center.queued.inner c.go_on.new.self.center.queued.inner i.waiting.items c.go_on.new.into.items throttles c.go_on.ensures.on
    c.self.invariant

pub invariant_of-self-else-is_empty : goal.invariant_of-self-else-is_empty
invariant_of-self-else-is_empty g c =
    let i = c.self.inside in
    subst (λ (t : Throttles). AllOwned (places t) i.waiting.items) (sym (kept_waiting c.wait.result i.worker c.wait.new.self c.wait.ensures.waits c.wait.ensures.stops)) c.self.invariant

pub returns-then-is_empty-clause-sends : goal.returns-then-is_empty-clause-sends
returns-then-is_empty-clause-sends g c =
    let i = c.self.inside in
    let old : SenderNow = record { worker = i.worker; put = i.put; waiting = i.waiting.items } in
    let new : SenderNow = record { worker = c.go_on.new.self; put = i.put; waiting = c.go_on.new.into.items } in
    let throttles =
    kept_throttles (RunEnd g.row.P-End.Denot) (g.C.Clock.may_give c.args.clock.now) c.go_on.result old.worker new.worker c.go_on.ensures.turns c.go_on.ensures.stops in
    λ mail sends. sends_on mail _ old new refl throttles c.go_on.ensures.on (subst (IsSending mail) (sym c.self.view_is) sends)
