-- Each worker goes on as its thread says, and sends with its mail.
use Rattle.std.proofs.Common.{get_or, subst, sym}
use Rattle.std.specs.Prelude.{slice_get, IfSome}
use Rattle.m2_node.specs.Dispatching.{Mail}
use Rattle.m2_node.specs.Handing.{IsSending, RunsSender, SenderNow}
use Rattle.m2_node.specs.declared.end.RunEnd.{RunEnd}
use Rattle.m2_node.proofs.SendersWork.{send_still, sends_at}
use Rattle.m2_node.proofs.Watched.{each_sent}
use Rattle.m2_node.proofs.Workers.{none_left}
use Rattle.m2_node.proofs.threads.work_both.Goals as goal

-- What the threads are lent may be sent to them and shared; where a value ends nothing of it is left to them.
pub each_beside-requires-clause-accepts : goal.each_beside-requires-clause-accepts
each_beside-requires-clause-accepts g c κs within =
    let bounds = c.type_bounds in
    λ i p less is. (
      subst (λ (s : SenderNow). IfSome (slice_get c.args.mails.now i) (λ (m : Mail). IsSending m s)) (sym is) (sends_at c.args.mails.now c.args.senders.now i p.now less c.requires.senders),
      (
        record { owned = bounds.send-P.owned; leaving = λ k. none_left (k _) },
        record { owned = bounds.send-P-End.owned; leaving = λ k. none_left (k _) },
        record { shared = bounds.sync-R.shared },
        record { shared = bounds.sync-C.shared },
        record { shared = bounds.sync-G.shared },
      ),
    )

pub returns-clause-senders_run : goal.returns-clause-senders_run
returns-clause-senders_run g c =
    let runs = RunsSender (RunEnd g.row.P-End.Denot) (g.C.Clock.may_give c.args.clock.now) in
    let mails = c.args.mails.now in
    each_sent runs mails c.args.senders.now c.each_beside.new.items c.each_beside.auto.items c.requires.senders
    (λ i d less.
    let at = (c.each_beside.ensures.each i d less).1 in
    let after = get_or c.each_beside.new.items i d in
    subst (λ (s : SenderNow). IfSome (slice_get mails i) (λ (_ : Mail). runs s after)) at.argument_is
    (subst (λ (s : SenderNow). IfSome (slice_get mails i) (λ (_ : Mail). runs at.argument.now s)) at.left at.call.0))

pub returns-clause-senders : goal.returns-clause-senders
returns-clause-senders g c =
    let mails = c.args.mails.now in
    send_still mails c.args.senders.now c.each_beside.new.items c.each_beside.auto.items c.requires.senders
    (λ i d less.
    let at = (c.each_beside.ensures.each i d less).1 in
    subst (λ (s : SenderNow). IfSome (slice_get mails i) (λ (m : Mail). IsSending m s)) at.left at.call.1)
