use Rattle.m2_shared.specs.Gates.{places}
use Rattle.std.proofs.Common.{inr, subst, sym}
use Rattle.m2_turn.specs.Mailing.{Mails, mailing, queueing}
use Rattle.m2_turn.proofs.Emptied.{all_mailed}
use Rattle.m2_turn.proofs.mailing.empty_mail.Goals as goal

pub returns-in-Ok-dispatch_all-clause-mails : goal.returns-in-Ok-dispatch_all-clause-mails
returns-in-Ok-dispatch_all-clause-mails g c =
    subst (λ r. Mails g.D.Dispatcher.heard (places c.args.throttles.now) r (mailing c.args.out.now c.args.queued.now c.args.passes.now) (mailing c.put_all.new.out c.dispatch_all.new.queued c.dispatch_all.new.passes)) (sym c.moved_or_dry.ensures)
    (all_mailed g.D.Dispatcher.heard (places c.args.throttles.now) c.has_mail-had_mail.result c.in-Ok-dispatch_all.had_letters (mailing c.args.out.now c.args.queued.now c.args.passes.now)
    (mailing c.put_all.new.out c.dispatch_all.new.queued c.dispatch_all.new.passes)
    (record { mid = queueing c.put_all.new.queued c.put_all.new.passes; puts = c.put_all.ensures.puts; dispatches = c.dispatch_all.ensures.dispatches })
    c.has_mail-had_mail.ensures c.in-Ok-dispatch_all.ensures.any c.in-Ok.ensures.ok c.in-Ok-dispatch_all.ensures.ok)

pub returns-in-Err-dispatch_all-clause-mails : goal.returns-in-Err-dispatch_all-clause-mails
returns-in-Err-dispatch_all-clause-mails g c = inr (
  record { mid = queueing c.put_all.new.queued c.put_all.new.passes; puts = c.put_all.ensures.puts; dispatches = c.dispatch_all.ensures.dispatches },
  c.in-Ok.ensures.ok,
  c.in-Err-dispatch_all.ensures.err,
)
