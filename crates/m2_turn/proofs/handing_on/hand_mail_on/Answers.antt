use Rattle.m2_shared.specs.Gates.{places}
use Rattle.std.proofs.Common.{inr, subst, sym}
use Rattle.m2_turn.specs.Mailing.{Mails, mailing, queueing}
use Rattle.m2_turn.proofs.Emptied.{all_mailed}
use Rattle.m2_turn.proofs.HandingOn.{are_dispatched, first_of_all, first_of_none, letters_are_on, on_both}
use Rattle.m2_turn.proofs.handing_on.hand_mail_on.Goals as goal

pub returns-in-Ok-hand_all_on-clause-mails : goal.returns-in-Ok-hand_all_on-clause-mails
returns-in-Ok-hand_all_on-clause-mails g c =
    let heard = g.D.Dispatcher.heard in
    let place = (places c.args.throttles.now) in
    subst (λ r. Mails heard place r (mailing c.args.out.now c.args.queued.now c.args.passes.now) (mailing c.put_all_on.new.out c.hand_all_on.new.queued c.put_all_on.new.passes)) (sym c.moved_or_dry.ensures)
    (all_mailed heard place c.has_mail-had_mail.result c.in-Ok-hand_all_on.had_letters (mailing c.args.out.now c.args.queued.now c.args.passes.now)
    (mailing c.put_all_on.new.out c.hand_all_on.new.queued c.put_all_on.new.passes)
    (record {
      mid = queueing c.put_all_on.new.queued c.put_all_on.new.passes;
      puts = c.put_all_on.ensures.puts;
      dispatches = are_dispatched heard place c.put_all_on.new.queued c.hand_all_on.new.queued c.put_all_on.new.passes c.put_all_on.new.into.items c.hand_all_on.new.into.items c.requires.shared c.hand_all_on.ensures.on;
    })
    c.has_mail-had_mail.ensures c.in-Ok-hand_all_on.ensures.any c.in-Ok.ensures.ok c.in-Ok-hand_all_on.ensures.ok)

pub returns-in-Err-hand_all_on-clause-mails : goal.returns-in-Err-hand_all_on-clause-mails
returns-in-Err-hand_all_on-clause-mails g c =
    let heard = g.D.Dispatcher.heard in
    let place = (places c.args.throttles.now) in
    inr (
      record {
        mid = queueing c.put_all_on.new.queued c.put_all_on.new.passes;
        puts = c.put_all_on.ensures.puts;
        dispatches = are_dispatched heard place c.put_all_on.new.queued c.hand_all_on.new.queued c.put_all_on.new.passes c.put_all_on.new.into.items c.hand_all_on.new.into.items c.requires.shared c.hand_all_on.ensures.on;
      },
      c.in-Ok.ensures.ok,
      c.in-Err-hand_all_on.ensures.err,
    )

pub returns-in-Ok-hand_all_on-clause-on : goal.returns-in-Ok-hand_all_on-clause-on
returns-in-Ok-hand_all_on-clause-on g c =
    on_both g.D.Dispatcher.heard (places c.args.throttles.now) c.args.queued.now.inner c.put_all_on.new.queued.inner c.hand_all_on.new.queued.inner c.args.into.now.items c.put_all_on.new.into.items
    c.hand_all_on.new.into.items c.put_all_on.ensures.on.on
    (letters_are_on g.D.Dispatcher.heard (places c.args.throttles.now) c.put_all_on.new.queued c.hand_all_on.new.queued c.put_all_on.new.into.items c.hand_all_on.new.into.items c.put_all_on.ensures.letters
    c.hand_all_on.ensures.on)

pub returns-in-Err-hand_all_on-clause-on : goal.returns-in-Err-hand_all_on-clause-on
returns-in-Err-hand_all_on-clause-on g c =
    on_both g.D.Dispatcher.heard (places c.args.throttles.now) c.args.queued.now.inner c.put_all_on.new.queued.inner c.hand_all_on.new.queued.inner c.args.into.now.items c.put_all_on.new.into.items
    c.hand_all_on.new.into.items c.put_all_on.ensures.on.on
    (letters_are_on g.D.Dispatcher.heard (places c.args.throttles.now) c.put_all_on.new.queued c.hand_all_on.new.queued c.put_all_on.new.into.items c.hand_all_on.new.into.items c.put_all_on.ensures.letters
    c.hand_all_on.ensures.on)

pub returns-in-Err-clause-on : goal.returns-in-Err-clause-on
returns-in-Err-clause-on g c = c.put_all_on.ensures.on.on

pub returns-in-Err-clause-dispatched : goal.returns-in-Err-clause-dispatched
returns-in-Err-clause-dispatched g c =
    first_of_none g.D.Dispatcher.heard (places c.args.throttles.now) c.args.out.now c.put_all_on.new.out c.args.queued.now c.put_all_on.new.queued c.args.passes.now c.put_all_on.new.passes c.args.into.now.items
    c.put_all_on.new.into.items c.put_all_on.ensures.puts c.put_all_on.ensures.on

pub returns-in-Ok-hand_all_on-clause-dispatched : goal.returns-in-Ok-hand_all_on-clause-dispatched
returns-in-Ok-hand_all_on-clause-dispatched g c =
    first_of_all g.D.Dispatcher.heard (places c.args.throttles.now) c.args.out.now c.put_all_on.new.out c.args.queued.now c.put_all_on.new.queued c.args.passes.now c.put_all_on.new.passes c.args.into.now.items
    c.put_all_on.new.into.items c.put_all_on.ensures.puts c.put_all_on.ensures.on c.hand_all_on.new.queued c.put_all_on.new.passes c.hand_all_on.new.into.items c.hand_all_on.ensures.on

pub returns-in-Err-hand_all_on-clause-dispatched : goal.returns-in-Err-hand_all_on-clause-dispatched
returns-in-Err-hand_all_on-clause-dispatched g c =
    first_of_all g.D.Dispatcher.heard (places c.args.throttles.now) c.args.out.now c.put_all_on.new.out c.args.queued.now c.put_all_on.new.queued c.args.passes.now c.put_all_on.new.passes c.args.into.now.items
    c.put_all_on.new.into.items c.put_all_on.ensures.puts c.put_all_on.ensures.on c.hand_all_on.new.queued c.put_all_on.new.passes c.hand_all_on.new.into.items c.hand_all_on.ensures.on
