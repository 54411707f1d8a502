use Rattle.m2_shared.specs.Gates.{places}
use Rattle.m2_turn.specs.Mailing.{mailing}
use Rattle.m2_turn.proofs.Emptied.{nothing_put, one_put}
use Rattle.m2_turn.proofs.HandingOn.{no_letter_left, no_letters, none_so_far, reset_on}
use Rattle.m2_turn.proofs.handing_on.put_all_on.Goals as goal

pub putting-init : goal.putting-init
putting-init g c = record {
  puts = nothing_put g.D.Dispatcher.heard (places c.args.throttles.now) (mailing c.args.out.now c.args.queued.now c.args.passes.now);
  on = none_so_far g.D.Dispatcher.heard (places c.args.throttles.now) c.args.queued.now.inner c.args.into.now.items;
  out = c.requires.out;
  letters = c.requires.letters;
  passes = c.requires.passes;
}

pub returns-in-Err-clause-on : goal.returns-in-Err-clause-on
returns-in-Err-clause-on g c =
    no_letter_left g.D.Dispatcher.heard (places c.args.throttles.now) c.args.queued.now.inner c.putting.queued.inner c.put_on.new.queued.inner c.args.into.now.items c.putting.into.items c.put_on.new.into.items
    c.putting.invariant.on c.in-Err.ensures.err_heard c.in-Err.ensures.err_into

pub putting-preserved : goal.putting-preserved
putting-preserved g c = record {
  puts = one_put g.D.Dispatcher.heard (places c.args.throttles.now) c.in-Some.parcel (mailing c.args.out.now c.args.queued.now c.args.passes.now)
      (mailing c.putting.out c.putting.queued c.putting.passes) (mailing c.take.new.self c.put_on.new.queued c.put_on.new.passes) c.putting.invariant.puts c.in-Some.ensures.takes
      (record { waiting = c.in-Ok.ensures.waiting; heard_more = c.in-Ok.ensures.heard; word = c.in-Ok.ensures.word });
  on = no_letters g.D.Dispatcher.heard (places c.args.throttles.now) c.args.queued.now.inner c.putting.queued.inner c.put_on.new.queued.inner c.args.into.now.items c.putting.into.items c.put_on.new.into.items
      c.putting.invariant.on
      (reset_on g.D.Dispatcher.heard (places c.args.throttles.now) c.in-Some.parcel c.putting.queued.inner c.put_on.new.queued.inner c.putting.into.items c.put_on.new.into.items c.in-Ok.ensures.heard c.in-Ok.ensures.on);
  out = (c.in-Some.ensures.owned (places c.args.throttles.now) c.putting.invariant.out).1;
  letters = c.put_on.ensures.letters;
  passes = c.put_on.ensures.passes;
}
