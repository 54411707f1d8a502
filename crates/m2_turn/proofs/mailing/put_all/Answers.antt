use Rattle.m2_shared.specs.Gates.{places}
use Rattle.m2_turn.specs.Mailing.{mailing}
use Rattle.m2_turn.proofs.Emptied.{one_put}
use Rattle.m2_turn.proofs.mailing.put_all.Goals as goal

pub putting-preserved : goal.putting-preserved
putting-preserved g c = record {
  puts = one_put g.D.Dispatcher.heard (places c.args.throttles.now) c.in-Some.parcel (mailing c.args.out.now c.args.queued.now c.args.passes.now)
      (mailing c.putting.out c.putting.queued c.putting.passes) (mailing c.take.new.self c.put.new.self c.put.new.passes) c.putting.invariant.puts c.in-Some.ensures.takes
      (record { waiting = c.in-Ok.ensures.waiting; heard_more = c.in-Ok.ensures.heard; word = c.in-Ok.ensures.word });
  out = (c.in-Some.ensures.owned (places c.args.throttles.now) c.putting.invariant.out).1;
  letters = c.put.ensures.letters;
  passes = c.put.ensures.passes;
}
