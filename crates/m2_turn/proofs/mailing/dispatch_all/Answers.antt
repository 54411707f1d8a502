use Rattle.m2_shared.specs.Gates.{places}
use Rattle.std.proofs.Common.{ap, not, refl, sym}
use Rattle.m2_dispatch.specs.declared.turn.DispatchTurn.TheVariants as turn
use Rattle.m2_turn.specs.Mailing.{queueing}
use Rattle.m2_turn.proofs.Emptied.{nothing_dispatched, one_dispatched, some_more}
use Rattle.m2_turn.proofs.mailing.dispatch_all.Goals as goal

pub turning-init : goal.turning-init
turning-init g c = record { dispatches = nothing_dispatched g.D.Dispatcher.heard (places c.args.throttles.now) (queueing c.args.queued.now c.args.passes.now); any = refl; letters = c.requires.letters; passes = c.requires.passes }

pub turning-preserved : goal.turning-preserved
turning-preserved g c = record {
  dispatches = one_dispatched g.D.Dispatcher.heard (places c.args.throttles.now) turn.One (queueing c.args.queued.now c.args.passes.now) (queueing c.turning.queued c.turning.passes) (queueing c.turn.new.self c.turn.new.passes)
      c.turning.invariant.dispatches (record { waiting = c.in-One.ensures.waiting; heard_more = c.in-One.ensures.heard; word = c.in-One.ensures.word });
  any = ap not (sym (some_more c.turning.invariant.dispatches.dispatched c.turning.queued.waiting c.turn.new.self.waiting c.in-One.ensures.waiting));
  letters = c.turn.ensures.letters;
  passes = c.turn.ensures.passes;
}
