use Rattle.std.proofs.Common.{ap, not, refl, sym}
use Rattle.m2_turn.proofs.Emptied.{some_more}
use Rattle.m2_turn.proofs.HandingOn.{no_letter_more, no_letter_on, one_letter_on}
use Rattle.m2_turn.proofs.handing_on.hand_all_on.Goals as goal

pub turning-init : goal.turning-init
turning-init g c = record { on = no_letter_on g.D.Dispatcher.heard c.args.queued.now c.args.into.now.items; any = refl }

pub turning-preserved : goal.turning-preserved
turning-preserved g c = record {
  on = one_letter_on g.D.Dispatcher.heard c.args.queued.now c.turning.queued c.hand_on.new.self c.args.into.now.items c.turning.into.items c.hand_on.new.into.items
      c.turning.invariant.on c.in-One.ensures.waiting c.in-One.ensures.heard c.in-One.ensures.into c.in-One.ensures.letters;
  any = ap not (sym (some_more c.turning.invariant.on.dispatched c.turning.queued.waiting c.hand_on.new.self.waiting c.in-One.ensures.waiting));
}

pub returns-in-NoMemory-clause-on : goal.returns-in-NoMemory-clause-on
returns-in-NoMemory-clause-on g c =
    no_letter_more g.D.Dispatcher.heard c.args.queued.now c.turning.queued c.hand_on.new.self c.args.into.now.items c.turning.into.items c.hand_on.new.into.items
    c.turning.invariant.on c.in-NoMemory.ensures.waiting c.in-NoMemory.ensures.heard c.in-NoMemory.ensures.into
