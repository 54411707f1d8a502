use Rattle.std.proofs.Common.{[], ◌∷◌, ◌++◌, inr, arith, length-append, refl, subst, ◌∙◌}
use Rattle.m2_turn.specs.declared.half_turn.HalfMoved.TheVariants.{GoesOn}
use Rattle.m2_turn.specs.HalfTurn.{TurnsOnce, homes}
use Rattle.m2_turn.specs.RecordTurn.{means_of}
use Rattle.m2_turn.proofs.Led.{same_means}
use Rattle.m2_turn.proofs.Turned.{and_reply}
use Rattle.m2_turn.proofs.half_turn.turn_half.Goals as goal

pub asks-init : goal.asks-init
asks-init g c = record {
  stood = [];
  replies = refl;
  count = refl;
  consistent = (λ o all. all);
  peers = refl;
  number_place = refl;
  takes = c.requires.takes;
  same = record { numbers = refl; throttles = refl };
  number_pass = refl;
  passes = refl;
}

pub turn_once-requires-clause-consistent : goal.turn_once-requires-clause-consistent
turn_once-requires-clause-consistent g c = (c.requires.consistent.0, c.asks.invariant.consistent c.requires.consistent.0 c.requires.consistent.1)

pub returns-in-Ends-clause-consistent : goal.returns-in-Ends-clause-consistent
returns-in-Ends-clause-consistent g c = λ o all. c.in-Ends.ensures.consistent o (c.asks.invariant.consistent o all)

pub asks-preserved : goal.asks-preserved
asks-preserved g c = record {
  stood = c.asks.invariant.stood ++ record { pending = c.in-GoesOn.next; homes = homes c.turn_once.new.records c.turn_once.new.work } ∷ [];
  replies = and_reply g.row.E.Denot (means_of c.args.now c.args.work.now) c.asks.invariant.stood _ (record { pending = c.asks.pending; homes = homes c.asks.records c.asks.work }) _ c.asks.invariant.replies
      (subst (λ m. TurnsOnce {E = g.row.E.Denot} (GoesOn c.in-GoesOn.next) c.asks.pending m (homes c.asks.records c.asks.work) (homes c.turn_once.new.records c.turn_once.new.work))
      (same_means c.args.now c.args.work.now c.asks.work c.asks.invariant.same) c.in-GoesOn.ensures.turns);
  count = omega (arith, length-append c.asks.invariant.stood (record { pending = c.in-GoesOn.next; homes = homes c.turn_once.new.records c.turn_once.new.work } ∷ []), c.asks.invariant.count);
  consistent = (λ o all. c.in-GoesOn.ensures.consistent o (c.asks.invariant.consistent o all));
  peers = c.turn_once.ensures.peers ∙ c.asks.invariant.peers;
  number_place = c.turn_once.ensures.number_place ∙ c.asks.invariant.number_place;
  takes = c.turn_once.ensures.takes;
  same = record { numbers = c.turn_once.ensures.same.numbers ∙ c.asks.invariant.same.numbers; throttles = c.turn_once.ensures.same.throttles ∙ c.asks.invariant.same.throttles };
  number_pass = c.turn_once.ensures.number_pass ∙ c.asks.invariant.number_pass;
  passes = c.turn_once.ensures.passes ∙ c.asks.invariant.passes;
}

pub returns-clause-turns : goal.returns-clause-turns
returns-clause-turns g c = inr (record {
  stood = c.asks.invariant.stood;
  pending = c.asks.pending;
  replies = c.asks.invariant.replies;
  many = omega (arith, c.asks.invariant.count, c.asks-test.false, c.asks.auto.counter-end);
  stays = refl;
})
