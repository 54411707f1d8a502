use Rattle.std.proofs.Common.{◌++◌, ◌∷◌, [], arith}
use Rattle.std.proofs.lemmas.List.{length-append}
use Rattle.m2_turn.specs.declared.accepting.Accepted.TheVariants as accepts
use Rattle.m2_turn.specs.Accepting.{Accepting, accepting}
use Rattle.m2_turn.proofs.Joined.{accepts_stay, and_one, ends_accepts}
use Rattle.m2_turn.proofs.accepting.accept_all.Goals as goal

pub accepts-preserved : goal.accepts-preserved
accepts-preserved g c =
    let behind : Accepting = accepting (g.P.Port.seen c.accept_once.new.port) c.accept_once.new.halves c.accept_once.new.loose.items in
    record {
      stood = c.accepts.invariant.stood ++ behind ∷ [];
      takes = and_one c.args.entity c.accepts.invariant.stood _ _ behind c.accepts.invariant.takes c.in_default.ensures.accepts;
      count = omega (arith, length-append c.accepts.invariant.stood (behind ∷ []), c.accepts.invariant.count);
      room = c.accept_once.ensures.room;
    }

pub returns-in-Some-clause-accepts : goal.returns-in-Some-clause-accepts
returns-in-Some-clause-accepts g c =
    ends_accepts c.args.entity c.in-Some.end _ (accepting (g.P.Port.seen c.accepts.port) c.accepts.halves c.accepts.loose.items) _
    (record { stood = c.accepts.invariant.stood; takes = c.accepts.invariant.takes; within = omega (arith, c.accepts.invariant.count, c.accepts-test.true) })
    c.in-Some.ensures.accepts

pub returns-in-Some-clause-consistent : goal.returns-in-Some-clause-consistent
returns-in-Some-clause-consistent g c supply records are =
    accepts_stay supply c.args.entity records c.in-Some.end _ _ are
    (ends_accepts c.args.entity c.in-Some.end _ (accepting (g.P.Port.seen c.accepts.port) c.accepts.halves c.accepts.loose.items) _
    (record { stood = c.accepts.invariant.stood; takes = c.accepts.invariant.takes; within = omega (arith, c.accepts.invariant.count, c.accepts-test.true) })
    c.in-Some.ensures.accepts)

pub returns-clause-consistent : goal.returns-clause-consistent
returns-clause-consistent g c supply records are =
    accepts_stay supply c.args.entity records accepts.Busy _ _ are
    (record { stood = c.accepts.invariant.stood; takes = c.accepts.invariant.takes; many = omega (arith, c.accepts.invariant.count, c.accepts-test.false, c.accepts.auto.counter-end) })
