use Rattle.std.proofs.Common.{ap, arith, length, ◌∙◌}
use Rattle.m2_turn.proofs.Queued.{one_round, round_length}
use Rattle.m2_turn.proofs.halves_turn.turn_round.Goals as goal
use Rattle.m2_turn.proofs.halves_turn.turn_round.Goals.{in-Some, in_default}

pub push-requires : goal.push-requires
push-requires g c =
    let all = round_length c.args.halves.now c.round.halves c.round.counter c.round.invariant in
    let one = ap length c.in-Some.ensures in
    omega (arith, all, one, c.requires.few)

pub round-preserved : goal.round-preserved
round-preserved g c =
    let all = round_length c.args.halves.now c.round.halves c.round.counter c.round.invariant in
    elim c.match-pop.branch [
      | in-Some w ↦ w.halves-is ∙ w.push.ensures
          ∙ one_round c.args.halves.now c.round.counter c.round.halves w.in-Some.p c.pop.new.self (omega (arith, c.round-test.true, c.requires.within)) c.round.invariant w.in-Some.ensures
      | in_default w ↦ (let none = ap length w.in_default.ensures.0 in absurd (omega (arith, all, none, c.round-test.true, c.requires.within)))
    ]
