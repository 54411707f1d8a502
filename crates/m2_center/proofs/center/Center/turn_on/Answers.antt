-- So it is where it hands on.
use Rattle.m2_center.specs.CenterTurn.{means_at}
use Rattle.m2_center.proofs.Dryness.{memory_kept}
use Rattle.m2_center.proofs.TurnParts.{is_turn}
use Rattle.m2_center.proofs.center.Center.turn_on.Goals as goal

pub returns-clause-turns : goal.returns-clause-turns
returns-clause-turns g c =
    let m = means_at c.args.now c.args.shared.now.numbers c.args.shared.now.throttles in
    rw (c.ended_so.ensures, memory_kept c.take_turn_on-taken.result c.take_turn_on-taken.new.handed c.is_still-still.result)
    (is_turn g.row.P-End.Denot g.D.Dispatcher.heard m c.args.into.now.items c.take_turn_on-taken.new.into.items c.take_turn_on-taken.result c.args.self.now c.take_turn_on-taken.new.self
    c.take_turn_on-taken.ensures.turns)

pub returns-clause-dispatched : goal.returns-clause-dispatched
returns-clause-dispatched g c = rw (c.ended_so.ensures, memory_kept c.take_turn_on-taken.result c.take_turn_on-taken.new.handed c.is_still-still.result) c.take_turn_on-taken.ensures.turns
