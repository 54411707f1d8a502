use Rattle.m2_turn.specs.Beside.{served}
use Rattle.m2_turn.proofs.Told.{stay}
use Rattle.m2_turn.proofs.records_turn.turn_each.Goals as goal

pub returns-clause-consistent : goal.returns-clause-consistent
returns-clause-consistent g c =
    stay (served c.args.work.now (g.P.Port.seen c.args.port.now).made c.args.records.now) (served c.turn_in_order.new.work (g.P.Port.seen c.turn_in_order.new.port).made c.turn_in_order.new.records)
    c.turn_in_order.ensures.made c.turn_in_order.ensures.supplied c.turn_in_order.ensures.keeps
