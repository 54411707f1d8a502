-- The records that were lent come back as many as they were.
use Rattle.std.proofs.Common.{◌≡◌, ℕ, List, map, sym, ◌∙◌}
use Rattle.m2_fabric.specs.declared.socket.SocketId.{SocketId}
use Rattle.m2_turn.specs.HalfTurn.{homes}
use Rattle.m2_turn.specs.HalvesTurn.{TurnsHalves, callers, sessions_of}
use Rattle.m2_turn.specs.RecordTurn.{means_of}
use Rattle.m2_turn.specs.Sessions.{AreConsistent, peer_of, supply_of}
use Rattle.m2_center.proofs.Lent.{came_back, of_both}
use Rattle.m2_center.proofs.turning.answer_all.Goals as goal

pub returns-clause-turns : goal.returns-clause-turns
returns-clause-turns g c =
    of_both
    (λ was is. TurnsHalves g.row.E.Denot c.turn_halves.result (means_of c.args.now c.args.work.now) (callers c.args.halves.now c.args.loose.now.items (homes was c.args.work.now))
    (callers c.turn_halves.new.halves c.turn_halves.new.loose.items (homes is c.turn_halves.new.work)))
    _ _ _ _ c.as_mut_slice.ensures.value
    (sym (came_back c.args.records.now.items c.turn_halves.new.records c.args.records.now.len (c.turn_halves.auto.records ∙ c.as_mut_slice.ensures.len)))
    c.turn_halves.ensures.turns

pub returns-clause-consistent : goal.returns-clause-consistent
returns-clause-consistent g c =
    of_both
    (λ was is. (made : List SocketId) (entity : ℕ) → AreConsistent (supply_of c.args.work.now) entity (sessions_of made (callers c.args.halves.now c.args.loose.now.items (homes was c.args.work.now)))
    → AreConsistent (supply_of c.turn_halves.new.work) entity (sessions_of made (callers c.turn_halves.new.halves c.turn_halves.new.loose.items (homes is c.turn_halves.new.work))))
    _ _ _ _ c.as_mut_slice.ensures.value
    (sym (came_back c.args.records.now.items c.turn_halves.new.records c.args.records.now.len (c.turn_halves.auto.records ∙ c.as_mut_slice.ensures.len)))
    c.turn_halves.ensures.consistent

pub returns-clause-peers : goal.returns-clause-peers
returns-clause-peers g c =
    of_both (λ was is. map peer_of is ≡ map peer_of was) _ _ _ _ c.as_mut_slice.ensures.value
    (sym (came_back c.args.records.now.items c.turn_halves.new.records c.args.records.now.len (c.turn_halves.auto.records ∙ c.as_mut_slice.ensures.len)))
    c.turn_halves.ensures.peers
