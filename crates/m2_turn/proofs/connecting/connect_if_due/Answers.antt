use Rattle.std.proofs.Common.{ap, refl, subst, sym}
use Rattle.m2_fabric.specs.Port.{SeenPort}
use Rattle.m2_turn.specs.Connecting.{IsMadeBy}
use Rattle.m2_turn.proofs.Opened.{is_due, is_new, opened_made, room_made}
use Rattle.m2_turn.proofs.Told.{keeps_on, none_made, opened_told, room_told}
use Rattle.m2_turn.proofs.connecting.connect_if_due.Goals as goal

pub connected-requires-clause-due : goal.connected-requires-clause-due
connected-requires-clause-due g c = is_due c.args.now c.in-Connect.at c.due.result c.args.side.now c.reserve_socket.new.self c.due.ensures c.in-Connect.is c.reserve_socket.ensures.only

pub connected-requires-clause-socket : goal.connected-requires-clause-socket
connected-requires-clause-socket g c =
    is_new c.session.result.now.peer _ _ c.session.result.now c.reserve_socket.new.self c.is_record.ensures c.session.ensures.facts refl
    (room_made _ c.args.side.now c.reserve_socket.new.self c.reserve_socket.ensures.only c.requires.made) c.in-Made.ensures.0

pub not_connected-requires : goal.not_connected-requires
not_connected-requires g c = is_due c.args.now c.in-Connect.at c.due.result c.args.side.now c.reserve_socket.new.self c.due.ensures c.in-Connect.is c.reserve_socket.ensures.only

pub returns-in-Ok-clause-made : goal.returns-in-Ok-clause-made
returns-in-Ok-clause-made g c =
    subst (λ made. IsMadeBy made c.connected.new.self) (sym (ap (λ (p : SeenPort). p.made) c.in-Made.ensures.2))
    (opened_made _ _ c.reserve_socket.new.self c.connected.new.self (room_made _ c.args.side.now c.reserve_socket.new.self c.reserve_socket.ensures.only c.requires.made) c.in-Ok.ensures.ok)

pub returns-in-Ok-clause-keeps : goal.returns-in-Ok-clause-keeps
returns-in-Ok-clause-keeps g c =
    keeps_on _ _ c.args.side.now c.reserve_socket.new.self c.connected.new.self (none_made _)
    (room_told _ c.args.side.now c.reserve_socket.new.self c.reserve_socket.ensures.only)
    (opened_told _ _ c.reserve_socket.new.self c.connected.new.self c.is_record.ensures c.is_record-in-Ok.ensures c.in-Made.ensures.0.first c.in-Ok.ensures.ok)
