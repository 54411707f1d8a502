use Rattle.std.proofs.Common.{◌≡◌, List, [], ◌∷◌, ◌++◌, refl, sym, ap, ◌∙◌}
use Rattle.m2_fabric.specs.End.{SeenEnd, fresh_end}
use Rattle.m2_fabric.specs.declared.socket.SocketId.{SocketId}
use Rattle.m2_fabric.specs.Port.{ids, socket_after}
use Rattle.m2_fabric.proofs.Waits.{opened_is_new}
use Rattle.m2_fabric.proofs.sim_port.SimPortPort.connect.Goals as goal

pub returns : goal.returns
returns c =
    let i = c.self.inside in
    let e = c.new.result in
    let to = c.args.to.now in
    let next : c.in-Some.id ≡ socket_after (i.made.sockets ++ ids i.waiting.items) i.at to =
    c.in-Some.ensures ∙ ap (λ (xs : List SeenEnd). socket_after (i.made.sockets ++ ids xs) i.at to) c.as_slice.ensures.value in
    let fresh : e ≡ fresh_end (socket_after (i.made.sockets ++ ids i.waiting.items) i.at to) = c.new.ensures ∙ ap fresh_end next in
    let made : c.push.new.self.sockets ≡ i.made.sockets ++ e.id ∷ [] =
    c.push.ensures
    ∙ ap (λ (xs : List SocketId). xs ++ c.in-Some.id ∷ []) c.reserve.ensures.same
    ∙ ap (λ (x : SeenEnd). i.made.sockets ++ x.id ∷ []) (sym c.new.ensures) in
    rw (← c.self.view_is) (opened_is_new i.at to i.made.sockets i.waiting.items e fresh, (rw fresh refl, record { end = fresh; cuts = refl }), rw made refl)
