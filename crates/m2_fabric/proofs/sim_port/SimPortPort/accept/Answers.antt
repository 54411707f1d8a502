use Rattle.std.proofs.Common.{◌≡◌, List, [], ◌∷◌, ◌++◌, Some, refl, ap, ◌∙◌}
use Rattle.m2_fabric.specs.End.{SeenEnd}
use Rattle.m2_fabric.specs.declared.socket.SocketId.{SocketId}
use Rattle.m2_fabric.proofs.Waits.{accepted_is_new}
use Rattle.m2_fabric.proofs.sim_port.SimPortPort.accept.Goals as goal

pub returns : goal.returns
returns c =
    let i = c.self.inside in
    let e = c.in-Some.end in
    let rest = c.take_first.new.ends.items in
    let first : i.waiting.items ≡ e ∷ rest = c.in-Some.ensures in
    let made : c.push.new.self.sockets ≡ i.made.sockets ++ e.id ∷ [] =
    c.push.ensures
    ∙ ap (λ (xs : List SocketId). xs ++ c.id.result ∷ []) c.reserve.ensures.same
    ∙ ap (λ (s : SocketId). i.made.sockets ++ s ∷ []) c.id.ensures in
    rw (← c.self.view_is) (
      refl,
      accepted_is_new i.at i.made.sockets i.waiting.items e rest c.self.invariant first,
      (ap (λ (es : List SeenEnd). Some es) first, λ none. absurd (cc)),
      rw made refl,
    )
