use Rattle.std.proofs.Common.{ap, refl}
use Rattle.std.specs.Prelude.{◌==◌}
use Rattle.m2_core.proofs.Asked.{ask_as, asks_as, asks_with}
use Rattle.m2_core.proofs.side.Core.ask.Goals as goal

pub returns-in-Number-clause-leaves : goal.returns-in-Number-clause-leaves
returns-in-Number-clause-leaves g c =
    let self = c.self.inside in
    asks_as _ _ _ _ c.self.view_is
    (asks_with _ c.reserve_ask.new.self c.compose_ask.new.self _ c.cookie_at-cookie.result c.in-Number.number c.in-Ok.ask
    c.reserve_ask.ensures.room.same c.reserve_ask.ensures.room.only
    (ap (λ x. x.live.session.server_cookie == 0) c.self-inside.view_is)
    (c.cookie_at-cookie.ensures (record { mine = self.mine; peer = self.peer; policy = self.policy; node = self.node }) refl refl)
    (ask_as c.in-Ok.ask _ _ _ c.self.view_is c.in-Ok.ensures.value) c.compose_ask.ensures.asks)
