-- A socket is known where it is one of the names.
use Rattle.std.proofs.Common.{◌∙◌, ap}
use Rattle.std.specs.Prelude.{◌||◌}
use Rattle.m2_history.specs.Sockets.{JournalsNow}
use Rattle.m2_history.specs.Woven.{knows}
use Rattle.m2_history.proofs.Known.{among_both}
use Rattle.m2_history.proofs.sockets.KnownSockets.has.Goals as goal

pub returns : goal.returns
returns c =
    c.has.ensures ∙ among_both c.self.inside.names c.self.inside.judged.items _ c.args.k.now c.self.invariant
    ∙ ap (λ (js : JournalsNow). knows js.a c.args.k.now || knows js.b c.args.k.now) c.self.view_is
