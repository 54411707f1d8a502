-- The number at the socket's place, or none.
use Rattle.std.proofs.Common.{◌∙◌, ap, arith}
use Rattle.std.proofs.lemmas.List.{get_or_read}
use Rattle.m2_history.specs.Sockets.{JournalsNow}
use Rattle.m2_history.specs.Woven.{judged_times}
use Rattle.m2_history.proofs.Known.{found_times, no_times}
use Rattle.m2_history.proofs.sockets.KnownSockets.judged.Goals as goal

pub returns-then-place-len : goal.returns-then-place-len
returns-then-place-len c =
    found_times c.self.inside.names c.self.inside.judged.items _ c.args.k.now c.place-place.result _ c.self.invariant c.place-place.ensures
    (get_or_read c.self.inside.judged.items c.place-place.result _ (omega arith) c.index.ensures 0)
    ∙ ap (λ (js : JournalsNow). judged_times js.a js.b c.args.k.now) c.self.view_is

pub returns-else-place-len : goal.returns-else-place-len
returns-else-place-len c =
    no_times c.self.inside.names c.self.inside.judged.items _ c.args.k.now c.place-place.result c.self.invariant c.place-place.ensures (omega (arith, c.len.ensures))
    ∙ ap (λ (js : JournalsNow). judged_times js.a js.b c.args.k.now) c.self.view_is
