-- Those of one center more.
use Rattle.std.proofs.Common.{◌+◌, ◌≡◌, List, true, drop, subst, sym, ◌∙◌}
use Rattle.m2_bytes.proofs.m2_lemmas.Lists.{all_append}
use Rattle.m2_dispatch.specs.declared.logged.Logged.{Logged}
use Rattle.m2_fabric.specs.Sockets.{goes_to}
use Rattle.m2_fabric.specs.declared.socket.SocketId.{SocketId}
use Rattle.m2_node.specs.m2_script.m2_center.Center.{CenterNow}
use Rattle.m2_run.specs.Still.{AreMetOf, IsMet, log_in}
use Rattle.m2_run.proofs.Leaves.{made_over, next_given, none_given}
use Rattle.m2_run.proofs.still.are_met_over.Goals as goal

pub centers-preserved : goal.centers-preserved
centers-preserved g c rest =
    let l = c.centers in
    let cs = c.args.centers.now in
    let x = c.center-item.result in
    let near = c.args.near.now in
    let far = c.args.far.now in
    let at = c.args.to.now.at in
    let its = subst (AreMetOf at near far) (c.as_slice.ensures ∙ c.made.ensures) c.if-not-are_met_of.ensures in
    l.invariant (subst (AreMetOf at near far) (sym (next_given (λ (d : CenterNow (List Logged)). d.port.made) cs l.center-index x c.centers-test.true c.center-item.is))
    (all_append (λ (s : SocketId). goes_to at s ≡ true → IsMet (log_in near s) (log_in far s)) x.port.made (made_over (drop (l.center-index + 1) cs)) its rest))

pub returns : goal.returns
returns g c =
    let l = c.centers in
    let cs = c.args.centers.now in
    l.invariant (subst (AreMetOf c.args.to.now.at c.args.near.now c.args.far.now) (sym (none_given (λ (d : CenterNow (List Logged)). d.port.made) cs l.center-index c.centers-test.false)) tt)
