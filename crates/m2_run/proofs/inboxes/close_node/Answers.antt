-- They are closed by all its rights.
use Rattle.std.proofs.Common.{reverse, refl, ap, sym, subst}
use Rattle.m2_run.specs.Closing.{AreAllRightsTo, AreLeftOver}
use Rattle.m2_run.specs.Opened.{LeftNow, OpenedNow}
use Rattle.m2_run.proofs.Closes.{closed_over, rights_of_node}
use Rattle.m2_node.proofs.StepLists.{on_ok_so}
use Rattle.m2_run.proofs.inboxes.close_node.Goals as goal

pub close_some-requires : goal.close_some-requires
close_some-requires g c =
    let bs = reverse c.args.inboxes.now.items in
    subst (λ (o : OpenedNow). AreAllRightsTo bs o.puts o.gets) (sym c.node.view_is) (rights_of_node bs c.args.node.now c.requires.rights)

pub returns-clause-closed : goal.returns-clause-closed
returns-clause-closed g c =
    let rights = c.node.inside.rights in
    on_ok_so c.close_some.result _ _
    (λ over. closed_over c.args.node.now _ _ c.node.view_is c.requires.weighs refl (ap (λ (l : LeftNow). l.opened) c.left.view_is) (ap (λ (l : LeftNow). l.at_door) c.left.view_is)
    (subst (λ hs. AreLeftOver hs c.close_some.new.into.items rights.puts.items rights.gets.items) (ap (λ (l : LeftNow). l.on_way) c.left.view_is) over)) c.close_some.ensures.over
