-- Nothing of it is ended at first, and then all its centers are.
use Rattle.std.specs.Prelude.{slice_get}
use Rattle.std.proofs.Common.{List, ap, subst, sym}
use Rattle.std.specs.List.{AllByRecursion}
use Rattle.m2_node.specs.m2_script.m2_center.Center.{CenterNow}
use Rattle.m2_dispatch.specs.declared.logged.Logged.{Logged}
use Rattle.m2_dispatch.specs.Heard.{heard_by}
use Rattle.m2_node.specs.Handing.{AreHanded}
use Rattle.m2_run.specs.Kept.{AreOpened}
use Rattle.m2_node.specs.Lists.{SideBySide}
use Rattle.m2_run.specs.Opened.{OpenedNow}
use Rattle.m2_run.specs.Rests.{IsEndOfCenter}
use Rattle.m2_run.specs.Types.{IsCenterOfTypes}
use Rattle.m2_run.proofs.Apart.{no_rights, node_opened, nothing_weighs}
use Rattle.m2_run.proofs.ending.end_node.Goals as goal

pub returns-in-Ok : goal.returns-in-Ok
returns-in-Ok g c =
    let p = c.into_parts-centers in
    let cuts = c.args.cuts.now in
    let inbox = slice_get g.B.Inboxes.inboxes in
    let old : OpenedNow = record {
      centers = c.new.result.items;
      left = record { opened = c.new-2.result.items; at_door = c.new-3.result.items; on_way = c.new-4.result.items };
      puts = c.new-5.result.items;
      gets = c.new-6.result.items;
    } in
    let new : OpenedNow = c.end_centers.new.ended in
    let ends = c.in-Ok.ensures.ends in
    let all = node_opened cuts inbox c.args.number p.result.0.items old new c.new.ensures.items c.new-2.ensures.items ends in
    record {
      end = record {
        ends = subst (λ (cs : List (CenterNow (List Logged))). SideBySide IsEndOfCenter cs new.centers) p.ensures.centers all.0;
        opened = subst (λ (cs : List (CenterNow (List Logged))). AreOpened cuts cs new.left.opened) p.ensures.centers all.1;
      };
      weighs = ends.weighs (nothing_weighs old c.new.ensures.items c.new-3.ensures.items c.new-4.ensures.items c.new-5.ensures.items c.new-6.ensures.items);
      rights = ends.rights (no_rights inbox c.args.number old c.new-5.ensures.items c.new-6.ensures.items);
      types = subst (AllByRecursion IsCenterOfTypes) p.ensures.centers c.in-Ok.ensures.types;
      log = record {
        log = c.in_default.ensures.log.0;
        is = subst (AreHanded c.args.node.centers) (ap heard_by (sym c.in_default.ensures.log.1)) (p.ensures.dispatched.handed c.in_default.ensures.lasted);
        last = c.in_default.ensures.log.2;
      };
    }
