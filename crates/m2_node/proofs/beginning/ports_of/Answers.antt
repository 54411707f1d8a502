-- The ports of one node more.
use Rattle.std.proofs.Common.{◌∙◌, ◌+◌, ◌++◌, List, drop, map, ap, subst}
use Rattle.std.specs.Prelude.{slice_get}
use Rattle.std.proofs.lemmas.List.{map_push}
use Rattle.m2_script.proofs.SoFar.{of_some}
use Rattle.m2_node.specs.Begins.{AreDoorsOf}
use Rattle.m2_node.specs.Rooms.{HomeAt, homes_if, homes_of}
use Rattle.m2_node.proofs.InboxLists.{homes_next}
use Rattle.m2_node.proofs.OutPorts.{all_out, if_some, its_ports_more, one_out_more, still_listening}
use Rattle.m2_node.proofs.Places.{there_at}
use Rattle.m2_node.proofs.beginning.ports_of.Goals as goal

pub ports_at-requires-clause-listening : goal.ports_at-requires-clause-listening
ports_at-requires-clause-listening g c =
    still_listening c.args.nodes.now c.nodes.k (g.F.Fabric.seen c.args.fabric.now) (g.F.Fabric.seen c.nodes.fabric) c.requires.listening c.nodes.invariant.out

pub ports_at-requires-clause-doors : goal.ports_at-requires-clause-doors
ports_at-requires-clause-doors g c =
    let l = c.nodes in
    let nodes = c.args.nodes.now in
    let x = there_at nodes l.k c.nodes-test.true in
    let inbox = slice_get g.B.Inboxes.inboxes in
    if_some (slice_get nodes l.k) (λ y. (rest : List HomeAt) × AreDoorsOf inbox (homes_if y.started y.centers ++ rest) l.doors) x.item x.there
    (homes_of (drop (l.k + 1) nodes), subst (λ hs. AreDoorsOf inbox hs l.doors) (homes_next nodes l.k x.item x.there) l.invariant.doors)

pub nodes-preserved : goal.nodes-preserved
nodes-preserved g c =
    let l = c.nodes in
    let nodes = c.args.nodes.now in
    let x = there_at nodes l.k c.nodes-test.true in
    let inbox = slice_get g.B.Inboxes.inboxes in
    let its = c.in_ok-its.its in
    record {
      ports = its_ports_more nodes l.k its.items (map (λ ps. ps.items) l.ports.items) (map (λ ps. ps.items) c.push.new.self.items) l.invariant.ports c.in_ok-its.ensures.ports
          (ap (map (λ ps. ps.items)) c.in_ok-push.ensures.items ∙ map_push (λ ps. ps.items) l.ports.items its);
      out = one_out_more nodes l.k (g.F.Fabric.seen c.args.fabric.now) (g.F.Fabric.seen l.fabric) (g.F.Fabric.seen c.ports_at.new.fabric) c.nodes-test.true l.invariant.out c.in_ok-its.ensures.out;
      faults = c.ports_at.ensures.faults ∙ l.invariant.faults;
      doors = of_some (slice_get nodes l.k) (λ y. (rest : List HomeAt) → AreDoorsOf inbox (homes_if y.started y.centers ++ rest) l.doors → AreDoorsOf inbox rest c.ports_at.new.doors) x.item x.there
          c.in_ok-its.ensures.doors (homes_of (drop (l.k + 1) nodes)) (subst (λ hs. AreDoorsOf inbox hs l.doors) (homes_next nodes l.k x.item x.there) l.invariant.doors);
    }

pub returns-clause-out : goal.returns-clause-out
returns-clause-out g c = all_out c.args.nodes.now c.nodes.k (g.F.Fabric.seen c.args.fabric.now) (g.F.Fabric.seen c.nodes.fabric) c.nodes-test.false c.nodes.invariant.out
