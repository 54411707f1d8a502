-- One node more, and at the end all.
use Rattle.std.proofs.Common.{rules, ◌≡◌, ◌<◌, ◌∙◌, true, Some, [], ◌∷◌, ap, arith, length, length-append, map, refl, subst, sym, take}
use Rattle.m2_bytes.specs.Items.{Holding}
use Rattle.m2_dispatch.specs.declared.logged.Logged.{Logged}
use Rattle.m2_fabric.specs.declared.port.Cut.{Cut}
use Rattle.m2_scenario.specs.Report.{heard_in}
use Rattle.m2_scenario.specs.declared.node.Node.{Node}
use Rattle.m2_run.specs.Cuts.{cuts_at}
use Rattle.m2_run.specs.Gathering.{GivesBack}
use Rattle.m2_run.proofs.CutLists.{cuts_there}
use Rattle.m2_run.proofs.InHand.{all_gathered, all_heard, all_in_hand, all_told, is_out, one_more}
use Rattle.m2_run.proofs.gathering.gather_all.Goals as goal

pub nodes-init : goal.nodes-init
nodes-init g c = record {
  in_hand = all_in_hand c.args.cuts.now c.args.nodes.now c.args.ends.items c.args.loose.items c.into_iter-loose.result.rest.items c.in-Ok.logs.items (g.F.Fabric.seen c.args.fabric.now) c.requires.out
      (c.into_iter-loose.ensures.rest ∙ c.into_vec.ensures) c.in-Ok.ensures.items;
  faults = refl;
  few = omega (arith, c.requires.count);
  room = omega (arith, c.in-Ok.ensures.capacity, c.in-Ok.ensures.len, c.len.ensures);
}

pub gather_node-requires : goal.gather_node-requires
gather_node-requires g c =
    let l = c.nodes in
    let x = c.index-nodes-place.result in
    subst (λ (y : Node). y.started ≡ true → (g.F.Fabric.seen l.fabric).out c.len-place.result ≡ Some y.centers) (sym c.index-nodes-place.is)
    (is_out c.args.cuts.now c.args.nodes.now c.args.ends.items l.ends.items c.pop.new.self.items c.in-Some.ended c.args.loose.items l.loose.rest.items l.logs.items (g.F.Fabric.seen c.args.fabric.now)
    (g.F.Fabric.seen l.fabric) c.len-place.result x l.invariant.in_hand c.in-Some.ensures.items (omega (arith, c.len-place.ensures)) l.invariant.few)

pub nodes-preserved : goal.nodes-preserved
nodes-preserved g c =
    let l = c.nodes in
    let seen = g.F.Fabric.seen in
    let last = c.in-Some.ensures.items in
    let one = length-append c.pop.new.self.items (c.in-Some.ended ∷ []) in
    let told = c.in-Ok-gather_node.ensures in
    let x = c.index-nodes-place.result in
    let its = c.as_slice-its.result.now in
    let gives = subst (λ (y : Node). GivesBack its y.started c.len-place.result c.in-Some.ended (take c.in-Some.ended.halves l.loose.rest.items) (seen l.fabric) (seen c.gather_node.new.fabric))
    c.index-nodes-place.is told.gives_back in
    let within : c.len-place.result < length c.args.cuts.now = omega (arith, c.requires.cuts, c.len-place.ensures, l.invariant.few, ap length last, one) in
    let own : c.as_slice-its.result.now ≡ cuts_at c.args.cuts.now c.len-place.result =
    c.as_slice-its.ensures ∙ ap (λ (h : Holding Cut). h.items) c.index-cuts-place.is ∙ cuts_there c.args.cuts.now c.len-place.result c.index-cuts-place.result within in
    record {
      in_hand = one_more c.args.cuts.now c.args.nodes.now c.args.ends.items l.ends.items c.pop.new.self.items c.in-Some.ended c.args.loose.items l.loose.rest.items c.gather_node.new.loose.rest.items
          l.logs.items c.push_reserved.new.self.items c.in-Ok-gather_node.log (seen c.args.fabric.now) (seen l.fabric) (seen c.gather_node.new.fabric) c.len-place.result x
          its l.invariant.in_hand last (omega (arith, c.len-place.ensures)) l.invariant.few own gives told.loose c.push_reserved.ensures.items told.log;
      faults = c.gather_node.ensures.faults ∙ l.invariant.faults;
      few = omega (arith, l.invariant.few, ap length last, one);
      room = omega (arith, l.invariant.room, c.push_reserved.ensures.len, c.push_reserved.ensures.capacity, ap length last, one);
    }

pub returns-clause-gathered : goal.returns-clause-gathered
returns-clause-gathered g c =
    let l = c.nodes in
    let seen = g.F.Fabric.seen in
    let none : l.ends.items ≡ [] = search rules in
    all_gathered c.args.cuts.now c.args.nodes.now c.args.ends.items l.ends.items c.args.loose.items l.loose.rest.items l.logs.items (seen c.args.fabric.now) (seen l.fabric) l.invariant.in_hand none

pub returns-clause-ports : goal.returns-clause-ports
returns-clause-ports g c =
    let l = c.nodes in
    let seen = g.F.Fabric.seen in
    let none : l.ends.items ≡ [] = search rules in
    all_told c.args.cuts.now c.args.nodes.now c.args.ends.items l.ends.items c.args.loose.items l.loose.rest.items l.logs.items (seen c.args.fabric.now) (seen l.fabric) l.invariant.in_hand none

pub returns-clause-logs : goal.returns-clause-logs
returns-clause-logs g c kept are =
    let l = c.nodes in
    let none : l.ends.items ≡ [] = search rules in
    ap (λ (h : Holding (Holding Logged)). map heard_in h.items) c.from_vec.ensures ∙ ap (map heard_in) c.reverse.ensures.items
    ∙ all_heard c.args.cuts.now c.args.nodes.now c.args.ends.items l.ends.items c.args.loose.items l.loose.rest.items l.logs.items (g.F.Fabric.seen c.args.fabric.now) (g.F.Fabric.seen l.fabric) l.invariant.in_hand
    none kept are
