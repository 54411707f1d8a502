use Rattle.std.proofs.Common.{◌≡◌, ◌<◌, length, List, Some, false, sym, ◌∙◌, ap, subst}
use Rattle.m2_addr.specs.declared.addr.Addr.{Addr}
use Rattle.m2_fabric.specs.InStep.{IsInStep, SeenFabric}
use Rattle.m2_fabric.specs.Kept.{is_kept}
use Rattle.m2_fabric.specs.Meeting.{acceptor}
use Rattle.m2_fabric.proofs.Entering.{arrives_there, entered_is_kept, entered_stays_in_step}
use Rattle.m2_fabric.proofs.sim_fabric.SimFabric.enter.Goals as goal

pub invariant_of-self : goal.invariant_of-self
invariant_of-self g c =
    let i = c.self.inside in
    let id = c.args.id.now in
    let nodes = length i.nodes.items in
    let unkept : is_kept id i.pairs.items ≡ false = sym (c.is_kept.ensures ∙ ap (is_kept id) c.as_slice-2.ensures.value) ∙ c.if-is_kept.false in
    let P : List Addr → Type 0 = λ ns. c.in-Some.other < length ns in
    let Q : SeenFabric → Type 0 = λ f. c.args.node < length f.nodes in
    let from : c.args.node < nodes = subst Q (sym c.self.view_is) c.requires.node in
    entered_is_kept c.keep.result nodes c.args.node c.in-Some.other id c.new.result i.pairs.items c.keep.new.pairs.items c.new.ensures from
    (subst P c.as_slice.ensures c.in-Some.ensures.within) c.in-Some.ensures.differs unkept c.self.invariant c.keep.ensures.ok c.keep.ensures.err

pub returns-clause-in_step : goal.returns-clause-in_step
returns-clause-in_step g c =
    let i = c.self.inside in
    let id = c.args.id.now in
    let unkept : is_kept id i.pairs.items ≡ false = sym (c.is_kept.ensures ∙ ap (is_kept id) c.as_slice-2.ensures.value) ∙ c.if-is_kept.false in
    let P : SeenFabric → Type 0 = λ f. IsInStep (record { fabric = f; holder = g.H.Holder.seen c.args.h.now }) in
    let f : SeenFabric = record { nodes = i.nodes.items; looked = i.looked.items; pairs = i.pairs.items } in
    let in_step : P f = subst P (sym c.self.view_is) c.requires.in_step in
    entered_stays_in_step c.keep.result f (g.H.Holder.seen c.args.h.now) (g.H.Holder.seen c.incoming.new.self) c.args.node c.in-Some.other id c.new.result c.keep.new.pairs.items c.new.ensures
    in_step unkept c.in_ok-incoming.ensures.ok c.keep.ensures.ok

pub returns-clause-arrive : goal.returns-clause-arrive
returns-clause-arrive g c =
    let i = c.self.inside in
    let id = c.args.id.now in
    let unkept : is_kept id i.pairs.items ≡ false = sym (c.is_kept.ensures ∙ ap (is_kept id) c.as_slice-2.ensures.value) ∙ c.if-is_kept.false in
    let to : Some c.in-Some.other ≡ acceptor i.nodes.items c.args.node id = c.in-Some.ensures.acceptor ∙ ap (λ (ns : List Addr). acceptor ns c.args.node id) c.as_slice.ensures in
    rw (← c.self.view_is) (arrives_there c.keep.result id i.pairs.items (acceptor i.nodes.items c.args.node id) c.in-Some.other (g.H.Holder.seen c.args.h.now) (g.H.Holder.seen c.incoming.new.self) to unkept c.in_ok-incoming.ensures.ok)
