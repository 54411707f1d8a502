use Rattle.std.proofs.Common.{length, sym, subst}
use Rattle.m2_fabric.specs.InStep.{IsInStep, SeenFabric}
use Rattle.m2_fabric.proofs.Flowing.{passing_stays_in_step}
use Rattle.m2_fabric.proofs.Pairs.{kept_by_same}
use Rattle.m2_fabric.proofs.sim_fabric.SimFabric.pass.Goals as goal

pub invariant_of-self : goal.invariant_of-self
invariant_of-self g c = kept_by_same (length c.self.inside.nodes.items) c.self.inside.pairs.items c.pass_all.new.pairs.items c.pass_all.ensures.same c.self.invariant

pub returns-clause-in_step : goal.returns-clause-in_step
returns-clause-in_step g c =
    let i = c.self.inside in
    let f : SeenFabric = record { nodes = i.nodes.items; looked = i.looked.items; pairs = i.pairs.items } in
    let P : SeenFabric → Type 0 = λ f. IsInStep (record { fabric = f; holder = g.H.Holder.seen c.args.h.now }) in
    let in_step : P f = subst P (sym c.self.view_is) c.requires.in_step in
    passing_stays_in_step c.pass_all.result c.args.what.now f c.pass_all.new.pairs.items (g.H.Holder.seen c.args.h.now) (g.H.Holder.seen c.pass_all.new.h) c.self.invariant.once in_step c.pass_all.ensures.pairs c.pass_all.ensures.told
