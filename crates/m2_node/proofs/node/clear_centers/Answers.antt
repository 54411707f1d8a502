-- Those that are left, and the last of them.
use Rattle.std.proofs.Common.{[], ◌∷◌, subst}
use Rattle.std.specs.List.{AllByRecursion}
use Rattle.m2_bytes.proofs.m2_lemmas.Lists.{all_back, all_front}
use Rattle.m2_node.specs.Nodes.{IsServedBy}
use Rattle.m2_node.proofs.node.clear_centers.Goals as goal

pub clear_center-passes-requires : goal.clear_center-passes-requires
clear_center-passes-requires g c =
    let served = IsServedBy c.args.shared.now.numbers c.args.shared.now.throttles in
    (all_back served c.pop.new.self.items (c.in-Some.center ∷ []) (subst (AllByRecursion served) c.in-Some.ensures.items c.centers.invariant)).0

pub centers-preserved-in-Some : goal.centers-preserved-in-Some
centers-preserved-in-Some g c =
    let served = IsServedBy c.args.shared.now.numbers c.args.shared.now.throttles in
    all_front served c.pop.new.self.items (c.in-Some.center ∷ []) (subst (AllByRecursion served) c.in-Some.ensures.items c.centers.invariant)

pub centers-preserved : goal.centers-preserved
centers-preserved g c =
    let served = IsServedBy c.args.shared.now.numbers c.args.shared.now.throttles in
    all_front served c.pop.new.self.items (c.in-Some.center ∷ []) (subst (AllByRecursion served) c.in-Some.ensures.items c.centers.invariant)
