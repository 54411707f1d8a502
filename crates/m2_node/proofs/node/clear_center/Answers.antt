-- What is left of it was granted by the throttles that it is given back to.
use Rattle.std.proofs.Common.{sym, subst}
use Rattle.m2_dispatch.specs.m2_shared.Gates.{places}
use Rattle.m2_script.specs.m2_center.Finishing.{IsGranted}
use Rattle.m2_node.proofs.node.clear_center.Goals as goal

pub clear-fast-requires-clause-all : goal.clear-fast-requires-clause-all
clear-fast-requires-clause-all g c =
    (subst (IsGranted (places c.args.shared.now.throttles)) (sym c.records.view_is) (subst (λ p. IsGranted p c.finished.result) c.requires.throttles_places c.finished.ensures.granted)).out

pub finish-queued-requires-clause-letters : goal.finish-queued-requires-clause-letters
finish-queued-requires-clause-letters g c =
    (subst (IsGranted (places c.args.shared.now.throttles)) (sym c.records.view_is) (subst (λ p. IsGranted p c.finished.result) c.requires.throttles_places c.finished.ensures.granted)).queued
