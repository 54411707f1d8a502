-- What is left of it, its halves, and the parts of its port.
use Rattle.std.specs.Prelude.{slice_get}
use Rattle.std.proofs.Common.{◌∙◌, refl, subst, sym}
use Rattle.m2_dispatch.specs.m2_shared.Gates.{places}
use Rattle.m2_node.specs.m2_script.m2_center.Finishing.{IsGranted}
use Rattle.m2_run.proofs.Apart.{center_ended}
use Rattle.m2_run.proofs.ending.end_center.Goals as goal

pub returns-clause-ends : goal.returns-clause-ends
returns-clause-ends g c =
    center_ended c.args.cuts.now (slice_get g.B.Inboxes.inboxes) c.args.number c.args.center _ _ _ _ (c.port.view_is ∙ c.finished.ensures.rest) c.in-Ok.ensures.made c.in-Ok.ensures.inside refl
    (c.into_log-fast.ensures ∙ c.clear.ensures.fast) (c.into_log-queued.ensures ∙ c.finish.ensures.inner) c.in-Ok.ensures.opened c.in-Ok.ensures.apart

pub finish-requires-clause-letters : goal.finish-requires-clause-letters
finish-requires-clause-letters g c =
    (subst (IsGranted (places c.args.shared.now.throttles)) (sym c.port.view_is) (subst (λ p. IsGranted p c.finished.result) c.requires.throttles_places c.finished.ensures.granted)).queued

pub clear-requires-clause-all : goal.clear-requires-clause-all
clear-requires-clause-all g c =
    (subst (IsGranted (places c.args.shared.now.throttles)) (sym c.port.view_is) (subst (λ p. IsGranted p c.finished.result) c.requires.throttles_places c.finished.ensures.granted)).out
