-- Where none is shared each pass is of its throttle.
use Rattle.std.proofs.Common.{sym, subst}
use Rattle.m2_shared.specs.Gates.{ArePassesOf, alone}
use Rattle.m2_shared.proofs.Asking.{alone_passes}
use Rattle.m2_shared.proofs.throttles.Throttles.alone.Goals as goal

pub returns-clause-of : goal.returns-clause-of
returns-clause-of c =
    subst (λ t. ArePassesOf t c.alone_of.result.1) (sym c.alone_of.ensures.throttles)
    (subst (λ p. ArePassesOf (alone c.args.bounds.now) p) (sym c.alone_of.ensures.passes) (alone_passes c.args.bounds.now))
