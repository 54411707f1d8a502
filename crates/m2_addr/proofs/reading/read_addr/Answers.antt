use Rattle.std.proofs.Common.{ap, subst, ◌∙◌}
use Rattle.m2_addr.specs.Addr.{bare, address_at}
use Rattle.m2_addr.specs.Outcome.{GivesRest}
use Rattle.m2_addr.proofs.Shape.{address_exact}
use Rattle.m2_addr.proofs.reading.read_addr.Goals as goal

pub returns-clause-only : goal.returns-clause-only
returns-clause-only c = λ a text rest spelled e. subst (λ x. GivesRest bare c.any.result c.any.new.r x) (ap address_at e ∙ address_exact.again a text rest spelled) c.any.ensures.exact
