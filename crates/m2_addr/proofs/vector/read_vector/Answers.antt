use Rattle.std.proofs.Common.{ap, subst, ◌∙◌}
use Rattle.m2_addr.specs.Vector.{bares, vector_at}
use Rattle.m2_addr.specs.Outcome.{GivesRest}
use Rattle.m2_addr.proofs.Addresses.{vector_exact, vector_found}
use Rattle.m2_addr.proofs.vector.read_vector.Goals as goal

pub returns-clause-only : goal.returns-clause-only
returns-clause-only c = λ addrs text rest spelled e. subst (λ x. GivesRest (λ v. bares v.items) c.vector.result c.vector.new.r x) (ap vector_at e ∙ vector_exact.again addrs text rest spelled) c.vector.ensures.exact

pub returns-clause-found : goal.returns-clause-found
returns-clause-found c = λ fits. vector_found c.args.r.now c.vector.result c.vector.new.r fits c.vector.ensures.exact
