use Rattle.std.proofs.Common.{ap, subst, ◌∙◌}
use Rattle.m2_addr.specs.Addr.{ipv4_at}
use Rattle.m2_addr.specs.Outcome.{GivesFront}
use Rattle.m2_addr.proofs.Shape.{ipv4_again, other_refused, is_given, is_refused}
use Rattle.m2_addr.specs.declared.fault.AddrFault.TheVariants.{NotIpv4}
use Rattle.m2_addr.proofs.reading.read_v4.Goals as goal

pub returns-clause-only : goal.returns-clause-only
returns-clause-only c = λ a text rest spelled e. is_given c.ipv4.result c.ipv4.new.r a rest (subst (λ x. GivesFront (λ y. y) c.ipv4.result c.ipv4.new.r x) (ap ipv4_at e ∙ ipv4_again a text rest spelled) c.ipv4.ensures.exact)

pub returns-clause-not_ipv4 : goal.returns-clause-not_ipv4
returns-clause-not_ipv4 c = λ b text rest spelled e. is_refused c.ipv4.result c.ipv4.new.r NotIpv4 (subst (λ x. GivesFront (λ y. y) c.ipv4.result c.ipv4.new.r x) (ap ipv4_at e ∙ other_refused b text rest spelled) c.ipv4.ensures.exact)
