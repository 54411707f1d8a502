-- They are new.
use Rattle.std.proofs.Common.{ap, ◌∙◌}
use Rattle.m2_dispatch.specs.m2_shared.Gates.{bound_at}
use Rattle.m2_dispatch.specs.m2_shared.declared.bounds.Bounds.{Bounds}
use Rattle.m2_node.proofs.sharing.add_shares.Goals as goal

pub returns : goal.returns
returns c = record {
  share = record { numbers = c.in_ok-numbers.numbers; throttles = c.in_ok-throttles.throttles };
  pass = record { numbers = c.in_ok-numbers.number_pass; throttles = c.in_ok-throttles.passes };
  bound = λ gate. c.in_ok-throttles.ensures.bounds gate ∙ ap (λ (b : Bounds). bound_at b gate) c.of_dispatch.ensures;
  shared = record { numbers = c.in_ok-numbers.ensures.shared; throttles = c.in_ok-throttles.ensures.shared };
  first = record { numbers = c.in_ok-numbers.ensures.pass; throttles = c.in_ok-throttles.ensures.passes };
  shares_are = cc;
  passes_are = cc;
}
