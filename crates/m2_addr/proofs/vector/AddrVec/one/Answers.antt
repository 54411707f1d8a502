use Rattle.std.proofs.Common.{[], ◌∷◌, arith, ◌∙◌, ap, ◌++◌}
use Rattle.m2_addr.specs.declared.addr.AnyAddr.TheVariants.{V4}
use Rattle.m2_addr.proofs.Addresses.{ipv4_spelled, one_kept}
use Rattle.m2_addr.proofs.vector.AddrVec.one.Goals as goal

pub invariant_of-result : goal.invariant_of-result
invariant_of-result c = one_kept c.args.a c.push.new.self.items (ipv4_spelled c.args.a (omega arith) (omega arith) (omega arith) (omega arith)) (c.in_ok-push.ensures.items ∙ ap (λ xs. xs ++ V4 c.args.a ∷ []) c.new-items.ensures.items)
